pub mod WrongRuns
