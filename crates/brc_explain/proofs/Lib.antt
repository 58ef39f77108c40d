mod Named
mod RowsOfSteps
mod Steps
mod Walks
