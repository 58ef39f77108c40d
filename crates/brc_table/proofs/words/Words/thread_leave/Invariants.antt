use Rattle.brc_table.specs.Views.{leaving}
use Rattle.brc_table.proofs.words.Words.thread_leave.Given as goal

abbrev pub ghosts-step_from : goal.ghosts-step_from
ghosts-step_from g a = record { begins = λ v. leaving v; lines = a.self.now.lines }
