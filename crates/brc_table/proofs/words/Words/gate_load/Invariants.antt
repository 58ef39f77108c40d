use Rattle.brc_table.specs.Views.{settling}
use Rattle.brc_table.proofs.words.Words.gate_load.Given as goal

abbrev pub ghosts-step_from : goal.ghosts-step_from
ghosts-step_from g a = record { begins = λ v. settling v; lines = a.self.now.lines }
