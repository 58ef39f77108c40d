use Rattle.brc_table.specs.Accesses.{row_of}
use Rattle.brc_table.specs.Views.{claiming}
use Rattle.brc_table.proofs.words.Words.mark_claim.Given as goal

abbrev pub ghosts-step_from : goal.ghosts-step_from
ghosts-step_from g a = record { begins = λ v. claiming v (row_of a.duty.now); lines = a.self.now.lines }
