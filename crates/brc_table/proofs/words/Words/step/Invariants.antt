use Rattle.brc_table.proofs.words.Words.step.Given as goal

abbrev pub ghosts-step_from : goal.ghosts-step_from
ghosts-step_from g a = record { begins = λ v. v; lines = a.self.now.lines }
