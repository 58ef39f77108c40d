use Rattle.brc_model.specs.Duties.{new_word}
use Rattle.brc_table.specs.Views.{bearing}
use Rattle.brc_table.proofs.words.Words.kind_store.Given as goal

abbrev pub ghosts-step_from : goal.ghosts-step_from
ghosts-step_from g a = record { begins = λ v. bearing v (new_word v.layout 0 0 a.duty.now 0); lines = a.self.now.lines }
