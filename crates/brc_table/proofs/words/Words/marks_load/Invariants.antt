use Rattle.std.specs.Prelude.{ℕ}
use Rattle.brc_model.specs.declared.duty.Duty.{Duty}
use Rattle.brc_model.specs.declared.duty.Duty.TheVariants.{MarksLoad}
use Rattle.brc_table.specs.Views.{loading_marks}
use Rattle.brc_table.proofs.words.Words.marks_load.Given as goal

-- The number of the mark word that the duty loads.
abbrev word_of : Duty → ℕ
word_of (MarksLoad w) = w
word_of _ = 0

abbrev pub ghosts-step_from : goal.ghosts-step_from
ghosts-step_from g a = record { begins = λ v. loading_marks v (word_of a.duty.now); lines = a.self.now.lines }
