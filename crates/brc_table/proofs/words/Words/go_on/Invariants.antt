use Rattle.brc_table.specs.Accesses.{row_of}
use Rattle.brc_table.specs.Turns.{turned_to}
use Rattle.brc_table.proofs.words.Words.go_on.Given as goal

abbrev pub ghosts-step_of : goal.ghosts-step_of
ghosts-step_of g a = record { begins = λ v. turned_to a._work v (row_of a.duty.now); lines = a.self.now.lines }
