use Rattle.brc_table.specs.Accesses.{cell_of, row_of}
use Rattle.brc_table.specs.Views.{loading_cell}
use Rattle.brc_table.proofs.words.Words.cell_load.Given as goal

abbrev pub ghosts-step_from : goal.ghosts-step_from
ghosts-step_from g a =
    record { begins = λ v. loading_cell v (row_of a.duty.now) (cell_of a.duty.now); lines = a.self.now.lines }
