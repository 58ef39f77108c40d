use Rattle.brc_table.proofs.words.Words.cell_swap.Given as goal

abbrev pub ghosts-swap_item : goal.ghosts-swap_item
ghosts-swap_item g a = record { list = a.row; cell = a.cell; item = a.item }
