use Rattle.brc_table.proofs.words.Words.join.Given as goal

abbrev pub ghosts-take_in : goal.ghosts-take_in
ghosts-take_in g a = record { view = a.gone.view }
