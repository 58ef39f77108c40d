use Rattle.brc_table.proofs.words.Words.split.Given as goal

abbrev pub ghosts-give_out : goal.ghosts-give_out
ghosts-give_out g a = record { number = a.thread }
