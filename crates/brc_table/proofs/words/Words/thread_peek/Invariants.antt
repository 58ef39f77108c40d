use Rattle.brc_table.proofs.words.Words.thread_peek.Given as goal

abbrev pub ghosts-peek : goal.ghosts-peek
ghosts-peek g a = record { number = a.thread }
