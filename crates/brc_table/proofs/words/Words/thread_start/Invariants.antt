use Rattle.brc_table.proofs.words.Words.thread_start.Given as goal

abbrev pub ghosts-start : goal.ghosts-start
ghosts-start g a = record { number = a.thread }
