use Rattle.brc_table.proofs.words.Words.gate_lock.Given as goal

abbrev pub ghosts-lock_gate : goal.ghosts-lock_gate
ghosts-lock_gate g a = record { target = a.row }
