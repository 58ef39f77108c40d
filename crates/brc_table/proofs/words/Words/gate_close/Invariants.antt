use Rattle.brc_table.specs.Views.{field_emptied}
use Rattle.brc_table.proofs.words.Words.gate_close.Given as goal

abbrev pub ghosts-step_from : goal.ghosts-step_from
ghosts-step_from g a = record { begins = field_emptied; lines = a.self.now.lines }
