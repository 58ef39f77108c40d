use Rattle.brc_table.specs.Views.{field_filled}
use Rattle.brc_table.proofs.words.Words.first_local_store.Given as goal

abbrev pub ghosts-step_from : goal.ghosts-step_from
ghosts-step_from g a = record { begins = field_filled; lines = a.self.now.lines }
