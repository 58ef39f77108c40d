use Rattle.brc_table.proofs.Ending.{rows_ended}
use Rattle.brc_table.proofs.laws.rows_end_in_every_table.Goals as goal

pub returns : goal.returns
returns c = rows_ended c.rows_end.ensures
