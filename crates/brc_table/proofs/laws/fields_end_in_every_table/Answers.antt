use Rattle.brc_table.proofs.Ending.{fields_ended}
use Rattle.brc_table.proofs.laws.fields_end_in_every_table.Goals as goal

pub returns : goal.returns
returns c = fields_ended c.fields_end.ensures c.gone_threads_hold_nothing.ensures
