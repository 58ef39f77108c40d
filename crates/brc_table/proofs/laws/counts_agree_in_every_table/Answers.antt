use Rattle.brc_table.proofs.Agreeing.{agrees_in_table}
use Rattle.brc_table.proofs.laws.counts_agree_in_every_table.Goals as goal

pub returns : goal.returns
returns c = agrees_in_table c.counts_agree.ensures c.cells_hold.ensures
