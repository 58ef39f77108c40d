use Rattle.brc_table.proofs.Ending.{seen_ends}
use Rattle.brc_table.proofs.laws.seen_ends_are_so.Goals as goal

pub returns : goal.returns
returns c = seen_ends
