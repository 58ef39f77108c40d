use Rattle.brc_table.proofs.Ending.{first_kinds}
use Rattle.brc_table.proofs.laws.first_kinds_stay.Goals as goal

pub returns : goal.returns
returns c = first_kinds
