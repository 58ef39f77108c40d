use Rattle.brc_table.proofs.Guarding.{root_is}
use Rattle.brc_table.proofs.laws.root_is_a_list.Goals as goal

pub returns : goal.returns
returns c = root_is
