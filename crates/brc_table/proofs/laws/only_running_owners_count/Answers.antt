use Rattle.brc_table.proofs.Guarding.{owners_count}
use Rattle.brc_table.proofs.laws.only_running_owners_count.Goals as goal

pub returns : goal.returns
returns c = owners_count c.owners_count_alone.ensures
