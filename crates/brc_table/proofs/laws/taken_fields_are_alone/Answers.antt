use Rattle.brc_table.proofs.Guarding.{taken_alone}
use Rattle.brc_table.proofs.laws.taken_fields_are_alone.Goals as goal

pub returns : goal.returns
returns g c = taken_alone
