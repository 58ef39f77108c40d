use Rattle.brc_model.proofs.Promises.FieldsFree.{needed_unlocked}
use Rattle.brc_model.proofs.field_laws.needed_fields_are_unlocked.Goals as goal

pub returns : goal.returns
returns c = needed_unlocked
