use Rattle.brc_model.proofs.Promises.FieldsFree.{fields_unlocked}
use Rattle.brc_model.proofs.field_laws.given_fields_are_unlocked.Goals as goal

pub returns : goal.returns
returns c = fields_unlocked
