use Rattle.brc_model.proofs.Promises.FieldsKnown.{fields_known}
use Rattle.brc_model.proofs.field_laws.fields_are_known.Goals as goal

pub returns : goal.returns
returns c = fields_known
