use Rattle.brc_model.proofs.Promises.FieldsKnown.{fields_end}
use Rattle.brc_model.proofs.field_laws.fields_end.Goals as goal

pub returns : goal.returns
returns c = fields_end
