use Rattle.brc_model.proofs.Promises.FieldsKnown.{locked_full}
use Rattle.brc_model.proofs.field_laws.locked_fields_are_full.Goals as goal

pub returns : goal.returns
returns c = locked_full
