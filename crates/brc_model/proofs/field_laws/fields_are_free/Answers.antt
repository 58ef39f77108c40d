use Rattle.brc_model.proofs.Promises.FieldsFree.{fields_free}
use Rattle.brc_model.proofs.field_laws.fields_are_free.Goals as goal

pub returns : goal.returns
returns c = fields_free
