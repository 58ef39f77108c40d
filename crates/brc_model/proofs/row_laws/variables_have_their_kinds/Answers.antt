use Rattle.brc_model.proofs.Promises.KnownKinds as kinds
use Rattle.brc_model.proofs.row_laws.variables_have_their_kinds.Goals as goal

pub returns : goal.returns
returns c = kinds.kinds_are_known
