use Rattle.brc_model.proofs.Promises.Safe as safe
use Rattle.brc_model.proofs.laws.accepted_is_safe.Goals as goal

pub returns : goal.returns
returns c = safe.accepted_is_safe
