use Rattle.brc_model.proofs.Promises.Guarded as guarded
use Rattle.brc_model.proofs.guard_laws.fields_are_guarded.Goals as goal

pub returns : goal.returns
returns c = guarded.fields_guarded
