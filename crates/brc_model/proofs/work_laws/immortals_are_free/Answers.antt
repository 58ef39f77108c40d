use Rattle.brc_model.proofs.Keeping.FreeReferences as free
use Rattle.brc_model.proofs.work_laws.immortals_are_free.Goals as goal

pub returns : goal.returns
returns c = free.immortals_are_free
