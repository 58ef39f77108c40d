use Rattle.brc_model.proofs.Promises.Guarded as guarded
use Rattle.brc_model.proofs.guard_laws.gone_threads_hold_nothing.Goals as goal

pub returns : goal.returns
returns c = guarded.gone_hold_nothing
