use Rattle.brc_model.proofs.Promises.Bounded.{calls_bounded, threads_bounded}
use Rattle.brc_model.proofs.call_laws.calls_are_bounded.Goals as goal

pub returns-clause-call : goal.returns-clause-call
returns-clause-call c = calls_bounded

pub returns-clause-thread : goal.returns-clause-thread
returns-clause-thread c = threads_bounded
