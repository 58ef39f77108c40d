use Rattle.brc_model.proofs.Promises.HostCalls as calls
use Rattle.brc_model.proofs.host_laws.calls_use_what_is_lent.Goals as goal

pub returns : goal.returns
returns c = calls.calls_use_the_lent
