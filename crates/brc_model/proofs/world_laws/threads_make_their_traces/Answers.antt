use Rattle.brc_model.proofs.Promises.Trace as trail
use Rattle.brc_model.proofs.world_laws.threads_make_their_traces.Goals as goal

pub returns : goal.returns
returns c = trail.traces_made
