use Rattle.brc_world.proofs.Tracing.{seen_is_made}
use Rattle.brc_world.proofs.laws.sights_are_traces.Goals as goal

pub returns : goal.returns
returns c = seen_is_made c.worlds_follow_machines.ensures
