use Rattle.brc_world.proofs.Running.{world_of_machine}
use Rattle.brc_world.proofs.laws.runs_follow_machines.Goals as goal

pub returns : goal.returns
returns c = world_of_machine c.worlds_follow_machines.ensures
