use Rattle.brc_model.proofs.Promises.Worlds as worlds
use Rattle.brc_model.proofs.world_laws.worlds_follow_machines.Goals as goal

pub returns : goal.returns
returns c = worlds.worlds_follow
