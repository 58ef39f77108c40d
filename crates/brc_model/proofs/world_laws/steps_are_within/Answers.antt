use Rattle.brc_model.proofs.Limits.StepsAreWithin as within
use Rattle.brc_model.proofs.world_laws.steps_are_within.Goals as goal

pub returns : goal.returns
returns c = within.steps_within
