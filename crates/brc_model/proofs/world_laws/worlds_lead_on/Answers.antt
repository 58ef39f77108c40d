use Rattle.brc_model.proofs.Promises.Worlds as worlds
use Rattle.brc_model.proofs.world_laws.worlds_lead_on.Goals as goal

pub returns-clause-first : goal.returns-clause-first
returns-clause-first c = worlds.first_reachable

pub returns-clause-step : goal.returns-clause-step
returns-clause-step c = worlds.step_reachable
