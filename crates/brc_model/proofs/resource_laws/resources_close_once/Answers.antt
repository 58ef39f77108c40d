use Rattle.brc_model.proofs.Promises.ResourcesClose as resources
use Rattle.brc_model.proofs.resource_laws.resources_close_once.Goals as goal

pub returns : goal.returns
returns c = resources.close_once
