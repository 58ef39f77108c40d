use Rattle.brc_model.proofs.Promises.ResourcesClose as resources
use Rattle.brc_model.proofs.resource_laws.lent_resources_are_used_alone.Goals as goal

pub returns : goal.returns
returns c = resources.used_alone
