use Rattle.brc_model.proofs.Keeping.AloneBegins as alone
use Rattle.brc_model.proofs.counting_laws.chains_are_there.Goals as goal

pub returns : goal.returns
returns c = alone.chains_there
