use Rattle.brc_model.proofs.Keeping.AloneBegins as alone
use Rattle.brc_model.proofs.work_laws.kinds_are_asked.Goals as goal

pub returns : goal.returns
returns c = alone.kinds_asked
