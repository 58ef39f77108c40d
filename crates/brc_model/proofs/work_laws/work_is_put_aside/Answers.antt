use Rattle.brc_model.proofs.Keeping.WorkAside as work
use Rattle.brc_model.proofs.work_laws.work_is_put_aside.Goals as goal

pub returns : goal.returns
returns c = work.work_put_aside
