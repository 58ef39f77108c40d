use Rattle.brc_model.proofs.Keeping.WorkBegins as work
use Rattle.brc_model.proofs.work_laws.retains_begin.Goals as goal

pub returns : goal.returns
returns c = work.retains_begin
