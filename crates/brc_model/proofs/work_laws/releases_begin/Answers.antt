use Rattle.brc_model.proofs.Keeping.WorkBegins as work
use Rattle.brc_model.proofs.work_laws.releases_begin.Goals as goal

pub returns : goal.returns
returns c = work.releases_begin
