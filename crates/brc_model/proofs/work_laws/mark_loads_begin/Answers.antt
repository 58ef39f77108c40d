use Rattle.brc_model.proofs.Keeping.AloneBegins as alone
use Rattle.brc_model.proofs.work_laws.mark_loads_begin.Goals as goal

pub returns : goal.returns
returns c = alone.mark_loads_begin
