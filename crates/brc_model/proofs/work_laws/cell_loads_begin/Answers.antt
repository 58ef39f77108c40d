use Rattle.brc_model.proofs.Keeping.LocksBegin as locks
use Rattle.brc_model.proofs.work_laws.cell_loads_begin.Goals as goal

pub returns : goal.returns
returns c = locks.cell_loads_begin
