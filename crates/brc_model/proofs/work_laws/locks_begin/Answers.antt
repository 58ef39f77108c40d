use Rattle.brc_model.proofs.Keeping.LocksBegin as locks
use Rattle.brc_model.proofs.work_laws.locks_begin.Goals as goal

pub returns : goal.returns
returns c = locks.locks_begin
