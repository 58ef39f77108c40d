use Rattle.brc_model.proofs.Keeping.LocksBegin as locks
use Rattle.brc_model.proofs.work_laws.unlocks_begin.Goals as goal

pub returns : goal.returns
returns c = locks.unlocks_begin
