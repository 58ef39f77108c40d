use Rattle.brc_model.proofs.Promises.Guarded as guarded
use Rattle.brc_model.proofs.guard_laws.owners_count_alone.Goals as goal

pub returns : goal.returns
returns c = guarded.owners_alone
