use Rattle.brc_model.proofs.Promises.Guarded as guarded
use Rattle.brc_model.proofs.guard_laws.guarded_cells_stay.Goals as goal

pub returns : goal.returns
returns c = guarded.cells_stay
