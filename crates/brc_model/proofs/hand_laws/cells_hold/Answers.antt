use Rattle.brc_model.proofs.Limits.CellShares as cells
use Rattle.brc_model.proofs.hand_laws.cells_hold.Goals as goal

pub returns : goal.returns
returns c = cells.cells_hold
