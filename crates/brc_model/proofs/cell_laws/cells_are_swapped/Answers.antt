use Rattle.brc_model.proofs.Keeping.CellsSwapped as swapped
use Rattle.brc_model.proofs.cell_laws.cells_are_swapped.Goals as goal

pub returns : goal.returns
returns c = swapped.cells_are_swapped
