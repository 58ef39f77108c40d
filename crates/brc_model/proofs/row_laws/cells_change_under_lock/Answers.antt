use Rattle.brc_model.proofs.Promises.RowLaws as rows
use Rattle.brc_model.proofs.row_laws.cells_change_under_lock.Goals as goal

pub returns : goal.returns
returns c = rows.cells_under_lock
