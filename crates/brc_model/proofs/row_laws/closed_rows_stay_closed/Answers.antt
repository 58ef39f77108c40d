use Rattle.brc_model.proofs.Promises.RowLaws as rows
use Rattle.brc_model.proofs.row_laws.closed_rows_stay_closed.Goals as goal

pub returns : goal.returns
returns c = rows.closed_stays
