use Rattle.brc_model.proofs.Promises.RowLaws as rows
use Rattle.brc_model.proofs.row_laws.kinds_stay.Goals as goal

pub returns : goal.returns
returns c = rows.kinds_stay
