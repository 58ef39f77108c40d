use Rattle.brc_model.proofs.Promises.RowLaws as rows
use Rattle.brc_model.proofs.row_laws.a_row_is_finalised_once.Goals as goal

pub returns : goal.returns
returns c = rows.closed_once
