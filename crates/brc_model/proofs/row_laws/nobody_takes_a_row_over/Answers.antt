use Rattle.brc_model.proofs.Promises.RowLaws as rows
use Rattle.brc_model.proofs.row_laws.nobody_takes_a_row_over.Goals as goal

pub returns : goal.returns
returns c = rows.owners_stay
