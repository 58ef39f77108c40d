use Rattle.brc_model.proofs.Promises.RowLaws as rows
use Rattle.brc_model.proofs.row_laws.an_event_closes_one_row_anew.Goals as goal

pub returns : goal.returns
returns c = rows.closes_anew
