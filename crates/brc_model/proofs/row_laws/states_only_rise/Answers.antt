use Rattle.brc_model.proofs.Promises.RowLaws as rows
use Rattle.brc_model.proofs.row_laws.states_only_rise.Goals as goal

pub returns : goal.returns
returns c = rows.states_rise
