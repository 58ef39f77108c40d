use Rattle.brc_model.proofs.Promises.Births as births
use Rattle.brc_model.proofs.row_laws.closed_rows_were_born.Goals as goal

pub returns : goal.returns
returns c = births.closed_were_born
