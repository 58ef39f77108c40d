use Rattle.brc_model.proofs.Promises.Births as births
use Rattle.brc_model.proofs.row_laws.used_rows_are_born.Goals as goal

pub returns : goal.returns
returns c = births.used_are_born
