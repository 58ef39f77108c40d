use Rattle.brc_model.proofs.Promises.Births as births
use Rattle.brc_model.proofs.row_laws.born_rows_are_listed.Goals as goal

pub returns : goal.returns
returns c = births.born_listed
