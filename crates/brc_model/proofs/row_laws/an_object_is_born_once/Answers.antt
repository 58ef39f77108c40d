use Rattle.brc_model.proofs.Promises.Births as births
use Rattle.brc_model.proofs.row_laws.an_object_is_born_once.Goals as goal

pub returns : goal.returns
returns c = births.born_once
