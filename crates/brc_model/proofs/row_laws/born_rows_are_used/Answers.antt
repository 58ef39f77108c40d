use Rattle.brc_model.proofs.Promises.Gates as gates
use Rattle.brc_model.proofs.row_laws.born_rows_are_used.Goals as goal

pub returns : goal.returns
returns c = gates.born_are_used
