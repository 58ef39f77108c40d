use Rattle.brc_model.proofs.Promises.Gates as gates
use Rattle.brc_model.proofs.row_laws.gates_tell_what_is_closed.Goals as goal

pub returns : goal.returns
returns c = gates.gates_tell
