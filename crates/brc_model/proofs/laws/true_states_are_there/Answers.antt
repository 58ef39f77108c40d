use Rattle.brc_model.proofs.Promises.TrueStates.{true_states, true_where_reached}
use Rattle.brc_model.proofs.laws.true_states_are_there.Goals as goal

pub returns-clause-there : goal.returns-clause-there
returns-clause-there c = true_states

pub returns-clause-serve : goal.returns-clause-serve
returns-clause-serve c = true_where_reached
