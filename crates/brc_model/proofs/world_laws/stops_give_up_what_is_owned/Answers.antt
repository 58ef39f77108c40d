use Rattle.brc_model.proofs.Promises.Stops.{stops_give_up, stops_between_calls}
use Rattle.brc_model.proofs.world_laws.stops_give_up_what_is_owned.Goals as goal

pub returns-clause-in_call : goal.returns-clause-in_call
returns-clause-in_call c = stops_give_up

pub returns-clause-between : goal.returns-clause-between
returns-clause-between c = stops_between_calls
