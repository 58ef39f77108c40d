use Rattle.brc_model.proofs.Promises.StepsMove.{going_on_moves, claim_moves, claim_misses, claim_stays, stop_moves, stop_stays, gone_stays}
use Rattle.brc_model.proofs.Promises.LocksWait.{waiting_stays}
use Rattle.brc_model.proofs.world_laws.steps_move.Goals as goal

pub returns-clause-goes_on : goal.returns-clause-goes_on
returns-clause-goes_on c = going_on_moves

pub returns-clause-waits : goal.returns-clause-waits
returns-clause-waits c = waiting_stays

pub returns-clause-claims : goal.returns-clause-claims
returns-clause-claims c = claim_moves

pub returns-clause-misses : goal.returns-clause-misses
returns-clause-misses c = claim_misses

pub returns-clause-stays : goal.returns-clause-stays
returns-clause-stays c = claim_stays

pub returns-clause-stops : goal.returns-clause-stops
returns-clause-stops c = stop_moves

pub returns-clause-goes_past : goal.returns-clause-goes_past
returns-clause-goes_past c = stop_stays

pub returns-clause-gone : goal.returns-clause-gone
returns-clause-gone c = gone_stays
