use Rattle.brc_schedule.proofs.Uniqueness.{one_schedule, one_fault, apart}
use Rattle.brc_schedule.proofs.laws.one_schedule.Goals as goal

pub returns-clause-one_schedule : goal.returns-clause-one_schedule
returns-clause-one_schedule c = one_schedule c.texts_round_trip.ensures

pub returns-clause-one_fault : goal.returns-clause-one_fault
returns-clause-one_fault c = one_fault c.texts_round_trip.ensures

pub returns-clause-apart : goal.returns-clause-apart
returns-clause-apart c = apart c.texts_round_trip.ensures
