use Rattle.brc_schedule.proofs.LongerTexts.{fault_stays}
use Rattle.brc_schedule.proofs.laws.fault_stays.Goals as goal

pub returns : goal.returns
returns c = fault_stays c.texts_round_trip.ensures
