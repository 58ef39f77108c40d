use Rattle.brc_schedule.proofs.EachText.{each_text}
use Rattle.brc_schedule.proofs.OwnFaults.{own_fault}
use Rattle.brc_schedule.proofs.laws.each_text_reads.Goals as goal

pub returns-clause-a_schedule_or_a_fault : goal.returns-clause-a_schedule_or_a_fault
returns-clause-a_schedule_or_a_fault c = each_text c.texts_round_trip.ensures

pub returns-clause-own_fault : goal.returns-clause-own_fault
returns-clause-own_fault c = own_fault
