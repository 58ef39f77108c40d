use Rattle.brc_queue_tests.specs.Sharing.{HoldsRoot}
use Rattle.brc_queue_tests.proofs.meeting.takes_at.Given as goal

abbrev pub invariant-loop : goal.invariant-loop
invariant-loop l = HoldsRoot l.heap l.hand
