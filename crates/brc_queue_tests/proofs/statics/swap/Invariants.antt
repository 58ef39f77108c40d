use Rattle.brc_queue_tests.specs.Embedded.{Holds}
use Rattle.brc_queue_tests.proofs.statics.swap.Given as goal

abbrev pub invariant-loop : goal.invariant-loop
invariant-loop g l = Holds l.heap l.hand l.item
