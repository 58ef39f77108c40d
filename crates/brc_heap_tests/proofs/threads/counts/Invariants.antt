use Rattle.brc_fixtures.specs.Resting.{IsAlone}
use Rattle.brc_heap_tests.specs.Ready.{IsReadyAt}
use Rattle.brc_heap_tests.proofs.threads.counts.Given as goal

abbrev pub invariant-loop-kept : goal.invariant-loop-kept
invariant-loop-kept l = IsAlone l.heap l.hand

abbrev pub invariant-loop-kept-2 : goal.invariant-loop-kept-2
invariant-loop-kept-2 l = IsReadyAt l.heap l.hand l.row
