use Rattle.brc_table.specs.Hands.{IsOf, IsRunning}
use Rattle.brc_heap_tests.proofs.births.born_by.Given as goal

abbrev pub invariant-loop-row : goal.invariant-loop-row
invariant-loop-row l = IsOf l.heap l.hand × IsRunning l.hand.view
