use Rattle.std.specs.Prelude.{◌≤◌}
use Rattle.brc_table.specs.Hands.{IsOf, IsRunning}
use Rattle.brc_bench.proofs.pairs.births.Given as goal

abbrev pub invariant-loop-number : goal.invariant-loop-number
invariant-loop-number l = IsOf l.heap l.hand × IsRunning l.hand.view × (l.made ≤ l.number)
