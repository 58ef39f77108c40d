use Rattle.std.specs.Prelude.{◌≤◌}
use Rattle.brc_bench.specs.Swaps.{IsAtRest}
use Rattle.brc_bench.proofs.lives.lives.Given as goal

abbrev pub invariant-loop-value : goal.invariant-loop-value
invariant-loop-value g l = IsAtRest l.heap l.hand × (l.made ≤ l.value)
