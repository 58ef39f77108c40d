use Rattle.std.specs.Prelude.{◌≤◌}
use Rattle.brc_bench.specs.Ready.{IsReady}
use Rattle.brc_bench.proofs.pairs.pairs.Given as goal

abbrev pub invariant-loop : goal.invariant-loop
invariant-loop l = IsReady l.heap l.hand l.row × (l.kept ≤ l.counter)
