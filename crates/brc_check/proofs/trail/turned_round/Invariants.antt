use Rattle.std.proofs.Common.{◌≡◌, ◌++◌}
use Rattle.std.specs.Prelude.{reverse, take}
use Rattle.brc_check.proofs.trail.turned_round.Given as goal

abbrev pub invariant-loop-k : goal.invariant-loop-k
invariant-loop-k l = l.turned ++ reverse (take l.k l.exits) ≡ reverse l.exits
