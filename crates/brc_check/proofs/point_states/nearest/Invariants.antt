use Rattle.std.specs.Prelude.{drop}
use Rattle.brc_check.specs.Lookups.{IsNearest}
use Rattle.brc_check.proofs.point_states.nearest.Given as goal

abbrev pub invariant-loop-number : goal.invariant-loop-number
invariant-loop-number l = IsNearest (drop l.number l.kept) l.at l.found
