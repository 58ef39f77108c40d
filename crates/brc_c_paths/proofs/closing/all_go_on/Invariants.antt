use Rattle.std.proofs.Common.{◌≡◌, ℕ, ◌<◌}
use Rattle.std.specs.Prelude.{Some, slice_get}
use Rattle.brc_c_store.specs.Registers.{has_none}
use Rattle.brc_c_paths.specs.declared.point.Point.{Point}
use Rattle.brc_c_paths.specs.Closed.{graph_points, GoesOn}
use Rattle.brc_c_paths.proofs.closing.all_go_on.Given as goal

-- paths go on from the points in front as they say
abbrev pub invariant-loop-point : goal.invariant-loop-point
invariant-loop-point l =
    (k : ℕ) (point : Point) → k < l.point-index → slice_get l.points k ≡ Some point
    → GoesOn l.rules l.graph l.live (graph_points l.points) l.exceeds point (has_none point.store.stale)
