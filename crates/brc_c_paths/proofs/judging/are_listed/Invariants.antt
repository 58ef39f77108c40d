use Rattle.std.proofs.Common.{◌≡◌, ℕ, ◌<◌}
use Rattle.std.specs.Prelude.{Some, slice_get}
use Rattle.brc_c_paths.specs.declared.point.Point.{Point}
use Rattle.brc_c_paths.specs.Paths.{code_at}
use Rattle.brc_c_paths.specs.Closed.{graph_point, IsListedIf}
use Rattle.brc_c_paths.proofs.judging.are_listed.Given as goal

-- what the points in front break is listed
abbrev pub invariant-loop-point : goal.invariant-loop-point
invariant-loop-point l =
    (k : ℕ) (point : Point) → k < l.point-index → slice_get l.points k ≡ Some point
    → IsListedIf l.faults point.node (code_at l.rules l.graph (graph_point point))
