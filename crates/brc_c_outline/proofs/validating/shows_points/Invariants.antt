use Rattle.std.proofs.Common.{◌≡◌, ℕ, ◌<◌}
use Rattle.std.specs.Prelude.{Some}
use Rattle.brc_c_outline.specs.declared.outline.Point.{Point}
use Rattle.brc_c_outline.specs.Outlines.{ShowsPoint, point_at}
use Rattle.brc_c_outline.proofs.validating.shows_points.Given as goal

-- the module shows the points in front
abbrev pub invariant-loop-number : goal.invariant-loop-number
invariant-loop-number l =
    (p : ℕ) (point : Point) → p < l.number → point_at l.outline p ≡ Some point
    → ShowsPoint l.function l.outline point
