use Rattle.std.proofs.Common.{◌≡◌, ℕ, ◌<◌}
use Rattle.std.specs.Prelude.{Some}
use Rattle.brc_c_outline.specs.declared.outline.Point.{Point}
use Rattle.brc_c_outline.specs.Outlines.{point_at}
use Rattle.brc_c_image.specs.GraphOutlines.{HoldsAs, label_of}
use Rattle.brc_c_image.proofs.matching.are_points.Given as goal

-- the outline's points in front are those that they are said to be
abbrev pub invariant-loop-number : goal.invariant-loop-number
invariant-loop-number l =
    (u : ℕ) (point : Point) → u < l.number → point_at l.outline u ≡ Some point
    → HoldsAs l.rules l.graph l.found l.outline l.places l.is_whole u point (label_of l.labels u)
