use Rattle.std.proofs.Common.{◌≡◌, ℕ, ◌<◌}
use Rattle.std.specs.Prelude.{Some, slice_get}
use Rattle.brc_c_outline.specs.Outlines.{HasWay}
use Rattle.brc_c_outline.proofs.validating.has_ways.Given as goal

-- the module goes along the ways in front
abbrev pub invariant-loop-choice : goal.invariant-loop-choice
invariant-loop-choice l =
    (choice to : ℕ) → choice < l.choice → slice_get l.point.ways.items choice ≡ Some to
    → HasWay l.function l.outline l.point to
