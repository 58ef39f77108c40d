use Rattle.std.proofs.Common.{◌≡◌, ℕ, ◌<◌}
use Rattle.std.specs.Prelude.{Some}
use Rattle.brc_lang.specs.declared.check_code.CheckCode.{CheckCode}
use Rattle.brc_c_outline.specs.declared.outline.Point.{Point}
use Rattle.brc_c_outline.specs.Outlines.{IsThat, point_at}
use Rattle.brc_c_judge.proofs.only.breaks_only.Given as goal

-- the points in front break no other rule
abbrev pub invariant-loop-point : goal.invariant-loop-point
invariant-loop-point l =
    (p : ℕ) (point : Point) (at' : ℕ) (code' : CheckCode) → p < l.point-index → point_at l.outline p ≡ Some point
    → IsThat point.broken at' code' → (at' ≡ l.at) × (code' ≡ l.code)
