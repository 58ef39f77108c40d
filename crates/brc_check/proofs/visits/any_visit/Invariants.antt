use Rattle.std.proofs.Common.{◌≡◌, ◌<◌, ℕ}
use Rattle.std.specs.Prelude.{Some, slice_get}
use Rattle.brc_check.specs.declared.visits.Visit.{Visit}
use Rattle.brc_check.specs.Searching.{IsVisit}
use Rattle.brc_check.proofs.visits.any_visit.Given as goal

abbrev pub invariant-loop-visit : goal.invariant-loop-visit
invariant-loop-visit l =
    (k : ℕ) (v : Visit) → k < l.visit-index → slice_get l.list k ≡ Some v → IsVisit v l.at l.state → ⊥
