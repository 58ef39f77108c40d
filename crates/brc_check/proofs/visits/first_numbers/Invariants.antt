use Rattle.std.proofs.Common.{◌≡◌, ◌-◌, ◌∷◌, replicate}
use Rattle.std.specs.Prelude.{None, Some}
use Rattle.brc_check.proofs.visits.first_numbers.Given as goal

abbrev pub invariant-loop-at : goal.invariant-loop-at
invariant-loop-at l = l.numbers ≡ Some 0 ∷ replicate (l._at - 1) None
