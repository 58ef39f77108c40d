use Rattle.std.proofs.Common.{◌≡◌, ◌-◌, ◌∷◌, replicate}
use Rattle.std.specs.Prelude.{None, Some}
use Rattle.brc_check.proofs.filling.first_entries.Given as goal

abbrev pub invariant-loop-at : goal.invariant-loop-at
invariant-loop-at l = l.entries ≡ Some l.entry ∷ replicate (l._at - 1) None
