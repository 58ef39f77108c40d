use Rattle.std.proofs.Common.{◌≡◌, ℕ, false, length}
use Rattle.std.specs.Prelude.{slice_get}
use Rattle.brc_table.specs.Spares.{is_spent}
use Rattle.brc_table.proofs.carried.spares_of.Given as goal

abbrev pub invariant-loop : goal.invariant-loop
invariant-loop l =
    (length l.spares.items ≡ l.counter) × ((worker : ℕ) → is_spent (slice_get l.spares.items worker) ≡ false)
