-- What main keeps for the hands that it gives out: a spare for each worker, which is spent when main gives out the
-- worker's hand.
use Rattle.std.specs.Prelude.{ℕ, ◌-◌, ◌==◌, Bool, true, false, if◌then◌else◌, Option, Some, None, List, slice_get}

-- Says whether there was a spare, and it is spent.
abbrev pub is_spent : {A : Type 0} → Option (Option A) → Bool
is_spent None = false
is_spent (Some None) = true
is_spent (Some (Some spare)) = false

-- Says whether the thread's spare is spent. The first is the first worker's; main has none.
abbrev pub is_spent_for : {A : Type 0} → List (Option A) → ℕ → Bool
is_spent_for spares t = if t == 0 then false else is_spent (slice_get spares (t - 1))
