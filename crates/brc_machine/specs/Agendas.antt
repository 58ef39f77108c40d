-- The duties of an agenda that need no step.
use Rattle.std.specs.Prelude.{ℕ, Bool, false, ◌==◌}
use Rattle.brc_model.specs.declared.duty.Duty.{Duty}
use Rattle.brc_model.specs.declared.duty.Duty.TheVariants.{Settle, Scan, TakeFound}

-- a duty that needs no step: to settle an empty chain, to scan no rows, or to take no marks
abbrev pub is_idle : ℕ → Duty → Bool
is_idle head Settle = head == 0
is_idle head (Scan w n) = n == 0
is_idle head (TakeFound w marks) = marks == 0
is_idle head _ = false
