-- What tells two states of a variable apart.
use Rattle.std.specs.Prelude.{ℕ, ◌+◌, Option, None, Some}
use Rattle.brc_lang.specs.declared.kind.Kind.{Kind}
use Rattle.brc_lang.specs.declared.kind.Kind.TheVariants.{Any}
use Rattle.brc_model.specs.declared.state.Slot.{Slot}
use Rattle.brc_model.specs.declared.state.Slot.TheVariants.{Empty, Owned, Caller, Locked}

-- how the variable's reference is held, and the kind of its object
abbrev pub slot_parts : Slot → ℕ × Kind
slot_parts Empty = (0, Any)
slot_parts (Owned kind) = (1, kind)
slot_parts (Caller kind) = (2, kind)
slot_parts (Locked kind) = (3, kind)

-- the number of the locked variable, counted from 1, or 0
abbrev pub locked_number : Option ℕ → ℕ
locked_number None = 0
locked_number (Some variable) = variable + 1
