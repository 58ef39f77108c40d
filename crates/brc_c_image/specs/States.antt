-- The checker's state of a store of references.
use Rattle.std.specs.Prelude.{ℕ, zero, suc, Bool, if◌then◌else◌, List, ◌∷◌, replicate, Option, None, Some, slice_set}
use Rattle.brc_lang.specs.declared.kind.Kind.TheVariants as kinds
use Rattle.brc_model.specs.declared.state.Slot.{Slot}
use Rattle.brc_model.specs.declared.state.Slot.TheVariants.{Empty, Owned, Caller, Locked}
use Rattle.brc_model.specs.declared.state.State.{State}
use Rattle.brc_c_store.specs.declared.register.Register.{Register}
use Rattle.brc_c_store.specs.declared.register.RegisterSet.{RegisterSet}
use Rattle.brc_c_store.specs.declared.rules.Rules.{Rules}
use Rattle.brc_c_store.specs.Registers.{first_of, next_of}
use Rattle.brc_c_store.specs.Stores.{Contents, is_locked, owned_registers}
use Rattle.brc_c_paths.specs.Registers.{items_of}

-- what each call of a text is lent: a list that it may lock, any object, and a list that isn't locked
abbrev pub lent_slots : List Slot
lent_slots = Caller kinds.List ∷ Caller kinds.Any ∷ Caller kinds.List ∷ replicate 13 Empty

-- the slots in which the registers of a set have this, from a register on
abbrev pub filled_from : ℕ → RegisterSet → Slot → List Slot → Option Register → List Slot
filled_from zero set slot slots next = slots
filled_from (suc left) set slot slots None = slots
filled_from (suc left) set slot slots (Some r) =
    filled_from left set slot (slice_set slots r.0 slot) (next_of set r)

abbrev pub filled : RegisterSet → Slot → List Slot → List Slot
filled set slot slots = filled_from 13 set slot slots (first_of set)

-- the state in which registers own references or have borrowed items, and the lock is locked or not
abbrev pub state_with : RegisterSet → RegisterSet → Bool → State
state_with owned items is_held = record {
  slots = filled owned (Owned kinds.Any) (filled items (Locked kinds.Any) lent_slots);
  locked = if is_held then Some 0 else None;
}

-- the state of a store
abbrev pub state_of : Rules → Contents → State
state_of rules c = state_with (owned_registers c) (items_of c) (is_locked rules c)
