-- Which duties are bad: one that touches a freed row, and one that makes a move that isn't allowed.
use Rattle.std.specs.Prelude.{ℕ, Bool, true, false, ◌||◌, ◌==◌, not, Option, None, Some}
use Rattle.brc_model.specs.AbstractState.{are_allowed}
use Rattle.brc_model.specs.declared.duty.Duty.{Duty}
use Rattle.brc_model.specs.declared.address.Address.{Address}
use Rattle.brc_model.specs.declared.address.Address.TheVariants.{Local, Shared, Gate, KindOf, Marks, Cell, Field, Resource, ThreadWord}
use Rattle.brc_model.specs.Duties.{address_of}
use Rattle.brc_model.specs.Moves.{reference_effects}
use Rattle.brc_model.specs.declared.actor.Actor.{Actor}
use Rattle.brc_model.specs.Machine.{Life, Unborn, Live, Dying, Closed, Machine}

-- the row of the object that an access touches; marks and thread words are parts of no object
abbrev pub touched_row : Address → Option ℕ
touched_row (Local x) = Some x
touched_row (Shared x) = Some x
touched_row (Gate x) = Some x
touched_row (KindOf x) = Some x
touched_row (Cell x i) = Some x
touched_row (Field x) = Some x
touched_row (Resource x) = Some x
touched_row (Marks t w) = None
touched_row (ThreadWord t) = None

-- a closed row is freed for all threads, and a dying one for all but the thread that deallocates it
abbrev pub is_freed_for : ℕ → Life → Bool
is_freed_for t Unborn = false
is_freed_for t Live = false
is_freed_for t (Dying u) = not (u == t)
is_freed_for t Closed = true

abbrev pub touches_freed : Machine → ℕ → Option ℕ → Bool
touches_freed m t None = false
touches_freed m t (Some x) = is_freed_for t (m.life x)

abbrev pub is_bad_duty : Machine → ℕ → Actor → Duty → Bool
is_bad_duty m t a d =
    touches_freed m t (touched_row (address_of m.layout t a.head d))
    || not (are_allowed m.layout m.abstract
    (reference_effects m.memory t d (m.memory (address_of m.layout t a.head d))))
