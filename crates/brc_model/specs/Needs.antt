-- What an instruction needs of the world beside its variables: an object of a kind that can be locked, the lock of a
-- list before its items are used, the lock of a file or socket before its resource is, a number to write, an object to
-- put into a list, whatever the index, objects of the parameters' kinds for a call, and no lock at the beginning nor at
-- the end of a call. (Python/C API manual, Critical Section API.)
use Rattle.std.specs.Prelude.{ℕ, zero, suc, Bool, true, false, ◌&&◌, ◌==◌, not, List, [], ◌∷◌, Option, None, Some, is_some, slice_get}
use Rattle.std.specs.List.{list_all}
use Rattle.brc_lang.specs.declared.kind.Kind.{Kind}
use Rattle.brc_lang.specs.declared.kind.Kind.TheVariants as kinds
use Rattle.brc_lang.specs.declared.module.Instr.{Instr}
use Rattle.brc_lang.specs.declared.module.Instr.TheVariants.{Lock, Unlock, Borrow, Fetch, Set, Put, Ret, Fail, Read, Write, Call}
use Rattle.brc_lang.specs.declared.parameter.Argument.{Argument}
use Rattle.brc_model.specs.declared.actor.Place.{Place}
use Rattle.brc_model.specs.declared.actor.Place.TheVariants.{Idle, InCall, Inside, Stopping, Exiting}
use Rattle.brc_model.specs.declared.address.Address.{Address}
use Rattle.brc_model.specs.declared.address.Address.TheVariants.{KindOf}
use Rattle.brc_model.specs.Kinds.{kind_of_word}
use Rattle.brc_model.specs.SlotStates.{is_one_of, lockable, with_resource}
use Rattle.brc_model.specs.Threads.{row_of, entry_variables}

-- the kind of the row's object, by its kind word
abbrev pub kind_at : (Address → ℕ) → Option ℕ → Kind
kind_at memory None = kinds.Any
kind_at memory (Some x) = kind_of_word (memory (KindOf x))

-- Says whether a thread that has locked the first row has locked the second one.
abbrev pub has_locked : Option ℕ → Option ℕ → Bool
has_locked (Some x) (Some y) = x == y
has_locked _ _ = false

-- Says whether the row is a list's, and the thread has locked it.
abbrev pub has_locked_list : (Address → ℕ) → Option ℕ → Option ℕ → Bool
has_locked_list memory locked row =
    is_one_of (kind_at memory row) (kinds.List ∷ []) && has_locked locked row

-- Says whether the row is a file's or a socket's, and the thread has locked it.
abbrev pub has_locked_resource : (Address → ℕ) → Option ℕ → Option ℕ → Bool
has_locked_resource memory locked row = is_one_of (kind_at memory row) with_resource && has_locked locked row

-- Says whether an object of the first kind is one for a parameter of the second: `Any` takes each.
abbrev pub suits_kind : Kind → Kind → Bool
suits_kind kind kinds.Any = true
suits_kind kind asked = is_one_of kind (asked ∷ [])

-- Says whether the argument's object is of its parameter's kind.
abbrev pub has_its_kind : (Address → ℕ) → List (Option ℕ) → Argument → Bool
has_its_kind memory variables a = suits_kind (kind_at memory (row_of variables a.from)) a.parameter.kind

-- Says whether the instruction has what it needs: `locked` is the row that the thread has locked.
abbrev pub has_needs : (Address → ℕ) → Option ℕ → List (Option ℕ) → Instr → Bool
has_needs memory locked variables (Lock object) =
    is_one_of (kind_at memory (row_of variables object)) lockable && not (is_some locked)
has_needs memory locked variables (Unlock object) = has_locked locked (row_of variables object)
has_needs memory locked variables (Borrow to list index otherwise) =
    has_locked_list memory locked (row_of variables list)
has_needs memory locked variables (Fetch to list index otherwise) =
    has_locked_list memory locked (row_of variables list)
has_needs memory locked variables (Set list index from otherwise) =
    has_locked_list memory locked (row_of variables list)
has_needs memory locked variables (Put list index from otherwise) =
    has_locked_list memory locked (row_of variables list) && is_some (row_of variables from)
has_needs memory locked variables (Read to file most otherwise) =
    has_locked_resource memory locked (row_of variables file)
has_needs memory locked variables (Write file number otherwise) =
    has_locked_resource memory locked (row_of variables file)
    && is_one_of (kind_at memory (row_of variables number)) (kinds.Num ∷ [])
has_needs memory locked variables (Call to callee arguments otherwise) =
    not (is_some locked) && list_all (has_its_kind memory variables) arguments
has_needs memory locked variables (Ret from) = not (is_some locked)
has_needs memory locked variables Fail = not (is_some locked)
has_needs memory locked variables _ = true

abbrev pub lacks_needs : (Address → ℕ) → Option ℕ → List (Option ℕ) → Option Instr → Bool
lacks_needs memory locked variables None = false
lacks_needs memory locked variables (Some i) = not (has_needs memory locked variables i)

-- Says whether the thread's next instruction lacks what it needs. At the end of its code a thread is stuck anyway.
abbrev pub starts_unfit : (Address → ℕ) → Option ℕ → List Instr → Place → Bool
starts_unfit memory locked code (Idle zero) = is_some locked
starts_unfit memory locked code (Idle (suc left)) = lacks_needs memory locked entry_variables (slice_get code 0)
starts_unfit memory locked code (InCall context at variables) =
    lacks_needs memory locked variables (slice_get code at)
starts_unfit memory locked code (Inside context at variables stage) =
    lacks_needs memory locked variables (slice_get code at)
starts_unfit memory locked code (Stopping lock calls) = false
starts_unfit memory locked code Exiting = false
