-- Stops. A thread that stops unlocks what it has locked, and gives up what its calls hold, without a further call. The
-- states that the module's table gives the calls' points say what that is.
use Rattle.std.specs.Prelude.{ℕ, Bool, suc, ◌||◌, if◌then◌else◌, is_some, List, [], ◌∷◌, length, Option, None, Some, slice_get, slice_set}
use Rattle.std.specs.List.{list_any}
use Rattle.brc_model.specs.declared.state.Slot.{Slot}
use Rattle.brc_model.specs.declared.state.State.{State}
use Rattle.brc_model.specs.declared.state.Exit.TheVariants.{Fault}
use Rattle.brc_lang.specs.declared.module.Instr.{Instr}
use Rattle.brc_lang.specs.declared.module.Function.{Function}
use Rattle.brc_model.specs.declared.actor.OpenCall.{OpenCall}
use Rattle.brc_model.specs.declared.actor.Place.{Place}
use Rattle.brc_model.specs.declared.actor.Place.TheVariants.{Idle, InCall, Stopping}
use Rattle.brc_model.specs.declared.duty.Holding.TheVariants.{ByVariable}
use Rattle.brc_model.specs.declared.duty.Duty.TheVariants.{ReleaseLoad, Settle}
use Rattle.brc_model.specs.SlotStates.{is_owned, after}
use Rattle.brc_model.specs.Threads.{function_at, number_under, row_of}
use Rattle.brc_model.specs.Action.{Action, Skip, Stuck, Silent, Does, always, with_row}

-- the rows of the variables whose states own a reference
abbrev pub owned_rows : List Slot → List (Option ℕ) → List (Option ℕ)
owned_rows [] rows = []
owned_rows (var ∷ slots) [] = []
owned_rows (var ∷ slots) (row ∷ rows) = (if is_owned var then row else None) ∷ owned_rows slots rows

-- the row that the thread has to unlock: that of the locked variable, if there is one
abbrev pub row_locked : Option ℕ → List (Option ℕ) → Option ℕ
row_locked None variables = None
row_locked (Some v) variables = row_of variables v

-- the state that the fault exit of the instruction leaves, if there are both
abbrev pub fault_state : Option Instr → Option State → Option State
fault_state (Some i) (Some s) = Some (after i Fault s)
fault_state i s = None

-- The state in which a call of the function `number` waits for the one that it has made: what the fault exit of its
-- instruction leaves. The success exit leaves the result beside it.
abbrev pub waiting_state : List Function → (ℕ → ℕ → Option State) → ℕ → OpenCall → Option State
waiting_state functions states number o =
    fault_state (slice_get (function_at functions number).code o.at) (states number o.at)

-- the rows of the variables whose states own a reference, if there is a state
abbrev pub owned_by : Option State → List (Option ℕ) → List (Option ℕ)
owned_by None rows = []
owned_by (Some s) rows = owned_rows s.slots rows

-- What the open calls of a thread that calls `first` give up, the nearest first.
abbrev pub given_up : List Function → (ℕ → ℕ → Option State) → ℕ → List OpenCall → List (List (Option ℕ))
given_up functions states first [] = []
given_up functions states first (o ∷ outer) =
    owned_by (waiting_state functions states (number_under first outer) o) o.variables
    ∷ given_up functions states first outer

-- Says whether some of the calls has still to give up a reference.
abbrev pub holds_some : List (List (Option ℕ)) → Bool
holds_some calls = list_any (list_any is_some) calls

-- The place of a thread that has stopped: with a row to unlock or a reference to give up it is stopping, and else it is
-- done with its calls.
abbrev pub stopping : Option ℕ → List (List (Option ℕ)) → Place
stopping lock calls = if is_some lock || holds_some calls then Stopping lock calls else Idle 0

-- the first variable that names a row, or the number of variables if none does
abbrev pub first_named : List (Option ℕ) → ℕ
first_named [] = 0
first_named (None ∷ rows) = suc (first_named rows)
first_named (Some row ∷ rows) = 0

-- Returns the action of a thread that gives up the reference of the call's first variable that has one. `outer` is what
-- the calls further out give up afterwards. After its last reference the thread settles.
abbrev pub give_up_first : List (Option ℕ) → List (List (Option ℕ)) → Action
give_up_first rows outer =
    let v = first_named rows in
    let after = slice_set rows v None ∷ outer in
    with_row (row_of rows v)
    (λ row. Does (ReleaseLoad row (ByVariable (length outer) v)) (if holds_some after then [] else Settle ∷ [])
    (always (stopping None after)))

-- Returns the action of a thread that has stopped and has nothing to unlock: it gives up the references of its calls,
-- one after another, those of the innermost call first, by rising number.
abbrev pub give_up : List (List (Option ℕ)) → Action
give_up [] = Stuck
give_up (rows ∷ outer) = if list_any is_some rows then give_up_first rows outer else give_up outer

-- ---- the stop itself

-- Returns the action of a thread that stops in a call, at a point with this state. It has to unlock what the state says
-- is locked, and to give up what the state says its variables own; what they borrow isn't its own. The calls further
-- out give up the rows of `outer`.
abbrev pub stop_in_call : List (List (Option ℕ)) → List (Option ℕ) → Option State → Action
stop_in_call outer variables None = Stuck
stop_in_call outer variables (Some s) =
    Silent [] (stopping (row_locked s.locked variables) (owned_rows s.slots variables ∷ outer))

-- Returns the action of a thread that calls `first` from outside, and stops at the place. Between two calls it holds
-- nothing by variables.
abbrev pub stop_action : List Function → (ℕ → ℕ → Option State) → ℕ → Place → Action
stop_action functions states first (Idle left) = Silent [] (Idle 0)
stop_action functions states first (InCall context at variables) =
    stop_in_call (given_up functions states first context.outer) variables
    (states (number_under first context.outer) at)
stop_action functions states first _ = Skip
