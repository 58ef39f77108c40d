-- A worker that stops in a call: it unlocks what is locked, and gives up what its open calls own, the innermost first.
-- What dies by that stays in the hand's dying chain until the last reference is given up.
use Rattle.std.specs.Prelude.{◌≡◌, ℕ, not, Bool, true, false, List, [], ◌∷◌, Option, None, Some, slice_get, slice_set}
use Rattle.brc_lang.specs.declared.module.Instr.{Instr}
use Rattle.brc_model.specs.declared.actor.OpenCall.{OpenCall}
use Rattle.brc_model.specs.declared.actor.Place.{Place}
use Rattle.brc_model.specs.declared.duty.Duty.{Duty}
use Rattle.brc_model.specs.declared.duty.Duty.TheVariants.{Settle}
use Rattle.brc_model.specs.declared.state.Exit.TheVariants.{Fault}
use Rattle.brc_model.specs.declared.state.State.{State}
use Rattle.brc_model.specs.Duties.{ready}
use Rattle.brc_model.specs.Tables.{Reaches}
use Rattle.brc_model.specs.SlotStates.{var_of, is_owned, after}
use Rattle.brc_model.specs.Stops.{row_locked, owned_rows, holds_some, give_up, stopping}
use Rattle.brc_model.specs.Threads.{row_of}
use Rattle.brc_table.specs.declared.view.View.{View}
use Rattle.brc_table.specs.Hands.{TableState, HandState, IsOf}
use Rattle.brc_table.specs.Views.{view_after, unlocking}
use Rattle.brc_heap.specs.Calls.{released_locally}
use Rattle.brc_free.specs.Works.{HasWorked}
use Rattle.brc_work.specs.Fits.{Base, Fits}
use Rattle.brc_work.specs.Traces.{Program, function_under, Traces}

-- the hand, if its dying chain were empty
abbrev pub unchained : HandState → HandState
unchained hand = record hand { view = record hand.view { actor = record hand.view.actor { head = 0 } } }

-- Variables and hand are in some state in which `can` holds, but for the hand's dying chain.
pub record IsGivingUp (heap : TableState) (can : State → Type 0) (rows : List (Option ℕ)) (hand : HandState) : Type 0
  where
    pub base : Base
    pub state : State
    pub of : IsOf heap hand
    pub fits : Fits base state rows (unchained hand)
    pub can_do : can state

-- From each state in which `can` holds they have gone to the state that `next` says, but for the dying chain.
abbrev pub GoesChained : (State → Type 0) → (State → State) → List (Option ℕ) → HandState → List (Option ℕ)
    → HandState → Type 0
GoesChained can next rows hand after_rows after_hand =
    (base : Base) (s : State) → Fits base s rows (unchained hand) → can s
    → Fits base (next s) after_rows (unchained after_hand)

-- The hand has unlocked the object of the variable.
pub record Unlocks (object : ℕ) (rows : List (Option ℕ)) (v u : View) : Type 0 where
  pub row : ℕ
  pub found : ℕ
  pub names : row_of rows object ≡ Some row
  pub is : u ≡ view_after (unlocking v row) found

-- The hand has given up the variable's reference. What has died is in its dying chain.
pub record Loosens (from : ℕ) (rows : List (Option ℕ)) (v : View) (after_rows : List (Option ℕ)) (u : View) : Type 0
  where
    pub row : ℕ
    pub word : ℕ
    pub names : row_of rows from ≡ Some row
    pub emptied : after_rows ≡ slice_set rows from None
    pub works : HasWorked (released_locally v row word) [] [] u

-- Nothing is locked in the state s, and the same variables own references as in the other state.
pub record OwnsAsMuch (state s : State) : Type 0 where
  pub unlocked : s.locked ≡ None
  pub owned : (i : ℕ) → is_owned (var_of s i) ≡ is_owned (var_of state i)

-- ---- what the thread does

-- to settle, or nothing
abbrev pub settle_if : Bool → List Duty
settle_if true = Settle ∷ []
settle_if false = []

-- The hand's thread has gone from the place to where it has these calls still to give up: it goes on as if it had come
-- to just these, and if they give up nothing, it has still to settle.
pub record GivesUpTo (program : Program) (p : Place) (v : View) (calls : List (List (Option ℕ))) (u : View) : Type 0
  where
    pub left : List (List (Option ℕ))
    pub same : give_up left ≡ give_up calls
    pub some : holds_some left ≡ holds_some calls
    pub traces : Traces 0 [] program p [] v (stopping None left)
        (ready u.actor.head (settle_if (not (holds_some calls)))) u

-- The hand has done what its thread does that stops in the call in the state s: from the place to which the stop leads,
-- to where it has the calls further out to give up, whatever they hold.
abbrev pub MakesStop : State → List (Option ℕ) → View → View → Type 0
MakesStop s rows v u = (program : Program) (outer : List (List (Option ℕ)))
    → GivesUpTo program (stopping (row_locked s.locked rows) (owned_rows s.slots rows ∷ outer)) v outer u

-- The hand has done what its thread does that gives up what a call owns in the state s. Nothing is locked.
abbrev pub MakesReleases : State → List (Option ℕ) → View → View → Type 0
MakesReleases s rows v u = (program : Program) (p : Place) (w : View) (outer : List (List (Option ℕ)))
    → GivesUpTo program p w (owned_rows s.slots rows ∷ outer) v → GivesUpTo program p w outer u

-- ---- the calls further out

-- What the open calls give up, the nearest first: of each the rows of the variables that own a reference where its
-- instruction faults, by the state in which paths reach that.
pub data OuterGiveUp (program : Program) : List OpenCall → List (List (Option ℕ)) → Type 0 where
  NoOuter : OuterGiveUp program [] []
  OneOuter : (o : OpenCall) (outer : List OpenCall) (calls : List (List (Option ℕ))) (i : Instr) (s : State)
      → slice_get (function_under program outer).code o.at ≡ Some i
      → Reaches (function_under program outer) o.at s → OuterGiveUp program outer calls
      → OuterGiveUp program (o ∷ outer) (owned_rows (after i Fault s).slots o.variables ∷ calls)
