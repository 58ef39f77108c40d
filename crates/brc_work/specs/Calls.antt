-- A call of a function that the checker accepts, and its end.
use Rattle.std.specs.Prelude.{◌≡◌, ℕ, ◌+◌, ◌*◌, ◌<◌, ◌≤◌, Bool, true, false, List, length, Option, None, Some}
use Rattle.std.specs.List.{AllByRecursion}
use Rattle.brc_lang.specs.Grammar.{IsInstruction}
use Rattle.brc_lang.specs.Limits.{instruction_limit}
use Rattle.brc_lang.specs.declared.kind.Kind.TheVariants as kinds
use Rattle.brc_lang.specs.declared.module.Function.{Function}
use Rattle.brc_lang.specs.declared.module.Instr.{Instr}
use Rattle.brc_lang.specs.declared.module.Instr.TheVariants.{Call, Ret, Fail}
use Rattle.brc_model.specs.SlotStates.{target, birth_var, entry_of}
use Rattle.brc_model.specs.declared.state.Exit.{Exit}
use Rattle.brc_model.specs.declared.state.Exit.TheVariants.{Success}
use Rattle.brc_model.specs.declared.state.State.{State}
use Rattle.brc_model.specs.Layout.{root_row, IsCounted}
use Rattle.brc_model.specs.Paths.{IsAcceptableFunction}
use Rattle.brc_model.specs.Tables.{Reaches}
use Rattle.brc_table.specs.Hands.{TableState, HandState, IsOf, most_references}
use Rattle.brc_table.specs.Views.{holds}
use Rattle.brc_work.specs.declared.end.End.{End}
use Rattle.brc_work.specs.declared.end.End.TheVariants.{Returned, Failed, Stopped}
use Rattle.brc_work.specs.Fits.{Rests, IsLater, Base, outermost, owns, lists, Fits, HasDone}
use Rattle.brc_work.specs.Stopping.{unchained}

-- A function that the checker accepts.
pub record IsChecked (f : Function) : Type 0 where
  pub accepted : IsAcceptableFunction f
  pub each : AllByRecursion IsInstruction f.code
  pub few : length f.code ≤ instruction_limit

-- Some path reaches the point.
abbrev pub IsReached : Function → ℕ → Type 0
IsReached f at = (s : State) × Reaches f at s

-- ---- inside a call

-- Says whether the instruction leads to a point of its own call: it calls no function and doesn't end the call.
abbrev pub stays_in_call : Instr → Bool
stays_in_call (Call to callee arguments otherwise) = false
stays_in_call (Ret from) = false
stays_in_call Fail = false
stays_in_call _ = true

-- Variables and hand have gone by one of the instruction's exits, which leads to the next point.
abbrev pub GoesOn : Instr → ℕ → List (Option ℕ) → HandState → ℕ → List (Option ℕ) → HandState → Type 0
GoesOn i at rows hand next after_rows after_hand =
    (exit : Exit) × (target i exit at ≡ Some next) × HasDone i exit rows hand after_rows after_hand

-- The call is at the point, in the state in which paths reach it.
pub record GoesTo (base : Base) (f : Function) (next : ℕ) (rows : List (Option ℕ)) (hand : HandState) : Type 0 where
  pub state : State
  pub fits : Fits base state rows hand
  pub reaches : Reaches f next state

-- ---- its beginning

-- the room that a call needs for references: one by each of its variables, and one more
abbrev pub call_room : ℕ
call_room = 17

-- Variables and hand are as a call of the function finds them. The root is held outside, and there is room for the
-- references of all calls that can be open at once from this one on: each is of a function above the one that makes it.
pub record Begins (base : Base) (f : Function) (number : ℕ) (rows : List (Option ℕ)) (hand : HandState) : Type 0 where
  pub fits : Fits base (entry_of f.parameters) rows hand
  pub root : 1 ≤ base.held root_row
  pub room : base.most + call_room * (number + 1) < most_references

pub record MayBegin (heap : TableState) (f : Function) (number : ℕ) (rows : List (Option ℕ)) (hand : HandState)
    : Type 0 where
  pub base : Base
  pub of : IsOf heap hand
  pub begins : Begins base f number rows hand

-- ---- its end

-- The call has ended, or the hand has stopped in it: the hand holds what the base says and nothing beside, and has
-- locked nothing.
pub record HasReturned (base : Base) (hand : HandState) : Type 0 where
  pub follows : IsLater base.first hand
  pub rests : Rests hand
  pub unlocked : hand.view.actor.locked ≡ None
  pub fields : hand.fields ≡ base.first.fields
  pub held : (y : ℕ) → IsCounted base.first.view.layout y → holds hand.view y ≡ base.held y
  pub few : length hand.view.references ≤ base.most

-- The call has returned a reference to the row's object, which the hand holds beside what the base says.
pub record Returns (base : Base) (row : ℕ) (hand : HandState) : Type 0 where
  pub follows : IsLater base.first hand
  pub rests : Rests hand
  pub unlocked : hand.view.actor.locked ≡ None
  pub fields : hand.fields ≡ base.first.fields
  pub held : (y : ℕ) → IsCounted base.first.view.layout y
      → holds hand.view y ≡ base.held y + owns y (birth_var kinds.Any Success) (Some row)
  pub few : length hand.view.references
      ≤ base.most + lists base.first.view.layout (birth_var kinds.Any Success) (Some row)

-- What the hand holds where the call has ended so. If the hand has stopped, what has died is still in its chain.
abbrev pub HoldsAtEnd : Base → End → HandState → Type 0
HoldsAtEnd base (Returned row) hand = Returns base row hand
HoldsAtEnd base Failed hand = HasReturned base hand
HoldsAtEnd base Stopped hand = HasReturned base (unchained hand)

-- The call has ended so, whatever it stood on.
abbrev pub EndsAs : Function → ℕ → End → List (Option ℕ) → HandState → HandState → Type 0
EndsAs f number end rows hand after = (base : Base) → Begins base f number rows hand → HoldsAtEnd base end after

-- The call that began with the hand `first` has ended: the hand holds what it held first.
abbrev pub HasCalled : HandState → HandState → Type 0
HasCalled first hand = HasReturned (outermost first) hand
