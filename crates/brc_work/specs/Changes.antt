-- What the parts of instructions ask of variables and hand, and what they leave of them.
use Rattle.std.specs.Prelude.{◌≡◌, ℕ, true, false, List, Option}
use Rattle.brc_model.specs.declared.state.State.{State}
use Rattle.brc_model.specs.SlotStates.{var_of, is_owned, names}
use Rattle.brc_table.specs.Hands.{TableState, HandState, IsOf}
use Rattle.brc_work.specs.Fits.{Base, Fits}

-- The variable may get another slot: it owns no reference, and its object isn't locked.
pub record CanFill (s : State) (to : ℕ) : Type 0 where
  pub free : is_owned (var_of s to) ≡ false
  pub unlocked : names s.locked to ≡ false

-- The variable's reference may be given up: it owns one, and its object isn't locked.
pub record CanGive (s : State) (from : ℕ) : Type 0 where
  pub owned : is_owned (var_of s from) ≡ true
  pub unlocked : names s.locked from ≡ false

-- Variables and hand are in some state, in which `can` holds.
pub record IsIn (heap : TableState) (can : State → Type 0) (rows : List (Option ℕ)) (hand : HandState) : Type 0 where
  pub base : Base
  pub state : State
  pub of : IsOf heap hand
  pub fits : Fits base state rows hand
  pub can_do : can state

-- From each state in which `can` holds they have gone to the state that `next` says.
abbrev pub ChangesTo : (State → Type 0) → (State → State) → List (Option ℕ) → HandState → List (Option ℕ) → HandState
    → Type 0
ChangesTo can next rows hand after_rows after_hand =
    (base : Base) (s : State) → Fits base s rows hand → can s → Fits base (next s) after_rows after_hand
