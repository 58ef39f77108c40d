-- Tables. A table beside its module gives each point of each function a state, or none.
use Rattle.std.specs.Prelude.{◌≡◌, ◌≢◌, ◌↔◌, ℕ, List, Option, Some, slice_get}
use Rattle.brc_lang.specs.declared.module.Function.{Function}
use Rattle.brc_lang.specs.declared.module.Module.{Module}
use Rattle.brc_model.specs.declared.state.State.{State}
use Rattle.brc_model.specs.declared.state.Exit.{Exit}
use Rattle.brc_model.specs.Paths.{At, path_end}

-- some path reaches the point in the state
pub record Reaches (f : Function) (at : ℕ) (s : State) : Type 0 where
  pub exits : List Exit
  pub reaches : path_end f exits ≡ At at s

-- two paths reach the point in different states
pub record StatesDifferAt (f : Function) (at : ℕ) : Type 0 where
  pub one : State
  pub other : State
  pub first : Reaches f at one
  pub second : Reaches f at other
  pub apart : one ≢ other

-- the entry is a state exactly if some path reaches the point in that state
abbrev pub IsTrueEntry : Function → ℕ → Option State → Type 0
IsTrueEntry f at entry = (s : State) → (entry ≡ Some s) ↔ Reaches f at s

-- ---- the states of a module's points, by the function's number and the point

-- each point has a state exactly if some path reaches the point in that state
abbrev pub AreTrueStates : Module → (ℕ → ℕ → Option State) → Type 0
AreTrueStates m states =
    (number at : ℕ) (f : Function) → slice_get m.functions number ≡ Some f → IsTrueEntry f at (states number at)

-- each point that a path reaches has the path's state; any other point may have any state
abbrev pub AreTrueWhereReached : Module → (ℕ → ℕ → Option State) → Type 0
AreTrueWhereReached m states =
    (number at : ℕ) (f : Function) (s : State) → slice_get m.functions number ≡ Some f → Reaches f at s
    → states number at ≡ Some s
