-- What a thread has to give up where it stops in a call.
use Rattle.std.specs.Prelude.{◌≡◌, ◌↔◌, ℕ, true, List, [], ◌∷◌, Option, Some, slice_get}
use Rattle.brc_model.specs.declared.state.State.{State}
use Rattle.brc_lang.specs.declared.module.Function.{Function}
use Rattle.brc_model.specs.declared.actor.Context.{Context}
use Rattle.brc_model.specs.declared.actor.OpenCall.{OpenCall}
use Rattle.brc_model.specs.declared.thread.Choice.TheVariants.{Stop}
use Rattle.brc_model.specs.SlotStates.{var_of, is_owned}
use Rattle.brc_model.specs.Threads.{number_under, row_of}
use Rattle.brc_model.specs.Action.{StepActor}
use Rattle.brc_model.specs.Stops.{owned_rows, waiting_state, owned_by, given_up, row_locked, stopping}
use Rattle.brc_model.specs.StepMachine.{at_place}
use Rattle.brc_model.specs.World.{World, step}

-- A call that waits gives up just what its variables own in the state that the fault exit of its instruction leaves.
pub record CallGivesUp (functions : List Function) (states : ℕ → ℕ → Option State) (number : ℕ) (o : OpenCall) : Type 0
  where
    pub state : State
    pub is_state : waiting_state functions states number o ≡ Some state
    -- a variable's row is given up exactly if the variable owns a reference
    pub owned : (v x : ℕ) → (row_of (owned_by (waiting_state functions states number o) o.variables) v ≡ Some x)
        ↔ ((is_owned (var_of state v) ≡ true) × (row_of o.variables v ≡ Some x))

-- So does each of these open calls of a thread that calls `first` from outside.
abbrev pub EachGivesUp : List Function → (ℕ → ℕ → Option State) → ℕ → List OpenCall → Type 0
EachGivesUp functions states first [] = Unit {0}
EachGivesUp functions states first (o ∷ outer) =
    CallGivesUp functions states (number_under first outer) o × EachGivesUp functions states first outer

-- A thread that stops before the instruction at this point unlocks what it has locked, and gives up just what its
-- variables own, in each of its calls: what they borrow isn't its own.
pub record GivesUpOwned (w : World) (t at : ℕ) (a : StepActor) (context : Context) (variables : List (Option ℕ))
    : Type 0 where
  -- the state that the table gives the point
  pub state : State
  pub is_state : w.states (number_under a.function context.outer) at ≡ Some state
  -- what the state says is locked is what the thread has locked
  pub lock : a.actor.locked ≡ row_locked state.locked variables
  -- a variable's row is given up exactly if the variable owns a reference
  pub owned : (v x : ℕ) → (row_of (owned_rows state.slots variables) v ≡ Some x)
      ↔ ((is_owned (var_of state v) ≡ true) × (row_of variables v ≡ Some x))
  -- the calls further out give up what they own, too
  pub outer : EachGivesUp w.functions w.states a.function context.outer
  -- the stop itself changes nothing but the thread's place
  pub leads : slice_get (step w t Stop).actors t
      ≡ Some (at_place a (stopping a.actor.locked
      (owned_rows state.slots variables ∷ given_up w.functions w.states a.function context.outer)))
