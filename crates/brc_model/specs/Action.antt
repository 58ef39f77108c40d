-- An action: what a thread of the step world does at an event.
use Rattle.std.specs.Prelude.{ℕ, List, Option, None, Some}
use Rattle.brc_model.specs.declared.state.Exit.{Exit}
use Rattle.brc_model.specs.declared.state.Exit.TheVariants.{Success, Fault as FaultExit}
use Rattle.brc_model.specs.declared.actor.Place.{Place}
use Rattle.brc_model.specs.declared.duty.Duty.{Duty}
use Rattle.brc_model.specs.AbstractState.{Move}
use Rattle.brc_model.specs.declared.actor.Actor.{Actor}

-- a thread of the step world: the function that it calls from outside, where it is, and what it counts with
pub record StepActor : Type 0 where
  pub function : ℕ
  pub place : Place
  pub actor : Actor

-- What a thread does at an event.
pub data Action : Type 0 where
  -- it takes no step
  Skip : Action
  -- it can't go on
  Stuck : Action
  -- it takes a silent step: these of its references move, and it is then at this place
  Silent : List Move → Place → Action
  -- it calls the host, which reads or writes the resource of the row, if there is one; and is then at the place that
  -- the call's exit decides
  Calls : Option ℕ → (Exit → Place) → Action
  -- it does a duty, with these duties after it, and is then at the place that the found word decides
  Does : Duty → List Duty → (ℕ → Place) → Action

-- the place, whatever word the duty finds
abbrev pub always : Place → ℕ → Place
always place found = place

-- The place that the exit of a host call decides.
abbrev pub by_exit : Place → Place → Exit → Place
by_exit succeeded faulted Success = succeeded
by_exit succeeded faulted FaultExit = faulted

abbrev pub with_row : Option ℕ → (ℕ → Action) → Action
with_row None work = Stuck
with_row (Some row) work = work row
