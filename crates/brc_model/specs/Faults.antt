-- Faults of the host. The choice of an event decides how its host call or its close ends, and a fault is counted.
use Rattle.std.specs.Prelude.{◌≡◌, ℕ, ◌≤◌, Bool, true, false, if◌then◌else◌, slice_get}
use Rattle.brc_model.specs.declared.thread.Choice.{Choice}
use Rattle.brc_model.specs.declared.thread.Choice.TheVariants.{Ok, Fault}
use Rattle.brc_model.specs.Limits.{most_faults}
use Rattle.brc_model.specs.Actions.{Action, Calls, Does}
use Rattle.brc_model.specs.Dispatch.{exit_of, action_of}
use Rattle.brc_model.specs.StepMachine.{StepMachine, of_thread, counted, closes, next_machine}

-- Says whether the action is a host call.
abbrev pub calls_host : Action → Bool
calls_host (Calls row place) = true
calls_host _ = false

-- Says whether the action asks the host to close a resource.
abbrev pub closes_resource : Action → Bool
closes_resource (Does d rest place) = closes d
closes_resource _ = false

-- Says whether the thread's action at the event is such a one.
abbrev pub acts : (Action → Bool) → StepMachine → ℕ × Choice → Bool
acts says m event =
    of_thread false (λ a. says (action_of m.functions m.states m.layout event.0 a event.1)) (slice_get m.actors event.0)

-- the count after an event, at which such an action may have faulted
abbrev pub count_after : (Action → Bool) → StepMachine → ℕ × Choice → ℕ → ℕ
count_after says m event count = if acts says m event then counted (exit_of event.1) count else count

-- An event counts a faulted host call where its thread's host call faults, and nowhere else; and likewise a faulted
-- close.
pub record CountsFaults (m : StepMachine) (event : ℕ × Choice) : Type 0 where
  pub calls : (next_machine m event).host_faults ≡ count_after calls_host m event m.host_faults
  pub closings : (next_machine m event).close_faults ≡ count_after closes_resource m event m.close_faults

-- Neither count passes the greatest.
pub record CountsFit (m : StepMachine) : Type 0 where
  pub calls : m.host_faults ≤ most_faults
  pub closings : m.close_faults ≤ most_faults

-- Where the thread neither calls the host nor closes a resource, a fault is what success is.
abbrev pub FaultsAlike : StepMachine → ℕ → Type 0
FaultsAlike m t =
    acts calls_host m (t, Ok) ≡ false → acts closes_resource m (t, Ok) ≡ false
    → next_machine m (t, Fault) ≡ next_machine m (t, Ok)
