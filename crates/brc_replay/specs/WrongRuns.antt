-- Wrong runs: the events of a module's threads that show that the module isn't safe. The last event is bad; or all
-- threads are gone, and an object is lost: it isn't closed, and no cell of an open list holds a reference to it.
use Rattle.std.specs.Prelude.{◌≡◌, ◌⊎◌, ℕ, ◌<◌, ◌≤◌, Bool, true, false, List, [], ◌∷◌, ◌++◌}
use Rattle.std.specs.List.{list_all}
use Rattle.brc_lang.specs.declared.module.Module.{Module}
use Rattle.brc_model.specs.declared.thread.Call.{Call}
use Rattle.brc_model.specs.declared.thread.Choice.{Choice}
use Rattle.brc_model.specs.declared.thread.Choice.TheVariants.{Ok, Fault, Claim, Stop}
use Rattle.brc_model.specs.StepMachine.{StepMachine, counting, machine_after}
use Rattle.brc_model.specs.Events.{is_bad_event}
use Rattle.brc_model.specs.Limits.{row_limit}
use Rattle.brc_model.specs.Safety.{AreCalls, AllGone, Safe}
use Rattle.brc_plain.specs.Begun.{begun}
use Rattle.brc_plain.specs.Lost.{IsLost}
use Rattle.brc_replay.specs.declared.event.Event.{Event}

-- Says whether the choice is another one than that the thread stops. A stop asks the module's table what the thread
-- owns, and a module that the checker refuses has no table.
abbrev pub goes_on : Choice → Bool
goes_on Ok = true
goes_on Fault = true
goes_on (Claim row) = true
goes_on Stop = false

-- the model's event
abbrev pub event_in : Event → ℕ × Choice
event_in e = (e.thread, e.choice)

-- no thread stops at any of the events
abbrev pub GoOn : List (ℕ × Choice) → Type 0
GoOn events = list_all (λ (event : ℕ × Choice). goes_on event.1) events ≡ true

-- The last of the events is bad.
pub record EndsBadly (m : StepMachine) (events : List (ℕ × Choice)) : Type 0 where
  pub before : List (ℕ × Choice)
  pub last : ℕ × Choice
  pub are : events ≡ before ++ last ∷ []
  pub bad : is_bad_event (machine_after m before) last ≡ true

-- All threads are gone, and an object is lost.
pub record HasLeak (m : StepMachine) : Type 0 where
  pub row : ℕ
  pub gone : AllGone (counting m)
  pub lost : IsLost m row

-- The events lead from one machine to another, and no thread stops at any of them.
pub record AreTaken (m : StepMachine) (events : List (ℕ × Choice)) (after : StepMachine) : Type 0 where
  pub reached : after ≡ machine_after m events
  pub go_on : GoOn events

-- From this machine on the events go wrong: no thread stops at any of them, and the last one is bad, or an object is
-- lost after it.
pub record GoWrong (m : StepMachine) (events : List (ℕ × Choice)) : Type 0 where
  pub go_on : GoOn events
  pub ends : EndsBadly m events ⊎ HasLeak (machine_after m events)

-- The events are a run of the module, with this number of rows for each worker and these calls, that goes wrong.
pub record IsWrongRun (m : Module) (rows : ℕ) (calls : List Call) (events : List (ℕ × Choice)) : Type 0 where
  pub some_rows : 0 < rows
  pub most_rows : rows ≤ row_limit
  pub calls_fit : AreCalls m calls
  pub wrong : GoWrong (begun m rows calls) events

-- A module with a wrong run isn't safe.
abbrev pub WrongRunsShow : Type 0
WrongRunsShow =
    (m : Module) (rows : ℕ) (calls : List Call) (events : List (ℕ × Choice))
    → IsWrongRun m rows calls events → Safe m → ⊥
