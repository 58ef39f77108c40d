-- Traces. A thread is an automaton: its steps depend on the values that it finds in words, on how its host calls end,
-- and on nothing else that other threads do. Its trace is its word events, in order.
use Rattle.std.specs.Prelude.{◌≡◌, ℕ, ◌==◌, Bool, true, false, if◌then◌else◌, List, [], ◌∷◌, ◌++◌, Option, slice_get}
use Rattle.brc_lang.specs.declared.module.Function.{Function}
use Rattle.brc_model.specs.declared.thread.Choice.{Choice}
use Rattle.brc_model.specs.declared.duty.Duty.{Duty}
use Rattle.brc_model.specs.declared.address.Address.{Address}
use Rattle.brc_model.specs.declared.address.Address.TheVariants.{Field, Resource}
use Rattle.brc_model.specs.declared.event.WordEvent.{WordEvent}
use Rattle.brc_model.specs.declared.state.Exit.{Exit}
use Rattle.brc_model.specs.declared.state.State.{State}
use Rattle.brc_model.specs.declared.actor.Place.{Place}
use Rattle.brc_model.specs.Duties.{address_of, new_word}
use Rattle.brc_model.specs.declared.actor.Actor.{Actor}
use Rattle.brc_model.specs.Actions.{StepActor, Action, Skip, Stuck, Silent, Calls, Does}
use Rattle.brc_model.specs.Dispatch.{action_of}
use Rattle.brc_model.specs.StepMachine.{StepMachine, of_thread, at_place, step_actor, next_machine}
use Rattle.brc_model.specs.AbstractState.{Move}
use Rattle.brc_model.specs.declared.layout.Layout.{Layout}

-- Says whether a word is at the address. Fields and the host's resources are none.
abbrev pub is_word : Address → Bool
is_word (Field x) = false
is_word (Resource x) = false
is_word _ = true

-- ---- what a thread can do

-- the word event of a duty that finds this value
abbrev pub event_of : Layout → ℕ → Actor → Duty → ℕ → WordEvent
event_of layout t a d found =
    record { address = address_of layout t a.head d; found = found; left = new_word layout t a.head d found }

-- the word events of the duty: none if it is on no word
abbrev pub events_of : Layout → ℕ → Actor → Duty → ℕ → List WordEvent
events_of layout t a d found = if is_word (address_of layout t a.head d) then event_of layout t a d found ∷ [] else []

-- One step of a thread: the word events that it makes, and the thread afterwards.
pub data MakesStep (functions : List Function) (states : ℕ → ℕ → Option State) (layout : Layout) (t : ℕ)
    (a : StepActor) : List WordEvent → StepActor
    → Type 0 where
  -- a silent step, after which the thread is at another place
  GoesSilently : (choice : Choice) (moves : List Move) (place : Place)
      → action_of functions states layout t a choice ≡ Silent moves place
      → MakesStep functions states layout t a [] (at_place a place)
  -- a host call, which may end by any exit
  CallsHost : (choice : Choice) (row : Option ℕ) (place : Exit → Place) (exit : Exit)
      → action_of functions states layout t a choice ≡ Calls row place
      → MakesStep functions states layout t a [] (at_place a (place exit))
  -- a duty, which may find any value
  DoesDuty : (choice : Choice) (d : Duty) (rest : List Duty) (place : ℕ → Place) (found : ℕ)
      → action_of functions states layout t a choice ≡ Does d rest place
      → MakesStep functions states layout t a (events_of layout t a.actor d found)
      (step_actor layout t a d rest (place found) found)

-- several steps, one after another
pub data CanMake (functions : List Function) (states : ℕ → ℕ → Option State) (layout : Layout) (t : ℕ) : StepActor
    → List WordEvent → StepActor
    → Type 0 where
  Nothing : (a : StepActor) → CanMake functions states layout t a [] a
  Then : (a b c : StepActor) (made rest : List WordEvent) → MakesStep functions states layout t a made b
      → CanMake functions states layout t b rest c
      → CanMake functions states layout t a (made ++ rest) c

-- ---- what a thread does

abbrev pub event_by : StepMachine → ℕ → Actor → Duty → List WordEvent
event_by m t a d = events_of m.layout t a d (m.memory (address_of m.layout t a.head d))

-- Returns the word events of the thread's action.
abbrev pub made_by : StepMachine → ℕ → StepActor → Action → List WordEvent
made_by m t a Skip = []
made_by m t a Stuck = []
made_by m t a (Silent moves place) = []
made_by m t a (Calls row place) = []
made_by m t a (Does d rest place) = event_by m t a.actor d

-- Returns the thread's word events at the event: none if the event is another thread's.
abbrev pub made_at : ℕ → StepMachine → ℕ × Choice → List WordEvent
made_at t m event =
    if event.0 == t
    then of_thread [] (λ a. made_by m t a (action_of m.functions m.states m.layout t a event.1)) (slice_get m.actors t)
    else []

-- Returns the thread's word events along the events from the machine.
abbrev pub events_on : ℕ → StepMachine → List (ℕ × Choice) → List WordEvent
events_on t m [] = []
events_on t m (event ∷ rest) = made_at t m event ++ events_on t (next_machine m event) rest
