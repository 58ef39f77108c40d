-- The step machine: the counting machine, with functions and places on top. At an event one thread does the first duty
-- of its agenda, or dispatches its next instruction.
use Rattle.std.specs.Prelude.{ℕ, zero, suc, ◌+◌, Bool, true, false, if◌then◌else◌, nat_le, nat_lt, List, [], ◌∷◌, ◌++◌, length, map, Option, None, Some, fold, slice_get, slice_set}
use Rattle.brc_word.specs.declared.values.TheConstants.{NOT_STARTED, RUNNING, EMPTY, FREE}
use Rattle.brc_lang.specs.declared.module.Function.{Function}
use Rattle.brc_lang.specs.declared.module.Module.{Module}
use Rattle.brc_word.specs.Words.{fresh_word}
use Rattle.brc_model.specs.declared.thread.Call.{Call}
use Rattle.brc_model.specs.declared.thread.Choice.{Choice}
use Rattle.brc_model.specs.declared.actor.Place.{Place}
use Rattle.brc_model.specs.declared.actor.Place.TheVariants.{Idle}
use Rattle.brc_model.specs.declared.duty.Holding.TheVariants.{AsCaller}
use Rattle.brc_model.specs.declared.duty.Duty.{Duty}
use Rattle.brc_model.specs.declared.duty.Duty.TheVariants.{CloseResource}
use Rattle.brc_model.specs.declared.state.State.{State}
use Rattle.brc_model.specs.declared.state.Exit.{Exit}
use Rattle.brc_model.specs.declared.state.Exit.TheVariants.{Success, Fault}
use Rattle.brc_model.specs.declared.address.Address.{Address}
use Rattle.brc_model.specs.declared.address.Address.TheVariants.{Local, Shared, Gate, KindOf, Marks, Cell, Field, Resource, ThreadWord}
use Rattle.brc_model.specs.Limits.{most_faults}
use Rattle.brc_model.specs.AbstractState.{AbstractState, Reference, Move, ByThread, moved}
use Rattle.brc_model.specs.declared.layout.Layout.{Layout}
use Rattle.brc_model.specs.Layout.{root_row, block_size, first_immortal_list, first_number}
use Rattle.brc_model.specs.Duties.{address_of}
use Rattle.brc_model.specs.declared.actor.Actor.{Actor}
use Rattle.brc_model.specs.Machine.{idle_actor, Life, Machine, actor_by, machine_by_duty}
use Rattle.brc_model.specs.Actions.{StepActor, Action, Skip, Stuck, Silent, Calls, Does}
use Rattle.brc_model.specs.Dispatch.{exit_of, action_of}
use Rattle.brc_model.specs.FirstRows.{value_count, first_row, local_of_first, first_kind_word, cell_of_first, first_life, first_kinds, rows_from, list_references}
use Rattle.brc_lang.specs.Grammar.{cells_in}

-- ---- the machine

pub record StepMachine : Type 0 where
  pub functions : List Function
  -- the state that the module's table gives each point, by the function's number and the point
  pub states : ℕ → ℕ → Option State
  pub layout : Layout
  pub memory : Address → ℕ
  pub actors : List StepActor
  pub abstract : AbstractState
  pub life : ℕ → Life
  -- how many host calls, and how many closes, have faulted
  pub host_faults : ℕ
  pub close_faults : ℕ

-- what the thread counts with
abbrev pub its_actor : StepActor → Actor
its_actor a = a.actor

-- the counting machine under it
abbrev pub counting : StepMachine → Machine
counting m =
    record {
      layout = m.layout;
      memory = m.memory;
      actors = map its_actor m.actors;
      abstract = m.abstract;
      life = m.life;
    }

-- Applies a function to the thread of an event, if there is such a thread.
abbrev pub of_thread : {A : Type 0} → A → (StepActor → A) → Option StepActor → A
of_thread otherwise of_actor None = otherwise
of_thread otherwise of_actor (Some a) = of_actor a

-- ---- one step

-- Returns the count after a host call or a close with this exit: a fault raises it by one, up to the greatest.
abbrev pub counted : Exit → ℕ → ℕ
counted Success count = count
counted Fault count = if nat_lt count most_faults then count + 1 else count

-- Says whether the duty asks the host to close a resource.
abbrev pub closes : Duty → Bool
closes (CloseResource x) = true
closes _ = false

-- the thread at another place
abbrev pub at_place : StepActor → Place → StepActor
at_place a place = record { function = a.function; place = place; actor = a.actor }

-- the thread after its first duty, which found this word, at this place
abbrev pub step_actor : Layout → ℕ → StepActor → Duty → List Duty → Place → ℕ → StepActor
step_actor layout t a d rest place found =
    record { function = a.function; place = place; actor = actor_by layout t a.actor d rest found }

-- Returns the machine after a silent step: the thread is at the place, and some of its references have moved.
abbrev pub silent_by : StepMachine → ℕ → StepActor → List Move → Place → StepMachine
silent_by m t a moves place =
    record {
      functions = m.functions;
      states = m.states;
      layout = m.layout;
      memory = m.memory;
      actors = slice_set m.actors t (at_place a place);
      abstract = moved m.abstract moves;
      life = m.life;
      host_faults = m.host_faults;
      close_faults = m.close_faults;
    }

-- Returns the machine after a host call with the exit: the thread is at the place that the exit decides.
abbrev pub called_by : StepMachine → ℕ → StepActor → Exit → (Exit → Place) → StepMachine
called_by m t a exit place =
    record {
      functions = m.functions;
      states = m.states;
      layout = m.layout;
      memory = m.memory;
      actors = slice_set m.actors t (at_place a (place exit));
      abstract = m.abstract;
      life = m.life;
      host_faults = counted exit m.host_faults;
      close_faults = m.close_faults;
    }

-- Returns the machine after the thread's duty: its words, its abstract state and its lives are the counting machine's.
-- The word found decides the thread's place. A close that faults is counted, and isn't done again.
abbrev pub does_by : StepMachine → ℕ → StepActor → Exit → Duty → List Duty → (ℕ → Place) → StepMachine
does_by m t a exit d rest place =
    let done = machine_by_duty (counting m) t a.actor d rest in
    let found = m.memory (address_of m.layout t a.actor.head d) in
    record {
      functions = m.functions;
      states = m.states;
      layout = m.layout;
      memory = done.memory;
      actors = slice_set m.actors t (step_actor m.layout t a d rest (place found) found);
      abstract = done.abstract;
      life = done.life;
      host_faults = m.host_faults;
      close_faults = if closes d then counted exit m.close_faults else m.close_faults;
    }

-- Returns the machine after the thread's action. The exit is that of a host call or a close.
abbrev pub machine_by : StepMachine → ℕ → StepActor → Exit → Action → StepMachine
machine_by m t a exit Skip = m
machine_by m t a exit Stuck = m
machine_by m t a exit (Silent moves place) = silent_by m t a moves place
machine_by m t a exit (Calls row place) = called_by m t a exit place
machine_by m t a exit (Does d rest place) = does_by m t a exit d rest place

-- Returns the machine after the event; where there is no such thread, it stays as it is.
abbrev pub next_machine : StepMachine → ℕ × Choice → StepMachine
next_machine m event =
    of_thread m (λ a. machine_by m event.0 a (exit_of event.1)
    (action_of m.functions m.states m.layout event.0 a event.1))
    (slice_get m.actors event.0)

abbrev pub machine_after : StepMachine → List (ℕ × Choice) → StepMachine
machine_after m events = fold next_machine m events

-- ---- the first state

-- the layout of a machine of the module, with this number of workers and of rows for each of them
abbrev pub layout_of : Module → ℕ → ℕ → Layout
layout_of m workers rows = record {
  workers = workers;
  rows = rows;
  cells = cells_in m.version;
  immortal_lists = length m.statics;
  numbers = value_count m.statics;
}

-- Main has used all rows of its block.
abbrev pub main_actor : Layout → StepActor
main_actor layout = record { function = 0; place = Idle 0; actor = idle_actor (block_size layout 0) }

abbrev pub worker_actor : Call → StepActor
worker_actor c = record { function = c.function; place = Idle c.times; actor = idle_actor 0 }

-- The first words, with these lines of immortal lists. The root is a list that main owns, and its local count is the
-- number of threads that hold it.
abbrev pub rooted_memory : List (List ℕ) → Layout → ℕ → Address → ℕ
rooted_memory lines layout callers (Local x) = local_of_first callers (first_row layout x)
rooted_memory lines layout callers (Shared x) = fresh_word
rooted_memory lines layout callers (Gate x) = FREE
rooted_memory lines layout callers (KindOf x) = first_kind_word lines layout x
rooted_memory lines layout callers (Marks t w) = 0
rooted_memory lines layout callers (Cell x i) = cell_of_first lines layout i (first_row layout x)
rooted_memory lines layout callers (Field x) = EMPTY
rooted_memory lines layout callers (Resource x) = 0
rooted_memory lines layout callers (ThreadWord t) = if nat_le t layout.workers then RUNNING else NOT_STARTED

-- Here main and each worker hold the root.
abbrev pub first_memory : List (List ℕ) → Layout → Address → ℕ
first_memory lines layout = rooted_memory lines layout (1 + layout.workers)

abbrev pub caller_reference : ℕ → Reference
caller_reference t = record { holder = ByThread t AsCaller; object = root_row }

-- the references to the root that the threads below n hold as callers
abbrev pub callers_below : ℕ → List Reference
callers_below zero = []
callers_below (suc n) = caller_reference n ∷ callers_below n

-- The first abstract state: each thread below a number holds the root as the caller that lends it, and each cell of an
-- immortal list holds its number. The root and the numbers are born.
abbrev pub first_abstract : List (List ℕ) → Layout → ℕ → AbstractState
first_abstract lines layout callers = record {
  references = list_references (first_immortal_list layout) (first_number layout) lines ++ callers_below callers;
  born = root_row ∷ rows_from (first_number layout) layout.numbers;
  closed = [];
  kinds = first_kinds layout;
}

abbrev pub first_machine : Module → (ℕ → ℕ → Option State) → ℕ → List Call → StepMachine
first_machine m states rows calls =
    let layout = layout_of m (length calls) rows in
    record {
      functions = m.functions;
      states = states;
      layout = layout;
      memory = first_memory m.statics layout;
      actors = main_actor layout ∷ map worker_actor calls;
      abstract = first_abstract m.statics layout (1 + length calls);
      life = first_life layout;
      host_faults = 0;
      close_faults = 0;
    }
