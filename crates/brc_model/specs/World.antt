-- Worlds. A world is what the threads of a machine see and change: the words, the threads themselves, and the counts of
-- faults. A step looks at nothing else. The abstract state and the lives of the rows are beside it, for what is
-- promised.
use Rattle.std.specs.Prelude.{◌≡◌, ℕ, ◌<◌, ◌≤◌, ◌==◌, Bool, false, not, List, [], Option}
use Rattle.brc_lang.specs.declared.module.Function.{Function}
use Rattle.brc_lang.specs.declared.module.Module.{Module}
use Rattle.brc_lang.specs.Grammar.{IsModule}
use Rattle.brc_model.specs.declared.address.Address.{Address}
use Rattle.brc_model.specs.declared.address.Address.TheVariants.{Gate}
use Rattle.brc_model.specs.declared.duty.Duty.TheVariants.{LockGate}
use Rattle.brc_model.specs.declared.layout.Layout.{Layout}
use Rattle.brc_model.specs.declared.state.State.{State}
use Rattle.brc_model.specs.declared.thread.Call.{Call}
use Rattle.brc_model.specs.declared.thread.Choice.{Choice}
use Rattle.brc_model.specs.declared.thread.Choice.TheVariants.{Ok}
use Rattle.brc_lang.specs.declared.kind.Kind.TheVariants as kinds
use Rattle.brc_model.specs.Paths.{IsAcceptable}
use Rattle.brc_model.specs.Tables.{AreTrueWhereReached}
use Rattle.brc_model.specs.Safety.{AreCalls}
use Rattle.brc_model.specs.Machine.{Unborn}
use Rattle.brc_word.specs.Words.{free_word}
use Rattle.brc_model.specs.Actions.{StepActor, Action, Does}
use Rattle.brc_model.specs.Dispatch.{action_of}
use Rattle.brc_model.specs.StepMachine.{StepMachine, next_machine, first_machine, machine_after}
use Rattle.brc_model.specs.Limits.{row_limit}

pub record World : Type 0 where
  pub functions : List Function
  -- the state that the module's table gives each point, by the function's number and the point
  pub states : ℕ → ℕ → Option State
  pub layout : Layout
  pub memory : Address → ℕ
  -- by the thread's number: main is 0, the workers 1, 2, ..
  pub actors : List StepActor
  -- how many host calls, and how many closes, have faulted
  pub host_faults : ℕ
  pub close_faults : ℕ

abbrev pub world_of : StepMachine → World
world_of m = record {
  functions = m.functions;
  states = m.states;
  layout = m.layout;
  memory = m.memory;
  actors = m.actors;
  host_faults = m.host_faults;
  close_faults = m.close_faults;
}

-- the machine with this world, an empty abstract state and no born row
abbrev pub machine_of : World → StepMachine
machine_of w = record {
  functions = w.functions;
  states = w.states;
  layout = w.layout;
  memory = w.memory;
  actors = w.actors;
  abstract = record { references = []; born = []; closed = []; kinds = λ x. kinds.Any };
  life = λ x. Unborn;
  host_faults = w.host_faults;
  close_faults = w.close_faults;
}

abbrev pub first_world : Module → (ℕ → ℕ → Option State) → ℕ → List Call → World
first_world m states rows calls = world_of (first_machine m states rows calls)

-- one step of one thread
abbrev pub step : World → ℕ → Choice → World
step w t choice = world_of (next_machine (machine_of w) (t, choice))

-- Says whether the action would lock an object that another thread has locked.
abbrev pub finds_locked : (Address → ℕ) → Action → Bool
finds_locked memory (Does (LockGate x) rest place) = not (memory (Gate x) == free_word)
finds_locked memory _ = false

-- Says whether the thread waits for a lock: its next step would lock an object that another thread has locked.
abbrev pub waits_for_lock : World → ℕ → StepActor → Bool
waits_for_lock w t a = finds_locked w.memory (action_of w.functions w.states w.layout t a Ok)

-- A world is reachable if some list of events leads to it from a first world of an acceptable module, whose states are
-- true at each point that a path reaches.
pub record IsReachable (p : Module) (w : World) : Type 0 where
  pub fits : IsModule p
  pub accepted : IsAcceptable p
  pub states : ℕ → ℕ → Option State
  pub rows : ℕ
  pub calls : List Call
  pub events : List (ℕ × Choice)
  pub states_true : AreTrueWhereReached p states
  pub some_rows : 0 < rows
  pub most_rows : rows ≤ row_limit
  pub calls_fit : AreCalls p calls
  pub reached : w ≡ world_of (machine_after (first_machine p states rows calls) events)
