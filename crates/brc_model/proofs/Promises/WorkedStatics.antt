-- Schedules of modules with static lists, with one worker of four rows that makes one call, by computation.
use Rattle.std.proofs.Common.{◌≡◌, ℕ, List, [], ◌∷◌, ◌++◌, Option, None, Some, refl}
use Rattle.std.specs.Prelude.{replicate}
use lib.Count.{count_trailing_zeros}
use Rattle.brc_lang.specs.declared.module.Instr.{Instr}
use Rattle.brc_lang.specs.declared.module.Instr.TheVariants.{NoneObject, Take, Drop, Lock, Unlock, Set, Put, Fail}
use Rattle.brc_lang.specs.declared.module.Module.{Module}
use Rattle.brc_lang.specs.declared.version.Version.TheVariants.{Three}
use Rattle.brc_model.specs.declared.address.Address.TheVariants.{Cell}
use Rattle.brc_model.specs.declared.state.State.{State}
use Rattle.brc_model.specs.declared.state.Exit.TheVariants.{Success}
use Rattle.brc_model.specs.declared.thread.Call.{Call}
use Rattle.brc_model.specs.declared.thread.Choice.{Choice}
use Rattle.brc_model.specs.declared.thread.Choice.TheVariants.{Ok}
use Rattle.brc_model.specs.Paths.{PathEnd, At, path_end}
use Rattle.brc_model.specs.Threads.{function_at}
use Rattle.brc_model.specs.StepMachine.{StepMachine, first_machine, machine_after}

-- ---- modules

-- puts none into the first cell of the static list
emptying : List Instr
emptying = Take 1 0 ∷ NoneObject 2 ∷ Lock 1 ∷ Set 1 0 2 4 ∷ Unlock 1 ∷ Drop 1 ∷ Fail ∷ []

-- puts the second static list into itself
nested : List Instr
nested = Take 1 1 ∷ Lock 1 ∷ Put 1 0 1 3 ∷ Unlock 1 ∷ Drop 1 ∷ Fail ∷ []

module_of : List (List ℕ) → List Instr → Module
module_of lines code = record {
  version = Three;
  statics = lines;
  functions = (record { name = 102 ∷ []; parameters = []; code = code }) ∷ [];
}

one_call : List Call
one_call = record { function = 0; times = 1 } ∷ []

-- ---- schedules

steps : ℕ → ℕ → List (ℕ × Choice)
steps n t = replicate n (t, Ok)

state_in : PathEnd → Option State
state_in (At at s) = Some s
state_in end = None

-- the state of each point that success exits alone reach
by_success : Module → ℕ → ℕ → Option State
by_success m number at = state_in (path_end (function_at m.functions number) (replicate at Success))

after_events : List (List ℕ) → List Instr → List (ℕ × Choice) → StepMachine
after_events lines code events =
    let m = module_of lines code in machine_after (first_machine m (by_success m) 4 one_call) events

-- The numbers of one line are born and in its cells.
one_line-born : (after_events ((5 ∷ 6 ∷ []) ∷ []) emptying []).abstract.born ≡ 1 ∷ 7 ∷ 8 ∷ []
unfolding emptying module_of one_call after_events
one_line-born = refl

one_line-cell : (after_events ((5 ∷ 6 ∷ []) ∷ []) emptying []).memory (Cell 6 1) ≡ 9
unfolding emptying module_of one_call after_events
one_line-cell = refl

-- The number that the worker takes out of its cell is closed, and the other one isn't.
emptying-closed : (after_events ((5 ∷ 6 ∷ []) ∷ []) emptying (steps 60 1 ++ steps 60 0)).abstract.closed ≡ 1 ∷ 7 ∷ []
unfolding emptying module_of one_call steps by_success state_in after_events count_trailing_zeros
emptying-closed = refl

-- A static list that is in itself isn't closed, but what was in its cell.
nested-closed : (after_events ((5 ∷ 6 ∷ []) ∷ (7 ∷ []) ∷ []) nested (steps 60 1 ++ steps 60 0)).abstract.closed
    ≡ 1 ∷ 10 ∷ []
unfolding nested module_of one_call steps by_success state_in after_events count_trailing_zeros
nested-closed = refl
