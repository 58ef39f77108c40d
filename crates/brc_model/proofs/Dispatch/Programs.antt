-- What the calls of a thread run, and what is true of each function of an accepted module.
use Rattle.std.proofs.Common.{◌≡◌, ℕ, ◌<◌, ◌≤◌, List, length, Option, Some}
use Rattle.std.specs.Prelude.{map, slice_get}
use Rattle.std.specs.List.{slice_index_or}
use Rattle.brc_lang.specs.declared.module.Function.{Function}
use Rattle.brc_lang.specs.declared.module.Instr.{Instr}
use Rattle.brc_lang.specs.declared.module.Instr.TheVariants.{Call}
use Rattle.brc_lang.specs.declared.parameter.Argument.{Argument}
use Rattle.brc_lang.specs.Grammar.{IsInstruction, LeadsForward, depths}
use Rattle.brc_model.specs.declared.state.State.{State}
use Rattle.brc_model.specs.declared.actor.Context.{Context}
use Rattle.brc_model.specs.declared.actor.OpenCall.{OpenCall}
use Rattle.brc_model.specs.Paths.{IsAcceptableFunction}
use Rattle.brc_model.specs.Tables.{Reaches}
use Rattle.brc_model.specs.declared.actor.Place.{Place}
use Rattle.brc_model.specs.Action.{StepActor}
use Rattle.brc_model.specs.Threads.{function_at, function_in, number_under}
use Rattle.brc_model.specs.Limits.{depth_limit}

-- The functions of a module, the states that its table gives their points, and the number of the function that the
-- thread calls from outside.
pub record Program : Type 0 where
  pub functions : List Function
  pub states : ℕ → ℕ → Option State
  pub first : ℕ

-- the number of the function that a call runs, around which these calls are open, and the function
abbrev pub number_of : Program → List OpenCall → ℕ
number_of program outer = number_under program.first outer

abbrev pub running : Program → List OpenCall → Function
running program outer = function_at program.functions (number_of program outer)

-- the code that a call in the context runs
abbrev pub code_in : Program → Context → List Instr
code_in program context = (running program context.outer).code

-- the code of the innermost call at the place
abbrev pub code_at : Program → Place → List Instr
code_at program place = (function_in program.functions program.first place).code

-- what the calls of the thread run
abbrev pub program_of : List Function → (ℕ → ℕ → Option State) → StepActor → Program
program_of functions states a = record { functions = functions; states = states; first = a.function }

-- how many calls may be open at once from the function's own on
abbrev pub depth_at : List Function → ℕ → ℕ
depth_at functions number = slice_index_or (depths functions) number 0

pub record AreInstructions (code : List Instr) : Type 0 where
  pub forward : LeadsForward code
  pub each : (at : ℕ) (i : Instr) → slice_get code at ≡ Some i → IsInstruction i

-- The callee is a function above, with these parameters.
pub record CalleeFits (functions : List Function) (number callee : ℕ) (arguments : List Argument) : Type 0 where
  pub above : callee < number
  pub same : map (λ a. a.parameter) arguments ≡ (function_at functions callee).parameters
  pub deeper : depth_at functions callee < depth_at functions number

-- Each function of a module is accepted, its code has instructions, and it calls functions above; and each point that a
-- path reaches has the path's state.
pub record AreSound (functions : List Function) (states : ℕ → ℕ → Option State) : Type 0 where
  pub accepted : (number : ℕ) → number < length functions
      → IsAcceptableFunction (function_at functions number)
  pub instructions : (number : ℕ) → number < length functions
      → AreInstructions (function_at functions number).code
  pub calls : (number at to callee otherwise : ℕ) (arguments : List Argument) → number < length functions
      → slice_get (function_at functions number).code at ≡ Some (Call to callee arguments otherwise)
      → CalleeFits functions number callee arguments
  pub calls_few : (number : ℕ) → number < length functions → depth_at functions number ≤ depth_limit
  pub counts_itself : (number : ℕ) → number < length functions → 1 ≤ depth_at functions number
  pub states_true : (number at : ℕ) (s : State) → number < length functions
      → Reaches (function_at functions number) at s → states number at ≡ Some s

abbrev pub IsSound : Program → Type 0
IsSound program = AreSound program.functions program.states
