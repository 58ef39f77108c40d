-- Schedules of modules whose functions call functions, with one worker that makes one call, by computation.
use Rattle.std.proofs.Common.{◌≡◌, ℕ, List, [], ◌∷◌, ◌++◌, Option, None, Some, refl}
use Rattle.std.specs.Prelude.{replicate}
use lib.Count.{count_trailing_zeros}
use Rattle.brc_lang.specs.declared.kind.Kind.TheVariants as kinds
use Rattle.brc_lang.specs.declared.module.Function.{Function}
use Rattle.brc_lang.specs.declared.module.Instr.{Instr}
use Rattle.brc_lang.specs.declared.module.Instr.TheVariants.{Num, Newref, Drop, Lock, Unlock, Set, Call, Goto, Again, Ret, Fail}
use Rattle.brc_lang.specs.declared.module.Module.{Module}
use Rattle.brc_lang.specs.declared.parameter.Argument.{Argument}
use Rattle.brc_lang.specs.declared.parameter.Parameter.{Parameter}
use Rattle.brc_lang.specs.declared.parameter.Passing.TheVariants.{Borrow, Steal}
use Rattle.brc_lang.specs.declared.version.Version.TheVariants.{Two}
use Rattle.brc_model.specs.declared.state.State.{State}
use Rattle.brc_model.specs.declared.state.Exit.TheVariants.{Success}
use Rattle.brc_model.specs.declared.thread.Call.{Call as Work}
use Rattle.brc_model.specs.declared.thread.Choice.{Choice}
use Rattle.brc_model.specs.declared.thread.Choice.TheVariants.{Ok, Stop}
use Rattle.brc_model.specs.Paths.{PathEnd, At, path_end}
use Rattle.brc_model.specs.Threads.{function_at}
use Rattle.brc_model.specs.StepMachine.{StepMachine, first_machine, machine_after}

-- ---- modules

named : ℕ → List Parameter → List Instr → Function
named letter parameters code = record { name = letter ∷ []; parameters = parameters; code = code }

passing : ℕ → Parameter → List Argument
passing from parameter = record { from = from; parameter = parameter } ∷ []

stolen_number : Parameter
stolen_number = record { passing = Steal; kind = kinds.Num }

lent_object : Parameter
lent_object = record { passing = Borrow; kind = kinds.Any }

-- stores a number in the root, and fails
keep : Function
keep = named 107 (stolen_number ∷ []) (Lock 0 ∷ Set 0 0 1 2 ∷ Unlock 0 ∷ Fail ∷ [])

-- makes a number, has it stored, and returns what it was lent
hold : Function
hold = named 104 (lent_object ∷ [])
    (Newref 2 1 ∷ Num 3 9 4 ∷ Call 4 0 (passing 3 stolen_number) 4 ∷ Drop 4 ∷ Ret 2 ∷ [])

-- lends the second of two numbers
lends : Function
lends = named 102 []
    (Num 1 7 7 ∷ Num 2 8 6 ∷ Call 3 1 (passing 2 lent_object) 5 ∷ Drop 3 ∷ Goto 5 ∷ Drop 2 ∷ Drop 1 ∷ Fail ∷ [])

-- makes three numbers, one after another
three : Function
three = named 103 [] (Num 1 1 3 ∷ Drop 1 ∷ Again 0 2 ∷ Fail ∷ [])

-- has them made twice
twice : Function
twice = named 102 [] (Call 1 0 [] 2 ∷ Drop 1 ∷ Again 0 1 ∷ Fail ∷ [])

-- ---- schedules

module_of : List Function → Module
module_of functions = record { version = Two; statics = []; functions = functions }

call_to : ℕ → List Work
call_to number = record { function = number; times = 1 } ∷ []

steps : ℕ → ℕ → List (ℕ × Choice)
steps n t = replicate n (t, Ok)

state_in : PathEnd → Option State
state_in (At at s) = Some s
state_in end = None

-- the state of each point that success exits alone reach
by_success : List Function → ℕ → ℕ → Option State
by_success functions number at = state_in (path_end (function_at functions number) (replicate at Success))

after_events : List Function → ℕ → List (ℕ × Choice) → StepMachine
after_events functions number events =
    machine_after (first_machine (module_of functions) (by_success functions) 8 (call_to number)) events

closed_after : List Function → ℕ → List (ℕ × Choice) → List ℕ
closed_after functions number events = (after_events functions number events).abstract.closed

-- What is lent is returned and dropped, and what is stored is closed with the root.
lends-closed : closed_after (keep ∷ hold ∷ lends ∷ []) 2 (steps 60 1 ++ steps 60 0) ≡ 3 ∷ 2 ∷ 1 ∷ 4 ∷ []
unfolding keep hold lends named passing stolen_number lent_object module_of call_to steps by_success state_in
    after_events closed_after count_trailing_zeros
lends-closed = refl

-- A thread that stops in the innermost of three calls gives up what all of them own.
stopped-closed : closed_after (keep ∷ hold ∷ lends ∷ []) 2 (steps 10 1 ++ (1, Stop) ∷ steps 60 1 ++ steps 60 0)
    ≡ 3 ∷ 2 ∷ 4 ∷ 1 ∷ []
unfolding keep hold lends named passing stolen_number lent_object module_of call_to steps by_success state_in
    after_events closed_after count_trailing_zeros
stopped-closed = refl

-- Each call counts its own turns.
turns-born : (after_events (three ∷ twice ∷ []) 1 (steps 150 1)).abstract.born
    ≡ 1 ∷ 2 ∷ 3 ∷ 4 ∷ 5 ∷ 6 ∷ 7 ∷ []
unfolding three twice named module_of call_to steps by_success state_in after_events count_trailing_zeros
turns-born = refl
