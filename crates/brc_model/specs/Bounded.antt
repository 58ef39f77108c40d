-- How many instructions a thread can begin in one call. Each instruction leads on to a later point of its code, but for
-- `again`, which goes back a bounded number of times in each call, and `call`, which leads to the code of a function
-- above.
use Rattle.std.specs.Prelude.{◌≡◌, ◌⊎◌, ℕ, zero, suc, ◌+◌, ◌*◌, ◌≤◌, Bool, true, false, ◌&&◌, ◌==◌, not, if◌then◌else◌, List, [], ◌∷◌, ◌++◌, length, max, Option, None, Some, slice_get, sum_by}
use Rattle.std.specs.List.{slice_index_or}
use Rattle.brc_lang.specs.declared.module.Function.{Function}
use Rattle.brc_lang.specs.declared.module.Instr.{Instr}
use Rattle.brc_lang.specs.declared.module.Instr.TheVariants.{Again, Call}
use Rattle.brc_model.specs.declared.thread.Choice.{Choice}
use Rattle.brc_model.specs.declared.thread.Choice.TheVariants.{Ok, Fault, Claim, Stop}
use Rattle.brc_model.specs.declared.actor.Place.{Place}
use Rattle.brc_model.specs.declared.actor.Place.TheVariants.{Idle, InCall, Inside, Stopping, Exiting}
use Rattle.brc_model.specs.declared.address.Address.{Address}
use Rattle.brc_model.specs.References.{one_if}
use Rattle.brc_model.specs.Actions.{StepActor, Action, Skip, Stuck, Silent, Calls, Does}
use Rattle.brc_model.specs.Dispatch.{is_before_instruction, action_of}
use Rattle.brc_model.specs.StepMachine.{StepMachine, of_thread, next_machine, machine_after}
use Rattle.brc_model.specs.World.{finds_locked}

-- ---- the bound

-- how often the instruction may go back in one call
abbrev pub times_of : Instr → ℕ
times_of (Again to times) = times
times_of _ = 0

-- the most instructions of its own code that a thread begins in one call of it: all of them at first, and all of them
-- once more for each time that an instruction `again` goes back
abbrev pub own_limit : List Instr → ℕ
own_limit code = length code * (1 + sum_by times_of code)

-- the greatest limit of the functions that the code calls, where the functions above have these limits
abbrev pub greatest_called : List ℕ → List Instr → ℕ
greatest_called limits [] = 0
greatest_called limits (Call to callee arguments otherwise ∷ code) =
    max (slice_index_or limits callee 0) (greatest_called limits code)
greatest_called limits (i ∷ code) = greatest_called limits code

-- the most instructions that a thread begins in one call of the code, with those of the calls that it makes, where the
-- functions above have these limits
abbrev pub limit_below : List ℕ → List Instr → ℕ
limit_below limits code = own_limit code * (1 + greatest_called limits code)

abbrev pub limits_below : List ℕ → List Function → List ℕ
limits_below limits [] = limits
limits_below limits (f ∷ fs) = limits_below (limits ++ limit_below limits f.code ∷ []) fs

-- the limit of each function
abbrev pub limits_of : List Function → List ℕ
limits_of functions = limits_below [] functions

-- the most instructions that a thread begins in one call of the function, with those of the calls that it makes
abbrev pub call_limit : List Function → ℕ → ℕ
call_limit functions number = slice_index_or (limits_of functions) number 0

-- ---- what a thread begins

-- Says whether the thread takes a step by the action. It takes none while another thread has locked what it would lock.
abbrev pub takes_step : (Address → ℕ) → Action → Bool
takes_step memory Skip = false
takes_step memory Stuck = false
takes_step memory (Silent moves place) = true
takes_step memory (Calls row place) = true
takes_step memory (Does d rest place) = not (finds_locked memory (Does d rest place))

-- Says whether a thread that makes no claim begins an instruction: it has no duty to do first, and takes the
-- instruction's first step.
abbrev pub begins : StepMachine → ℕ → StepActor → Choice → Bool
begins m t a choice =
    (length a.actor.agenda == 0) && is_before_instruction a.place
    && takes_step m.memory (action_of m.functions m.states m.layout t a choice)

-- Says whether the thread begins an instruction at an event of its own with the choice.
abbrev pub begins_by : StepMachine → ℕ → StepActor → Choice → Bool
begins_by m t a Ok = begins m t a Ok
begins_by m t a Fault = begins m t a Fault
begins_by m t a (Claim row) = false
begins_by m t a Stop = false

-- Says whether the thread begins an instruction at the event.
abbrev pub begins_at : ℕ → StepMachine → ℕ × Choice → Bool
begins_at t m event =
    if event.0 == t
    then of_thread false (λ a. begins_by m t a event.1) (slice_get m.actors t)
    else false

-- how many instructions the thread begins along the events from the machine
abbrev pub begun : ℕ → StepMachine → List (ℕ × Choice) → ℕ
begun t m [] = 0
begun t m (event ∷ rest) = one_if (begins_at t m event) + begun t (next_machine m event) rest

-- ---- the law

-- the calls that the thread makes after the one that it is in, or is about to begin; none if there is no such call
abbrev pub calls_after : Place → Option ℕ
calls_after (Idle zero) = None
calls_after (Idle (suc left)) = Some left
calls_after (InCall context at variables) = Some context.left
calls_after (Inside context at variables stage) = Some context.left
calls_after (Stopping lock calls) = None
calls_after Exiting = None

-- the thread is still in the call after which it makes `left` calls, or has just ended it
abbrev pub IsInOrAfter : ℕ → Place → Type 0
IsInOrAfter left place = (calls_after place ≡ Some left) ⊎ (place ≡ Idle left)

-- In one call a thread begins at most as many instructions as the limit of its function, with those of the calls that
-- it makes: along any events from where the thread is at the beginning of an outermost call or inside it, to where it
-- is still in the call or has just ended it.
abbrev pub CallsAreBounded : StepMachine → Type 0
CallsAreBounded m =
    (events : List (ℕ × Choice)) (t left : ℕ) (a b : StepActor) → slice_get m.actors t ≡ Some a
    → calls_after a.place ≡ Some left → slice_get (machine_after m events).actors t ≡ Some b
    → IsInOrAfter left b.place
    → begun t m events ≤ call_limit m.functions a.function

-- In all the calls that a thread has still to make, it begins at most as many times the limit.
abbrev pub ThreadsAreBounded : StepMachine → Type 0
ThreadsAreBounded m =
    (events : List (ℕ × Choice)) (t left : ℕ) (a : StepActor) → slice_get m.actors t ≡ Some a → a.place ≡ Idle left
    → begun t m events ≤ left * call_limit m.functions a.function
