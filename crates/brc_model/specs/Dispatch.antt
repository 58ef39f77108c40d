-- What a thread does next: the first duty of its agenda, or what its code dispatches.
use Rattle.std.specs.Prelude.{ℕ, zero, suc, Bool, true, false, ◌&&◌, ◌==◌, nat_lt, if◌then◌else◌, List, [], ◌∷◌, length, Option, None, Some, slice_get}
use Rattle.brc_lang.specs.declared.module.Instr.{Instr}
use Rattle.brc_lang.specs.declared.module.Function.{Function}
use Rattle.brc_model.specs.declared.thread.Choice.{Choice}
use Rattle.brc_model.specs.declared.thread.Choice.TheVariants.{Ok, Fault, Claim, Stop}
use Rattle.brc_model.specs.declared.state.Exit.{Exit}
use Rattle.brc_model.specs.declared.state.Exit.TheVariants.{Success, Fault as FaultExit}
use Rattle.brc_model.specs.declared.actor.Status.{Status}
use Rattle.brc_model.specs.declared.actor.Status.TheVariants.{Running, Leaving, Gone}
use Rattle.brc_model.specs.declared.actor.Place.{Place}
use Rattle.brc_model.specs.declared.actor.Place.TheVariants.{Idle, InCall, Inside, Stopping, Exiting}
use Rattle.brc_model.specs.declared.state.State.{State}
use Rattle.brc_model.specs.declared.duty.Holding.TheVariants.{AsCaller}
use Rattle.brc_model.specs.declared.duty.Duty.{Duty}
use Rattle.brc_model.specs.declared.duty.Duty.TheVariants.{ReleaseLoad, Settle, Leave, ClaimMark, UnlockGate}
use Rattle.brc_model.specs.Threads.{function_in, entry_variables}
use Rattle.brc_model.specs.declared.layout.Layout.{Layout}
use Rattle.brc_model.specs.Layout.{root_row, block_of, index_of}
use Rattle.brc_model.specs.Machine.{is_running}
use Rattle.brc_model.specs.Action.{StepActor, Action, Skip, Stuck, Does, always}
use Rattle.brc_model.specs.Stops.{stopping, give_up, stop_action}
use Rattle.brc_model.specs.Actions.{first_context, dispatch_instruction, dispatch_inside}

-- ---- what a thread dispatches

-- Returns what a thread with an empty agenda does, whose innermost call runs this code. With no call left it gives up
-- its reference to the root, settles, and leaves.
abbrev pub dispatch : Layout → ℕ → ℕ → List Instr → Place → Action
dispatch layout t used code Exiting = Stuck
dispatch layout t used code (Idle zero) =
    Does (ReleaseLoad root_row AsCaller) (Settle ∷ Leave 0 used ∷ []) (always Exiting)
dispatch layout t used code (Idle (suc left)) =
    dispatch_instruction layout t used (Idle (suc left)) (first_context left) 0 entry_variables (slice_get code 0)
dispatch layout t used code (InCall context at variables) =
    dispatch_instruction layout t used (InCall context at variables) context at variables (slice_get code at)
dispatch layout t used code (Inside context at variables stage) =
    dispatch_inside layout t used context at variables stage (slice_get code at)
dispatch layout t used code (Stopping (Some row) calls) = Does (UnlockGate row) [] (always (stopping None calls))
dispatch layout t used code (Stopping None calls) = give_up calls

-- Says whether the place is outside all calls.
abbrev pub is_idle : Place → Bool
is_idle (Idle left) = true
is_idle (InCall context at variables) = false
is_idle (Inside context at variables stage) = false
is_idle (Stopping lock calls) = false
is_idle Exiting = false

-- Says whether the thread is before an instruction: at the beginning of a call or at a point of one.
abbrev pub is_before_instruction : Place → Bool
is_before_instruction (Idle zero) = false
is_before_instruction (Idle (suc left)) = true
is_before_instruction (InCall context at variables) = true
is_before_instruction (Inside context at variables stage) = false
is_before_instruction (Stopping lock calls) = false
is_before_instruction Exiting = false

-- Says whether the thread may stop: it runs, has nothing to do, and is before an instruction. An instruction that it
-- has begun it ends first; a lock that it tried and didn't get hasn't begun.
abbrev pub may_stop : StepActor → Bool
may_stop a = is_before_instruction a.place && is_running a.actor.status && (length a.actor.agenda == 0)

-- Says whether the thread may claim the row: it runs, is outside its calls with nothing to do, and has used the row,
-- which is in its own block.
abbrev pub may_claim : Layout → ℕ → StepActor → ℕ → Bool
may_claim layout t a row =
    is_idle a.place && is_running a.actor.status && (length a.actor.agenda == 0) && (block_of layout row == t)
    && nat_lt (index_of layout t row) a.actor.used

-- Returns what a thread that isn't gone does: the first duty of its agenda, or what it dispatches.
abbrev pub agenda_action : List Function → Layout → ℕ → StepActor → List Duty → Action
agenda_action functions layout t a [] =
    dispatch layout t a.actor.used (function_in functions a.function a.place).code a.place
agenda_action functions layout t a (d ∷ rest) = Does d rest (always a.place)

-- Returns what a thread of the status does: one that is gone takes no step.
abbrev pub status_action : List Function → Layout → ℕ → StepActor → Status → Action
status_action functions layout t a Gone = Skip
status_action functions layout t a Running = agenda_action functions layout t a a.actor.agenda
status_action functions layout t a Leaving = agenda_action functions layout t a a.actor.agenda

-- The exit that the choice gives a host call or a close.
abbrev pub exit_of : Choice → Exit
exit_of Ok = Success
exit_of Fault = FaultExit
exit_of (Claim row) = Success
exit_of Stop = Success

-- Returns what the thread does at an event with the choice. Only a host call or a close ends another way by `Fault`
-- than by `Ok`. The states are those that the module's table gives the points of its functions.
abbrev pub action_of : List Function → (ℕ → ℕ → Option State) → Layout → ℕ → StepActor → Choice → Action
action_of functions states layout t a Ok = status_action functions layout t a a.actor.status
action_of functions states layout t a Fault = status_action functions layout t a a.actor.status
action_of functions states layout t a (Claim row) =
    if may_claim layout t a row then Does (ClaimMark row) [] (always a.place) else Skip
action_of functions states layout t a Stop =
    if may_stop a then stop_action functions states a.function a.place else Skip
