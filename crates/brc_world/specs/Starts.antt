-- The start of a step, by the thread's action: what the thread does, and where it then is.
use Rattle.std.specs.Prelude.{◌≡◌, ℕ, ◌+◌, ◌<◌, ◌≤◌, ◌^◌, ◌==◌, Bool, true, false, if◌then◌else◌, List, [], ◌∷◌, Option, None, Some, vec_len, vec_capacity}
use Rattle.brc_lang.specs.declared.module.Function.{Function}
use Rattle.brc_lang.specs.declared.module.Instr.{Instr}
use Rattle.brc_lang.specs.declared.module.Instr.TheVariants.{Borrow, Fetch, Set, Put}
use Rattle.brc_word.specs.Words.{free_word}
use Rattle.brc_model.specs.declared.actor.Context.{Context}
use Rattle.brc_model.specs.declared.actor.Place.{Place}
use Rattle.brc_model.specs.declared.actor.Stage.{Stage}
use Rattle.brc_model.specs.declared.actor.Place.TheVariants.{Idle, InCall, Inside, Stopping, Exiting}
use Rattle.brc_model.specs.declared.duty.Duty.{Duty}
use Rattle.brc_model.specs.declared.duty.Duty.TheVariants.{ReleaseLoad, Settle, Leave, LockGate, UnlockGate}
use Rattle.brc_model.specs.declared.duty.Holding.TheVariants.{AsCaller}
use Rattle.brc_model.specs.declared.layout.Layout.{Layout}
use Rattle.brc_model.specs.declared.state.Exit.{Exit}
use Rattle.brc_model.specs.Actions.{StepActor, Action, Skip, Stuck, Silent, Calls, Does, always, stopping, give_up, dispatch_instruction, dispatch_inside}
use Rattle.brc_model.specs.Dispatch.{dispatch}
use Rattle.brc_model.specs.Layout.{root_row}
use Rattle.brc_model.specs.StepMachine.{at_place}
use Rattle.brc_model.specs.Threads.{function_in}
use Rattle.brc_machine.specs.Sights.{point_at}
use Rattle.brc_world.specs.declared.dispatch.Start.{Start}
use Rattle.brc_world.specs.declared.dispatch.Start.TheVariants as starts
use Rattle.brc_world.specs.declared.thread.Thread.{Thread}
use Rattle.brc_world.specs.Actors.{context_in, place_of, actor_of, with_agenda}
use Rattle.brc_world.specs.declared.host_call.HostCall.TheVariants as calls
use Rattle.brc_world.specs.Questions.{IsAbout, place_answered, place_called}

-- ---- the actions of a thread

-- the exit of a thread with no call left: it releases its reference to the root, settles, and leaves
abbrev pub exit_action : ℕ → Action
exit_action used = Does (ReleaseLoad root_row AsCaller) (Settle ∷ Leave 0 used ∷ []) (always Exiting)

-- the action of a thread that has stopped, by the row that it has still to unlock and by what its calls hold
abbrev pub stopped_action : Option ℕ → List (List (Option ℕ)) → Action
stopped_action (Some row) calls = Does (UnlockGate row) [] (always (stopping None calls))
stopped_action None calls = give_up calls

-- the thread's action at the instruction `i`, which is the one with its number, where `left` calls remain after the one
-- from outside
abbrev pub action_at : Layout → ℕ → ℕ → Option Instr → Thread → Action
action_at layout t left i a =
    dispatch_instruction layout t a.used (place_of a.mode (context_in a.left a) a.at a.variables) (context_in left a)
    a.at a.variables i

-- Says whether the instruction uses a cell of the list that the thread has locked.
abbrev pub uses_cell : Instr → Bool
uses_cell (Borrow to list index otherwise) = true
uses_cell (Fetch to list index otherwise) = true
uses_cell (Set list index from otherwise) = true
uses_cell (Put list index from otherwise) = true
uses_cell _ = false

-- the thread's action inside the instruction `i`, by how far the thread is in it
abbrev pub action_inside : Layout → ℕ → Stage → Option Instr → Thread → Action
action_inside layout t stage i a = dispatch_inside layout t a.used (context_in a.left a) a.at a.variables stage i

-- ---- starts

-- the number of calls after the place's own
abbrev pub left_at : Place → ℕ
left_at (Idle left) = left
left_at (InCall context at variables) = context.left
left_at (Inside context at variables stage) = context.left
left_at (Stopping lock calls) = 0
left_at Exiting = 0

-- Returns the start of a step with the action, but for what it asks of the host or of the word found. A lock that is
-- free leads to the place in a call that the action names.
abbrev pub start_by : Action → Start
start_by Skip = starts.Stuck
start_by Stuck = starts.Stuck
start_by (Silent moves place) = starts.Moved
start_by (Calls row place) = starts.Calling calls.Uses
start_by (Does (LockGate x) rest place) = starts.Locking x (left_at (place free_word)) (point_at (place free_word))
start_by (Does d rest place) = starts.Doing d

-- Returns the start of the thread's step: the first duty of its agenda, or what it dispatches.
abbrev pub first_start : List Function → Layout → ℕ → StepActor → List Duty → Start
first_start functions layout t a [] =
    start_by (dispatch layout t a.actor.used (function_in functions a.function a.place).code a.place)
first_start functions layout t a (d ∷ rest) = starts.Doing d

-- the start without what it asks of the host or of the word found
abbrev pub unasking : Start → Start
unasking (starts.Asking d question) = starts.Doing d
unasking (starts.Calling call) = starts.Calling calls.Uses
unasking start = start

-- the duty of the start finds the word that its question is about
abbrev pub AsksWell : Start → Type 0
AsksWell (starts.Asking d question) = IsAbout question d
AsksWell start = Unit {0}

-- ---- the thread afterwards

-- the instruction `next` of a call in this context if the gate found was free, and else the place
abbrev pub let_in : Context → ℕ → List (Option ℕ) → ℕ → Place → Place
let_in context next variables found place = if found == free_word then InCall context next variables else place

-- the place of the thread once the exit of its host call, or the word found, has answered what its step's start asks
abbrev pub place_after : Start → Exit → ℕ → Thread → Place
place_after (starts.Asking d question) exit found a =
    place_answered question found (context_in a.left a) a.at a.variables
place_after (starts.Locking row left next) exit found a =
    let_in (context_in left a) next a.variables found (place_of a.mode (context_in a.left a) a.at a.variables)
place_after (starts.Calling call) exit found a = place_called call exit (context_in a.left a) a.at a.variables
place_after _ exit found a = place_of a.mode (context_in a.left a) a.at a.variables

-- the thread once the exit of its host call, or the word found, has answered what its step's start asks
abbrev pub answered : Start → Exit → ℕ → Thread → StepActor
answered start exit found a = at_place (actor_of a) (place_after start exit found a)

-- Returns the thread once its step has started: the duty that it does is no longer in its agenda, and the thread is at
-- the place that the exit or the word found decides.
abbrev pub started : StepActor → Action → Exit → ℕ → StepActor
started a Skip exit found = a
started a Stuck exit found = a
started a (Silent moves place) exit found = at_place a place
started a (Calls row place) exit found = at_place a (place exit)
started a (Does d rest place) exit found = with_agenda (at_place a (place found)) rest

-- ---- a dispatch

-- the thread can dispatch: it has nothing to do, room for eight duties, and a next instruction's number
pub record CanDispatch (a : Thread) : Type 0 where
  pub empty : a.agenda.items ≡ []
  pub room : 8 ≤ vec_capacity a.agenda
  pub next : a.at + 1 < 2 ^ 64

-- the thread `old` has begun the action: its step starts so, it is now `new`, and it has room for four duties
pub record HasDispatched (old : Thread) (x : Action) (start : Start) (new : Thread) : Type 0 where
  pub starts : unasking start ≡ start_by x
  pub question : AsksWell start
  pub actor : (exit : Exit) (found : ℕ) → answered start exit found new ≡ started (actor_of old) x exit found
  pub room : vec_len new.agenda + 4 ≤ vec_capacity new.agenda
