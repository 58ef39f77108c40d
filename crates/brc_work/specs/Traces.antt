-- The steps of a thread of the step world, as the trace of a hand that makes the same calls. The thread finds the words
-- that the hand has found.
--
-- Two things that set a hand apart from such a thread show in no event. A thread holds a reference by a variable or in
-- flight where a hand holds it as its caller. And a thread does a duty on a field or on a resource where a hand takes
-- what is there, without a step on a word. A close is a call of the host, as are those that instructions ask for.
use Rattle.std.specs.Prelude.{◌≡◌, ℕ, zero, suc, ◌+◌, ◌≤◌, Bool, true, false, ◌&&◌, ◌==◌, if◌then◌else◌, List, [], ◌∷◌, ◌++◌, Option, None, Some, slice_get, slice_set}
use Rattle.std.specs.Fmt.{decimal}
use Rattle.brc_word.specs.Words.{argument_part, free_word}
use Rattle.brc_lang.specs.declared.mode.Mode.{Mode}
use Rattle.brc_lang.specs.declared.module.Function.{Function}
use Rattle.brc_lang.specs.declared.module.Instr.{Instr}
use Rattle.brc_lang.specs.declared.module.Instr.TheVariants as instructions
use Rattle.brc_lang.specs.declared.module.Module.{Module}
use Rattle.brc_host.specs.HostCalls.{HostCall, Open, Connect, Read, Write, Close, has_failed}
use Rattle.brc_model.specs.AbstractState.{Move}
use Rattle.brc_model.specs.declared.actor.Context.{Context}
use Rattle.brc_model.specs.declared.actor.OpenCall.{OpenCall}
use Rattle.brc_model.specs.declared.actor.Place.{Place}
use Rattle.brc_model.specs.declared.actor.Place.TheVariants.{Idle, InCall, Inside, Stopping, Exiting}
use Rattle.brc_model.specs.declared.actor.Stage.TheVariants.{Granted}
use Rattle.brc_model.specs.declared.duty.Duty.{Duty}
use Rattle.brc_model.specs.declared.duty.Duty.TheVariants.{LockGate, BirthKind, CloseResource}
use Rattle.brc_model.specs.declared.layout.Layout.{Layout}
use Rattle.brc_model.specs.declared.state.Exit.{Exit}
use Rattle.brc_model.specs.declared.state.Exit.TheVariants.{Success, Fault}
use Rattle.brc_model.specs.Actions.{Action, Silent, Calls, Does, number_word, by_variable}
use Rattle.brc_model.specs.Dispatch.{dispatch}
use Rattle.brc_model.specs.Layout.{row_at}
use Rattle.brc_model.specs.declared.actor.Actor.{Actor}
use Rattle.brc_model.specs.Machine.{actor_by}
use Rattle.brc_model.specs.Threads.{function_at, number_under, function_in}
use Rattle.brc_model.specs.Trace.{events_of}
use Rattle.brc_table.specs.declared.view.View.{View}
use Rattle.brc_model.specs.declared.event.WordEvent.{WordEvent}
use Rattle.brc_queue.specs.Scans.{HasScanned, words_used}

-- ---- what a thread runs

-- The functions of a module, and the number of the one that a worker calls.
pub record Program : Type 0 where
  pub functions : List Function
  pub first : ℕ

abbrev pub program_of : Module → ℕ → Program
program_of m function = record { functions = m.functions; first = function }

-- the function that a call runs around which these calls are open
abbrev pub function_under : Program → List OpenCall → Function
function_under program outer = function_at program.functions (number_under program.first outer)

-- the code of the function that the thread's innermost call runs
abbrev pub code_at : Program → Place → List Instr
code_at program place = (function_in program.functions program.first place).code

-- Returns what a thread with an empty agenda does at the place.
abbrev pub dispatch_in : Layout → ℕ → ℕ → Program → Place → Action
dispatch_in layout t used program place = dispatch layout t used (code_at program place) place

-- ---- calls of the host

-- the instruction that the thread is before or inside
abbrev pub instruction_at : Program → Place → Option Instr
instruction_at program (Idle left) = slice_get (function_under program []).code 0
instruction_at program (InCall context at variables) = slice_get (function_under program context.outer).code at
instruction_at program (Inside context at variables stage) = slice_get (function_under program context.outer).code at
instruction_at program (Stopping locked calls) = None
instruction_at program Exiting = None

-- The instruction asks the host for this call, after these events of the thread. `write` sends the decimal digits of
-- the number whose kind word the thread has loaded last, and a line feed.
pub data Requests (es : List WordEvent) : Instr → HostCall → Type 0 where
  ForFile : (to path : ℕ) (mode : Mode) (otherwise : ℕ) (failed : Bool)
      → Requests es (instructions.Open to path mode otherwise) (Open path mode failed)
  ForPeer : (to peer otherwise : ℕ) (failed : Bool)
      → Requests es (instructions.Connect to peer otherwise) (Connect peer failed)
  ForBytes : (to file most otherwise : ℕ) (got : Option ℕ)
      → Requests es (instructions.Read to file most otherwise) (Read most got)
  ForLine : (file number otherwise : ℕ) (before : List WordEvent) (last : WordEvent) (failed : Bool) → es
      ≡ before ++ last ∷ []
      → Requests es (instructions.Write file number otherwise)
      (Write (decimal (argument_part last.found) ++ 10 ∷ []) failed)

-- the exit that an instruction takes after the call
abbrev pub exit_of : HostCall → Exit
exit_of call = if has_failed call then Fault else Success

abbrev pub is_read : Option Instr → Bool
is_read (Some (instructions.Read to file most otherwise)) = true
is_read _ = false

-- Says whether the thread goes on after a call of `read` that has succeeded: it makes a number next.
abbrev pub has_read : Program → Place → Bool
has_read program (Inside context at variables Granted) =
    is_read (slice_get (function_under program context.outer).code at)
has_read program _ = false

-- Says whether the duty gives birth to an object.
abbrev pub is_birth : Duty → Bool
is_birth (BirthKind x h word) = true
is_birth _ = false

-- Says whether the duty closes the resource of a dying object.
abbrev pub is_close : Duty → Bool
is_close (CloseResource x) = true
is_close _ = false

-- ---- instructions that begin

-- An instruction begins with the first event that a thread makes at a place before it. The events inside it, the duties
-- that its agenda has left, and the thread's exit begin none.

-- how many instructions begin with what the thread dispatches at the place: one if it is before an instruction
abbrev pub begun_at : Place → ℕ
begun_at (Idle zero) = 0
begun_at (Idle (suc left)) = 1
begun_at (InCall context at variables) = 1
begun_at (Inside context at variables stage) = 0
begun_at (Stopping locked calls) = 0
begun_at Exiting = 0

-- The same where it dispatches the duty, and finds this word. If another thread has the lock, `lock` hasn't begun: the
-- thread tries again.
abbrev pub begun_by : Place → Duty → ℕ → ℕ
begun_by place (LockGate x) found = if found == free_word then begun_at place else 0
begun_by place d found = begun_at place

-- ---- steps

-- the birth of the number that `read` makes of how many bytes it has read
abbrev pub read_birth : Layout → ℕ → Actor → Context → ℕ → ℕ → Duty
read_birth layout t a context to count = BirthKind (row_at layout t a.used) (by_variable context to) (number_word count)

-- From place p and actor a, thread t begins this many instructions, and goes by these calls of the host and by these
-- events to a place and an actor: whatever words it finds, and whatever the host answers.
pub data Makes (layout : Layout) (t : ℕ) (program : Program) (p : Place) (a : Actor)
    : ℕ → List HostCall → List WordEvent → Place → Actor → Type 0 where
  Refl : Makes layout t program p a 0 [] [] p a
  -- a silent step
  Silently : (n : ℕ) (cs : List HostCall) (es : List WordEvent) (q r : Place) (b : Actor) (moves : List Move)
      → Makes layout t program p a n cs es q b → b.agenda ≡ [] → dispatch_in layout t b.used program q ≡ Silent moves r
      → Makes layout t program p a (n + begun_at q) cs es r b
  -- the call of the host that the instruction asks for: the thread goes on as the host answers
  Asks : (n : ℕ) (cs : List HostCall) (es : List WordEvent) (q : Place) (b : Actor) (row : Option ℕ)
      (after : Exit → Place) (i : Instr) (call : HostCall) → Makes layout t program p a n cs es q b → b.agenda ≡ []
      → dispatch_in layout t b.used program q ≡ Calls row after → instruction_at program q ≡ Some i → Requests es i call
      → Makes layout t program p a (n + begun_at q) (cs ++ call ∷ []) es (after (exit_of call)) b
  -- the duty that an instruction begins with, but for the birth of what `read` has read
  Dispatches : (n : ℕ) (cs : List HostCall) (es : List WordEvent) (q : Place) (b : Actor) (d : Duty) (rest : List Duty)
      (next : ℕ → Place) (found : ℕ) → Makes layout t program p a n cs es q b → b.agenda ≡ []
      → dispatch_in layout t b.used program q ≡ Does d rest next → (is_birth d && has_read program q) ≡ false
      → Makes layout t program p a (n + begun_by q d found) cs (es ++ events_of layout t b d found) (next found)
      (actor_by layout t b d rest found)
  -- that birth: the step world knows no bytes, and makes the number 0. The host has just said how many were read.
  Reads : (n : ℕ) (cs : List HostCall) (es : List WordEvent) (context : Context) (at : ℕ)
      (variables : List (Option ℕ)) (b : Actor) (to file most otherwise count found : ℕ)
      → Makes layout t program p a n (cs ++ Read most (Some count) ∷ []) es (Inside context at variables Granted) b
      → b.agenda ≡ []
      → slice_get (function_under program context.outer).code at ≡ Some (instructions.Read to file most otherwise)
      → count ≤ most
      → Makes layout t program p a n (cs ++ Read most (Some count) ∷ [])
      (es ++ events_of layout t b (read_birth layout t b context to count) found)
      (InCall context (at + 1) (slice_set variables to (Some (row_at layout t b.used))))
      (actor_by layout t b (read_birth layout t b context to count) [] found)
  -- the next duty of its agenda, but for a close
  Continues : (n : ℕ) (cs : List HostCall) (es : List WordEvent) (q : Place) (b : Actor) (d : Duty) (rest : List Duty)
      (found : ℕ) → Makes layout t program p a n cs es q b → b.agenda ≡ d ∷ rest → is_close d ≡ false
      → Makes layout t program p a n cs (es ++ events_of layout t b d found) q (actor_by layout t b d rest found)
  -- a close, of a dying object's resource
  Closes : (n : ℕ) (cs : List HostCall) (es : List WordEvent) (q : Place) (b : Actor) (x : ℕ) (rest : List Duty)
      (failed : Bool) → Makes layout t program p a n cs es q b → b.agenda ≡ CloseResource x ∷ rest
      → Makes layout t program p a n (cs ++ Close failed ∷ []) es q (actor_by layout t b (CloseResource x) rest 0)

-- ---- hands

-- The thread that the hand is of, with these duties to do. A hand lends by no duty.
abbrev pub thread_with : View → List Duty → Actor
thread_with v ds = record v.actor { agenda = ds; lent = None }

-- What the hand's trace has gained from v to u are events by which its thread goes, with these calls of the host, from
-- place p, with duties ds to do, to place q, with duties es to do. It has begun this many instructions.
pub record Traces (begun : ℕ) (calls : List HostCall) (program : Program) (p : Place) (ds : List Duty) (v : View)
    (q : Place) (es : List Duty) (u : View) : Type 0 where
  pub events : List WordEvent
  pub trace : u.trace ≡ v.trace ++ events
  pub makes : Makes v.layout v.thread program p (thread_with v ds) begun calls events q (thread_with u es)
  pub layout : u.layout ≡ v.layout
  pub thread : u.thread ≡ v.thread

-- The same of a thread that has nothing to do at either place.
abbrev pub MakesTrace : ℕ → List HostCall → Program → Place → View → Place → View → Type 0
MakesTrace begun calls program p v q u = Traces begun calls program p [] v q [] u

-- The hand has made this many calls of the program's function, with these calls of the host. Before each it has looked
-- through its queue. In all of them together it has begun this many instructions: the second number.
pub data MakesCalls (program : Program) (v : View) : ℕ → ℕ → List HostCall → View → Type 0 where
  NoCall : MakesCalls program v 0 0 [] v
  OneMore : (n begun within : ℕ) (calls closes more : List HostCall) (u w x : View)
      → MakesCalls program v n begun calls u → HasScanned u (words_used u.actor.used) closes w
      → MakesTrace within more program (Idle 1) w (Idle 0) x
      → MakesCalls program v (n + 1) (begun + within) (calls ++ (closes ++ more)) x
