-- What workers on threads of their own do with their hands.
use Rattle.std.specs.Prelude.{◌≡◌, ℕ, ◌*◌, ◌<◌, Bool, true, List, [], ◌++◌, length}
use Rattle.std.proofs.Props.{props}
use Rattle.brc_host.specs.HostCalls.{HostCall}
use Rattle.brc_host.specs.declared.counts.HostCounts.{HostCounts}
use Rattle.brc_lang.specs.declared.module.Module.{Module}
use Rattle.brc_model.specs.Bounded.{call_limit}
use Rattle.brc_model.specs.Threads.{function_at}
use Rattle.brc_model.specs.declared.actor.Status.TheVariants.{Gone}
use Rattle.brc_table.specs.Hands.{TableState, HandState, IsOf}
use Rattle.brc_table.specs.Views.{worker_view}
use Rattle.brc_table.specs.declared.view.View.{View}
use Rattle.brc_queue.specs.Scans.{HasLeft}
use Rattle.brc_work.specs.Fits.{IsHeapOf}
use Rattle.brc_work.specs.Runs.{RanBy}
use Rattle.brc_work.specs.Totals.{Asked, no_totals, totals_of, is_done}
use Rattle.brc_work.specs.Traces.{Program, program_of}
use Rattle.brc_work.specs.declared.ran.Ran.{Ran}

-- ---- what a worker has to do

-- The worker of the thread makes this many calls of the program's function over the heap.
pub record Job (S : Type 0) : Type 0 where
  pub heap : TableState
  pub program : Program
  pub times : ℕ
  -- how many instructions it may begin in all its calls
  pub steps : ℕ
  pub thread : ℕ
  -- its host, as it was before
  pub host : S

-- the job with the module's function of this number
abbrev pub job : {S : Type 0} → TableState → Module → ℕ → ℕ → ℕ → ℕ → S → Job S
job heap m function times steps thread host = record {
  heap = heap;
  program = program_of m function;
  times = times;
  steps = steps;
  thread = thread;
  host = host;
}

-- A worker may call the function of this number from outside: it is there, and has no parameters.
pub record MayBeCalled (m : Module) (function : ℕ) : Type 0 where
  pub there : function < length m.functions
  pub bare : (function_at m.functions function).parameters ≡ []

-- ---- hands

-- The worker's hand was just given out.
pub record IsFresh (heap : TableState) (thread : ℕ) (hand : HandState) : Type 0 where
  pub of : IsOf heap hand
  pub view_is : hand.view ≡ worker_view heap.layout thread
  pub no_field : hand.fields ≡ []

-- The hand has made its calls of the function, or has stopped; then it has left, and has done nothing else. Its host
-- was asked for these calls.
pub record CallsAndLeaves (program : Program) (times steps : ℕ) (done : Bool) (calls : List HostCall) (v u : View)
    : Type 0 where
  pub called : View
  pub within : List HostCall
  pub closes : List HostCall
  pub calls_are : calls ≡ within ++ closes
  pub ran : RanBy program times steps done within v called
  pub leaves : HasLeft closes called u

-- The hand is the worker's, its thread is gone, and it has taken no slot.
pub record IsGone {S : Type 0} (j : Job S) (hand : HandState) : Type 0 where
  pub of : IsOf j.heap hand
  pub thread_is : hand.view.thread ≡ j.thread
  pub gone : hand.view.actor.status ≡ Gone
  pub no_field : hand.fields ≡ []

-- The worker's hand has done its job: it has made the calls, or was stopped by its bound, is gone, and holds nothing.
-- The worker has counted the objects that it has given birth to, and the faults of its host.
pub record HasGone {S : Type 0} (answers : S → HostCall → S → Type 0) (counts : S → HostCounts) (j : Job S)
    (hand : HandState) (ran : Ran) : Type 0 where
  pub hand_is : IsGone j hand
  pub idle : (hand.view.actor.agenda ≡ []) × (hand.view.actor.aside ≡ []) × (hand.view.actor.head ≡ 0)
  pub holds_none : hand.view.references ≡ []
  pub created : (totals_of ran).created ≡ hand.view.actor.used
  -- the host, once the worker is gone
  pub later : S
  pub asked : Asked answers counts j.host later no_totals (totals_of ran)
      (λ calls. CallsAndLeaves j.program j.times j.steps (is_done ran) calls (worker_view j.heap.layout j.thread)
      hand.view)
  -- a bound above the limit of all its calls stops no worker
  pub unbounded : j.times * call_limit j.program.functions j.program.first < j.steps → is_done ran ≡ true

-- A worker's thread leaves a hand that is gone. If the worker began, the hand has done its job.
abbrev pub Ends : {S : Type 0} → (S → HostCall → S → Type 0) → (S → HostCounts) → Job S → HandState → Ran → Bool
    → Type 0
Ends answers counts j hand ran called =
    IsGone j hand × (called ≡ true → HasGone answers counts j hand ran)

-- ---- a fact that a struct can keep

pub called-prop : (m : Module) (function : ℕ) → IsProp (MayBeCalled m function)
called-prop m function = Prim.hlevel props

pub heap-prop : (m : Module) (heap : TableState) → IsProp (IsHeapOf m heap)
heap-prop m heap = Prim.hlevel props

pub fresh-prop : (heap : TableState) (thread : ℕ) (hand : HandState) → IsProp (IsFresh heap thread hand)
fresh-prop heap thread hand = Prim.hlevel props
