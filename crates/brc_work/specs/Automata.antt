-- What a hand's thread makes (`Makes`), and what a thread of the step world can make (`CanMake` of the model). Two
-- things set them apart. A hand's thread makes a number of how many bytes `read` has read, where a thread of the step
-- world makes 0; and a thread of the step world may claim marks between two calls, or be stopped. Apart from that, a
-- thread of the step world can make what a hand's thread makes, and a hand's thread what a thread of the step world can
-- make: from inside an instruction, only without other calls of the host than closes.
use Rattle.std.specs.Prelude.{◌≡◌, ◌≢◌, ◌&&◌, ℕ, suc, Bool, true, false, List, [], ◌∷◌, Option, Some}
use Rattle.brc_host.specs.HostCalls.{HostCall}
use Rattle.brc_lang.specs.declared.module.Function.{Function}
use Rattle.brc_lang.specs.declared.module.Module.{Module}
use Rattle.brc_model.specs.declared.actor.Context.{Context}
use Rattle.brc_model.specs.declared.actor.OpenCall.{OpenCall}
use Rattle.brc_model.specs.declared.actor.Place.{Place}
use Rattle.brc_model.specs.declared.actor.Place.TheVariants.{Idle, InCall, Inside}
use Rattle.brc_model.specs.declared.actor.Status.TheVariants.{Running, Gone}
use Rattle.brc_model.specs.declared.layout.Layout.{Layout}
use Rattle.brc_model.specs.declared.state.State.{State}
use Rattle.brc_model.specs.declared.thread.Choice.{Choice}
use Rattle.brc_model.specs.declared.thread.Choice.TheVariants.{Ok, Fault, Claim, Stop}
use Rattle.brc_model.specs.Actions.{StepActor}
use Rattle.brc_model.specs.declared.actor.Actor.{Actor}
use Rattle.brc_model.specs.Stops.{row_locked, owned_rows, given_up, stopping}
use Rattle.brc_model.specs.Tables.{AreTrueWhereReached}
use Rattle.brc_model.specs.Threads.{number_under}
use Rattle.brc_model.specs.declared.event.WordEvent.{WordEvent}
use Rattle.brc_model.specs.Trace.{MakesStep, GoesSilently, CallsHost, DoesDuty, CanMake, Nothing, Then}
use Rattle.brc_work.specs.Stopping.{OuterGiveUp}
use Rattle.brc_work.specs.Traces.{Program, program_of, Makes, Refl, Silently, Asks, Dispatches, Reads, Continues, Closes, is_birth, has_read}

-- ---- a hand's thread

-- No step makes another number than 0 of what `read` has read, and the thread isn't gone before any.
abbrev pub IsPlain : {layout : Layout} {t : ℕ} {program : Program} {p : Place} {a : Actor} {cs : List HostCall}
    {n : ℕ} {es : List WordEvent} {q : Place} {b : Actor} → Makes layout t program p a n cs es q b → Type 0
IsPlain Refl = Unit {0}
IsPlain (Silently n cs es q r b moves before none is) = (b.status ≢ Gone) × IsPlain before
IsPlain (Asks n cs es q b row after i call before none is here asks) = (b.status ≢ Gone) × IsPlain before
IsPlain (Dispatches n cs es q b d rest next found before none is other) = (b.status ≢ Gone) × IsPlain before
IsPlain (Reads n cs es context at variables b to file most otherwise count found before none is few) =
    (count ≡ 0) × (b.status ≢ Gone) × IsPlain before
IsPlain (Continues n cs es q b d rest found before is other) = (b.status ≢ Gone) × IsPlain before
IsPlain (Closes n cs es q b x rest failed before is) = (b.status ≢ Gone) × IsPlain before

abbrev pub MakesPlainly : Layout → ℕ → Program → Place → Actor → List WordEvent → Place → Actor → Type 0
MakesPlainly layout t program p a es q b =
    (n : ℕ) × (cs : List HostCall) × (made : Makes layout t program p a n cs es q b) × IsPlain made

-- ---- a thread of the step world

abbrev pub IsNoClaim : Choice → Type 0
IsNoClaim Ok = Unit {0}
IsNoClaim Fault = Unit {0}
IsNoClaim (Claim row) = ⊥
IsNoClaim Stop = ⊥

abbrev pub ClaimsNothing : {functions : List Function} {states : ℕ → ℕ → Option State} {layout : Layout} {t : ℕ}
    {a : StepActor}
    {made : List WordEvent} {b : StepActor}
    → MakesStep functions states layout t a made b → Type 0
ClaimsNothing (GoesSilently choice moves place is) = IsNoClaim choice
ClaimsNothing (CallsHost choice row place exit is) = IsNoClaim choice
ClaimsNothing (DoesDuty choice d rest place found is) = IsNoClaim choice

-- No step is a claim or a stop.
abbrev pub HasNoClaim : {functions : List Function} {states : ℕ → ℕ → Option State} {layout : Layout} {t : ℕ}
    {a : StepActor}
    {made : List WordEvent} {b : StepActor}
    → CanMake functions states layout t a made b → Type 0
HasNoClaim (Nothing a) = Unit {0}
HasNoClaim (Then a b c made rest step more) = ClaimsNothing step × HasNoClaim more

abbrev pub CanMakeUnclaimed : List Function → (ℕ → ℕ → Option State) → Layout → ℕ → StepActor → List WordEvent
    → StepActor → Type 0
CanMakeUnclaimed functions states layout t a made b = (can : CanMake functions states layout t a made b)
    × HasNoClaim can

-- Says whether the thread is inside an instruction, so that what it does next may depend on what it has done there: the
-- line of `write` is of the word that it has loaded last, and the number of `read` of what the host has answered.
abbrev pub is_inside : Place → Bool
is_inside (Inside context at variables stage) = true
is_inside _ = false

-- The step is no call of the host but for a close, and not the birth of what `read` has read.
abbrev pub AsksNothing : {functions : List Function} {states : ℕ → ℕ → Option State} {layout : Layout} {t : ℕ}
    {a : StepActor}
    {made : List WordEvent} {b : StepActor}
    → MakesStep functions states layout t a made b → Type 0
AsksNothing (GoesSilently choice moves place is) = Unit {0}
AsksNothing (CallsHost choice row place exit is) = ⊥
AsksNothing {functions} {states} {layout} {t} {a} (DoesDuty choice d rest place found is) =
    (is_birth d && has_read (record { functions = functions; first = a.function }) a.place) ≡ false

-- No step is a claim, a stop or such a call.
abbrev pub GoesAlone : {functions : List Function} {states : ℕ → ℕ → Option State} {layout : Layout} {t : ℕ}
    {a : StepActor}
    {made : List WordEvent} {b : StepActor}
    → CanMake functions states layout t a made b → Type 0
GoesAlone (Nothing a) = Unit {0}
GoesAlone (Then a b c made rest step more) = ClaimsNothing step × AsksNothing step × GoesAlone more

abbrev pub CanMakeAlone : List Function → (ℕ → ℕ → Option State) → Layout → ℕ → StepActor → List WordEvent → StepActor
    → Type 0
CanMakeAlone functions states layout t a made b = (can : CanMake functions states layout t a made b) × GoesAlone can

-- ---- the law

-- the thread of the step world that calls the function, at the place
abbrev pub thread_at : ℕ → Place → Actor → StepActor
thread_at function place actor = record { function = function; place = place; actor = actor }

-- A thread of the step world can make what a hand's thread makes,
abbrev pub HandsMakeAsThreads : Type 0
HandsMakeAsThreads =
    (functions : List Function) (states : ℕ → ℕ → Option State) (layout : Layout) (t function : ℕ) (p q : Place)
    (a b : Actor) (es : List WordEvent)
    → MakesPlainly layout t (record { functions = functions; first = function }) p a es q b
    → CanMakeUnclaimed functions states layout t (thread_at function p a) es (thread_at function q b)

-- and what it can make from outside of all instructions, a hand's thread makes, calls of the host and all.
abbrev pub ThreadsMakeAsHands : Type 0
ThreadsMakeAsHands =
    (functions : List Function) (states : ℕ → ℕ → Option State) (layout : Layout) (t function : ℕ) (p q : Place)
    (a b : Actor) (es : List WordEvent)
    → is_inside p ≡ false
    → CanMakeUnclaimed functions states layout t (thread_at function p a) es (thread_at function q b)
    → MakesPlainly layout t (record { functions = functions; first = function }) p a es q b

-- From inside an instruction too a hand's thread makes what a thread of the step world can make without other calls of
-- the host than closes.
abbrev pub ThreadsAloneMakeAsHands : Type 0
ThreadsAloneMakeAsHands =
    (functions : List Function) (states : ℕ → ℕ → Option State) (layout : Layout) (t function : ℕ) (p q : Place)
    (a b : Actor) (es : List WordEvent)
    → CanMakeAlone functions states layout t (thread_at function p a) es (thread_at function q b)
    → MakesPlainly layout t (record { functions = functions; first = function }) p a es q b

-- ---- stops

-- A thread of the step world that is stopped before an instruction of a call does what a hand's thread has to do that
-- stops there, if the module's table gives the point this state; between two calls, it makes no further one.
pub record StopsMakeAsHands (functions : List Function) (states : ℕ → ℕ → Option State) (layout : Layout)
    (t function : ℕ) (a : Actor) : Type 0 where
  pub in_call : (context : Context) (at : ℕ) (variables : List (Option ℕ)) (s : State)
      → states (number_under function context.outer) at ≡ Some s → MakesStep functions states layout t
      (thread_at function (InCall context at variables) a) []
      (thread_at function (stopping (row_locked s.locked variables)
      (owned_rows s.slots variables ∷ given_up functions states function context.outer)) a)
  pub between : (left : ℕ) → MakesStep functions states layout t (thread_at function (Idle (suc left)) a) []
      (thread_at function (Idle 0) a)

abbrev pub HandsStopAsThreads : Type 0
HandsStopAsThreads =
    (functions : List Function) (states : ℕ → ℕ → Option State) (layout : Layout) (t function : ℕ) (a : Actor)
    → a.status ≡ Running → a.agenda ≡ [] → StopsMakeAsHands functions states layout t function a

-- What the calls around a stopped one give up by the module's table is what a hand gives up for them, if the table is
-- true where paths reach.
abbrev pub OuterCallsGiveUpAlike : Type 0
OuterCallsGiveUpAlike =
    (m : Module) (states : ℕ → ℕ → Option State) (function : ℕ) (outer : List OpenCall)
    (calls : List (List (Option ℕ)))
    → AreTrueWhereReached m states → OuterGiveUp (program_of m function) outer calls
    → given_up m.functions states function outer ≡ calls
