-- A hand's thread and a thread of the step world make the same, but for what `Automata` of specs/ names.
use Rattle.std.proofs.Common.{◌≡◌, ◌≢◌, ℕ, suc, ◌+◌, Bool, true, false, Option, None, Some, cond, length, List, [], ◌∷◌, ◌++◌, append_assoc, append-nil, refl, sym, ap, ◌∙◌, subst}
use Rattle.std.specs.Prelude.{◌==◌, ◌&&◌, slice_get, slice_set}
use Rattle.brc_host.specs.HostCalls.{HostCall, Read, Close}
use Rattle.brc_lang.specs.declared.module.Function.{Function}
use Rattle.brc_lang.specs.declared.module.Instr.{Instr}
use Rattle.brc_lang.specs.declared.module.Module.{Module}
use Rattle.brc_model.specs.declared.actor.OpenCall.{OpenCall}
use Rattle.brc_model.specs.declared.actor.Place.{Place}
use Rattle.brc_model.specs.declared.actor.Place.TheVariants.{Idle, InCall, Inside}
use Rattle.brc_model.specs.declared.actor.Stage.TheVariants.{Granted}
use Rattle.brc_model.specs.declared.actor.Status.{Status}
use Rattle.brc_model.specs.declared.actor.Status.TheVariants.{Running, Leaving, Gone}
use Rattle.brc_model.specs.declared.duty.Duty.{Duty}
use Rattle.brc_model.specs.declared.duty.Duty.TheVariants.{CloseResource}
use Rattle.brc_model.specs.declared.layout.Layout.{Layout}
use Rattle.brc_model.specs.declared.state.Exit.TheVariants.{Fault as FaultExit}
use Rattle.brc_model.specs.declared.state.State.{State}
use Rattle.brc_model.specs.declared.thread.Choice.{Choice}
use Rattle.brc_model.specs.declared.thread.Choice.TheVariants.{Ok, Fault, Claim, Stop}
use Rattle.brc_model.specs.Actions.{StepActor, Action, Skip, Stuck, Silent, Calls, Does, always, dispatch_inside, stop_action, stop_in_call}
use Rattle.brc_model.specs.Dispatch.{agenda_action, status_action, action_of, is_before_instruction}
use Rattle.brc_model.specs.Layout.{row_at}
use Rattle.brc_model.specs.declared.actor.Actor.{Actor}
use Rattle.brc_model.specs.Machine.{actor_by, is_running}
use Rattle.brc_model.specs.Stops.{row_locked, owned_rows, owned_by, fault_state, waiting_state, given_up, stopping}
use Rattle.brc_model.specs.Tables.{Reaches, AreTrueWhereReached}
use Rattle.brc_model.specs.Threads.{function_of, number_under}
use Rattle.brc_model.specs.SlotStates.{after}
use Rattle.brc_model.proofs.Basics.Lists.{none_some}
use Rattle.brc_model.specs.declared.event.WordEvent.{WordEvent}
use Rattle.brc_model.specs.Trace.{events_of, MakesStep, GoesSilently, CallsHost, DoesDuty, CanMake, Nothing, Then}
use Rattle.brc_work.specs.Stopping.{OuterGiveUp, NoOuter, OneOuter}
use Rattle.brc_work.specs.Traces.{Program, program_of, dispatch_in, Makes, Refl, Silently, Asks, Dispatches, Reads, Continues, Closes, read_birth, exit_of, is_birth, has_read}
use Rattle.brc_work.specs.Automata.{IsPlain, MakesPlainly, IsNoClaim, ClaimsNothing, HasNoClaim, CanMakeUnclaimed, AsksNothing, GoesAlone, thread_at, HandsMakeAsThreads, ThreadsAloneMakeAsHands, HandsStopAsThreads, OuterCallsGiveUpAlike}

-- ---- actions

-- What a thread that isn't gone does at an event that is no claim and no stop.
alive_action : (functions : List Function) (layout : Layout) (t : ℕ) (a : StepActor) (s : Status) → s ≢ Gone
    → status_action functions layout t a s ≡ agenda_action functions layout t a a.actor.agenda
alive_action functions layout t a Running alive = refl
alive_action functions layout t a Leaving alive = refl
alive_action functions layout t a Gone alive = absurd (alive refl)

abbrev called_in : List Function → ℕ → Program
called_in functions function = record { functions = functions; first = function }

-- ---- from a hand's thread to one of the step world

module _ (functions : List Function) (states : ℕ → ℕ → Option State) (layout : Layout) (t : ℕ) where
  can_then : (a b c : StepActor) (made more : List WordEvent) (can : CanMake functions states layout t a made b)
      → HasNoClaim can → CanMakeUnclaimed functions states layout t b more c
      → CanMakeUnclaimed functions states layout t a (made ++ more) c
  can_then a b c made more (Nothing same) none after = after
  can_then a b c made more (Then first next last now later step rest) none after =
      let on = can_then next b c later more rest none.1 after in
      subst (λ (all : List WordEvent). CanMakeUnclaimed functions states layout t a all c)
      (sym (append_assoc now later more))
      (Then first next c now (later ++ more) step on.0, (none.0, on.1))

  module _ (function : ℕ) (p : Place) (a : Actor) where
    abbrev Can : List WordEvent → Place → Actor → Type 0
    Can es q b =
        CanMakeUnclaimed functions states layout t (thread_at function p a) es (thread_at function q b)

    one_more : (es : List WordEvent) (q r : Place) (b c : Actor) (made : List WordEvent) → Can es q b
        → (step : MakesStep functions states layout t (thread_at function q b) made (thread_at function r c))
        → ClaimsNothing step
        → CanMakeUnclaimed functions states layout t (thread_at function p a) (es ++ made)
        (thread_at function r c)
    one_more es q r b c made before step none =
        let now = thread_at function q b in
        let after = thread_at function r c in
        can_then (thread_at function p a) now after es made before.0 before.1
        (subst (λ (all : List WordEvent). CanMakeUnclaimed functions states layout t now all after) (append-nil made)
        (Then now after after made [] step (Nothing after), (none, tt)))

    silent_more : (es : List WordEvent) (q r : Place) (b c : Actor) → Can es q b
        → (step : MakesStep functions states layout t (thread_at function q b) [] (thread_at function r c))
        → ClaimsNothing step → Can es r c
    silent_more es q r b c before step none =
        subst (λ (all : List WordEvent). CanMakeUnclaimed functions states layout t (thread_at function p a) all
        (thread_at function r c)) (append-nil es) (one_more es q r b c [] before step none)

    duty_more : (es : List WordEvent) (q r : Place) (b : Actor) (d : Duty) (rest : List Duty) (found : ℕ) → Can es q b
        → (step : MakesStep functions states layout t (thread_at function q b) (events_of layout t b d found)
        (thread_at function r (actor_by layout t b d rest found)))
        → ClaimsNothing step → Can (es ++ events_of layout t b d found) r (actor_by layout t b d rest found)
    duty_more es q r b d rest found before step none =
        let after = actor_by layout t b d rest found in
        (one_more es q r b after (events_of layout t b d found) before step none)

    -- A thread with nothing to do does what it dispatches.
    dispatches : (q : Place) (b : Actor) (x : Action) → b.status ≢ Gone → b.agenda ≡ []
        → dispatch_in layout t b.used (called_in functions function) q ≡ x
        → action_of functions states layout t (thread_at function q b) Ok ≡ x
    dispatches q b x alive none is =
        alive_action functions layout t (thread_at function q b) b.status alive
        ∙ ap (agenda_action functions layout t (thread_at function q b)) none ∙ is

    pub plain_can : (n : ℕ) (cs : List HostCall) (es : List WordEvent) (q : Place) (b : Actor)
        (made : Makes layout t (called_in functions function) p a n cs es q b) → IsPlain made → Can es q b
    plain_can n cs es q b Refl plain = (Nothing (thread_at function p a), tt)
    plain_can n cs es q b (Silently k ds fs r s c moves before none is) plain =
        silent_more fs r s c c (plain_can k ds fs r c before plain.1)
        (GoesSilently Ok moves s (dispatches r c (Silent moves s) plain.0 none is)) tt
    plain_can n cs es q b (Asks k ds fs r c row after i call before none is here asks) plain =
        silent_more fs r (after (exit_of call)) c c (plain_can k ds fs r c before plain.1)
        (CallsHost Ok row after (exit_of call) (dispatches r c (Calls row after) plain.0 none is)) tt
    plain_can n cs es q b (Dispatches k ds fs r c d rest next found before none is other) plain =
        duty_more fs r (next found) c d rest found (plain_can k ds fs r c before plain.1)
        (DoesDuty Ok d rest next found (dispatches r c (Does d rest next) plain.0 none is)) tt
    plain_can n cs es q b (Reads k ds fs context at variables c to file most past count found before none is few) plain
        =
        let r = Inside context at variables Granted in
        let after = InCall context (at + 1) (slice_set variables to (Some (row_at layout t c.used))) in
        let reads : dispatch_in layout t c.used (called_in functions function) r
        ≡ Does (read_birth layout t c context to 0) [] (always after) =
        ap (dispatch_inside layout t c.used context at variables Granted) is in
        subst (λ (n : ℕ). Can (fs ++ events_of layout t c (read_birth layout t c context to n) found) after
        (actor_by layout t c (read_birth layout t c context to n) [] found)) (sym plain.0)
        (duty_more fs r after c (read_birth layout t c context to 0) [] found
        (plain_can k (ds ++ Read most (Some count) ∷ []) fs r c before plain.2)
        (DoesDuty Ok (read_birth layout t c context to 0) [] (always after) found
        (dispatches r c (Does (read_birth layout t c context to 0) [] (always after)) plain.1 none reads)) tt)
    plain_can n cs es q b (Continues k ds fs r c d rest found before is other) plain =
        duty_more fs r r c d rest found (plain_can k ds fs r c before plain.1)
        (DoesDuty Ok d rest (always r) found
        (alive_action functions layout t (thread_at function r c) c.status plain.0
        ∙ ap (agenda_action functions layout t (thread_at function r c)) is)) tt
    plain_can n cs es q b (Closes k ds fs r c x rest failed before is) plain =
        subst (λ (gs : List WordEvent). Can gs r (actor_by layout t c (CloseResource x) rest 0)) (append-nil fs)
        (duty_more fs r r c (CloseResource x) rest 0 (plain_can k ds fs r c before plain.1)
        (DoesDuty Ok (CloseResource x) rest (always r) 0
        (alive_action functions layout t (thread_at function r c) c.status plain.0
        ∙ ap (agenda_action functions layout t (thread_at function r c)) is)) tt)

-- ---- and back

module _ (functions : List Function) (states : ℕ → ℕ → Option State) (layout : Layout) (t function : ℕ) (p : Place)
    (a : Actor) where
  abbrev Plainly : List WordEvent → Place → Actor → Type 0
  Plainly es q b = MakesPlainly layout t (called_in functions function) p a es q b

  -- A hand's thread that has come to a place goes on by the action.
  abbrev GoesOn : List WordEvent → Place → Actor → Action → Type 0
  GoesOn es q b Skip = Unit {0}
  GoesOn es q b Stuck = Unit {0}
  GoesOn es q b (Silent moves place) = Plainly es place b
  GoesOn es q b (Calls row place) = Unit {0}
  GoesOn es q b (Does d rest place) =
      (found : ℕ) → (is_birth d && has_read (called_in functions function) q) ≡ false
      → Plainly (es ++ events_of layout t b d found) (place found) (actor_by layout t b d rest found)

  dispatched : (es : List WordEvent) (q : Place) (b : Actor) (x : Action) → Plainly es q b → b.status ≢ Gone
      → b.agenda ≡ [] → dispatch_in layout t b.used (called_in functions function) q ≡ x → GoesOn es q b x
  dispatched es q b Skip so alive none is = tt
  dispatched es q b Stuck so alive none is = tt
  dispatched es q b (Silent moves place) so alive none is =
      (_, so.1, Silently so.0 so.1 es q place b moves so.2 none is, (alive, so.3))
  dispatched es q b (Calls row place) so alive none is =
      tt
  dispatched es q b (Does d rest place) so alive none is =
      λ found other. (_, so.1, Dispatches so.0 so.1 es q b d rest place found so.2 none is other, (alive, so.3))

  by_agenda : (es : List WordEvent) (q : Place) (b : Actor) (agenda : List Duty) → Plainly es q b → b.status ≢ Gone
      → b.agenda ≡ agenda → GoesOn es q b (agenda_action functions layout t (thread_at function q b) agenda)
  by_agenda es q b [] so alive is =
      dispatched es q b (agenda_action functions layout t (thread_at function q b) []) so alive is refl
  by_agenda es q b (CloseResource x ∷ rest) so alive is =
      λ found other. subst (λ (fs : List WordEvent). Plainly fs q (actor_by layout t b (CloseResource x) rest found))
      (sym (append-nil es))
      (so.0, so.1 ++ Close false ∷ [], Closes so.0 so.1 es q b x rest false so.2 is, (alive, so.3))
  by_agenda es q b (d ∷ rest) so alive is =
      λ found other. (so.0, so.1, Continues so.0 so.1 es q b d rest found so.2 is refl, (alive, so.3))

  by_status : (es : List WordEvent) (q : Place) (b : Actor) (s : Status) → Plainly es q b → b.status ≡ s
      → GoesOn es q b (status_action functions layout t (thread_at function q b) s)
  by_status es q b Gone so is = tt
  by_status es q b Running so is =
      by_agenda es q b b.agenda so (λ gone. let wrong : Running ≡ Gone = sym is ∙ gone in cc) refl
  by_status es q b Leaving so is =
      by_agenda es q b b.agenda so (λ gone. let wrong : Leaving ≡ Gone = sym is ∙ gone in cc) refl

  by_choice : (es : List WordEvent) (q : Place) (b : Actor) (choice : Choice) (x : Action) → Plainly es q b
      → IsNoClaim choice → action_of functions states layout t (thread_at function q b) choice ≡ x → GoesOn es q b x
  by_choice es q b Ok x so none is = subst (GoesOn es q b) is (by_status es q b b.status so refl)
  by_choice es q b Fault x so none is = subst (GoesOn es q b) is (by_status es q b b.status so refl)
  by_choice es q b (Claim row) x so none is = absurd none
  by_choice es q b Stop x so none is = absurd none

module _ (functions : List Function) (states : ℕ → ℕ → Option State) (layout : Layout) (t : ℕ) (p : Place)
    (a : Actor) where
  abbrev On : ℕ → List WordEvent → Place → Actor → Type 0
  On function es q b = MakesPlainly layout t (called_in functions function) p a es q b

  -- A thread of the step world keeps its function.
  one_step : (x next : StepActor) (es : List WordEvent) (now : List WordEvent)
      → (step : MakesStep functions states layout t x now next) → ClaimsNothing step → AsksNothing step
      → On x.function es x.place x.actor
      → (next.function ≡ x.function) × On x.function (es ++ now) next.place next.actor
  one_step x next es now (GoesSilently choice moves place is) none alone so = (
    refl,
    subst (λ (fs : List WordEvent). On x.function fs place x.actor) (sym (append-nil es))
        (by_choice functions states layout t x.function p a es x.place x.actor choice (Silent moves place) so none is),
  )
  one_step x next es now (CallsHost choice row place exit is) none alone so = absurd alone
  one_step x next es now (DoesDuty choice d rest place found is) none alone so = (
    refl,
    by_choice functions states layout t x.function p a es x.place x.actor choice (Does d rest place) so none is
        found alone,
  )

  can_plain : (x c : StepActor) (es : List WordEvent) (made : List WordEvent)
      (can : CanMake functions states layout t x made c)
      → GoesAlone can → On x.function es x.place x.actor
      → On x.function (es ++ made) c.place c.actor
  can_plain x c es made (Nothing same) none so =
      subst (λ (fs : List WordEvent). On x.function fs x.place x.actor) (sym (append-nil es)) so
  can_plain x c es made (Then first next last now later step rest) none so =
      let went = one_step x next es now step none.0 none.1 so in
      let here = es ++ now in
      let from = subst (λ (f : ℕ). On f here next.place next.actor) (sym went.0) went.1 in
      subst (λ (fs : List WordEvent). On x.function fs c.place c.actor) (append_assoc es now later)
      (subst (λ (f : ℕ). On f (here ++ later) c.place c.actor) went.0
      (can_plain next c here later rest none.2 from))

pub hands_as_threads : HandsMakeAsThreads
hands_as_threads functions states layout t function p q a b es plain =
    plain_can functions states layout t function p a plain.0 plain.1 es q b plain.2 plain.3

pub threads_alone_as_hands : ThreadsAloneMakeAsHands
threads_alone_as_hands functions states layout t function p q a b es can =
    can_plain functions states layout t p a (thread_at function p a) (thread_at function q b) [] es can.0 can.1
    (0, [], Refl, tt)

-- ---- stops

stop_running : (functions : List Function) (states : ℕ → ℕ → Option State) (layout : Layout) (t function : ℕ)
    (place : Place) (a : Actor) → is_before_instruction place ≡ true → a.status ≡ Running → a.agenda ≡ []
    → action_of functions states layout t (thread_at function place a) Stop
    ≡ stop_action functions states function place
stop_running functions states layout t function place a before running none =
    let does = λ (b : Bool). cond b (stop_action functions states function place) Skip in
    ap (λ (b : Bool). does (b && is_running a.status && (length a.agenda == 0))) before
    ∙ (ap (λ (s : Status). does (is_running s && (length a.agenda == 0))) running
    ∙ ap (λ (ds : List Duty). does (length ds == 0)) none)

pub hands_stop_as_threads : HandsStopAsThreads
hands_stop_as_threads functions states layout t function a running none = record {
  in_call = λ context at variables s known.
      let outer = given_up functions states function context.outer in
      GoesSilently Stop [] (stopping (row_locked s.locked variables) (owned_rows s.slots variables ∷ outer))
      (stop_running functions states layout t function (InCall context at variables) a refl running none
      ∙ ap (stop_in_call outer variables) known);
  between = λ left.
      GoesSilently Stop [] (Idle 0)
      (stop_running functions states layout t function (Idle (suc left)) a refl running none);
}

-- The table gives the point of an open call the state in which paths reach it.
outer_known : (m : Module) (states : ℕ → ℕ → Option State) (number at : ℕ) (i : Instr) (s : State)
    → AreTrueWhereReached m states → (o : Option Function) → slice_get m.functions number ≡ o
    → slice_get (function_of o).code at ≡ Some i → Reaches (function_of o) at s → states number at ≡ Some s
outer_known m states number at i s truth None is found reaches = absurd (none_some i found)
outer_known m states number at i s truth (Some f) is found reaches = truth number at f s is reaches

pub outer_give_up_alike : OuterCallsGiveUpAlike
outer_give_up_alike m states function outer calls truth gives = alike outer calls gives where
  alike : (outer : List OpenCall) (calls : List (List (Option ℕ)))
      → OuterGiveUp (program_of m function) outer calls → given_up m.functions states function outer ≡ calls
  alike outer calls NoOuter = refl
  alike outer calls (OneOuter o further rest i s found reaches gives) =
      let number = number_under function further in
      let known = outer_known m states number o.at i s truth (slice_get m.functions number) refl found reaches in
      let own : owned_by (waiting_state m.functions states number o) o.variables
      ≡ owned_rows (after i FaultExit s).slots o.variables =
      ap (λ (w : Option Instr). owned_by (fault_state w (states number o.at)) o.variables) found
      ∙ ap (λ (w : Option State). owned_by (fault_state (Some i) w) o.variables) known in
      ap (λ (rows : List (Option ℕ)). rows ∷ given_up m.functions states function further) own
      ∙ ap (λ (l : List (List (Option ℕ))). owned_rows (after i FaultExit s).slots o.variables ∷ l)
      (alike further rest gives)
