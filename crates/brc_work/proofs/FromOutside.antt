-- What a thread of the step world can make from outside of all instructions, a hand's thread makes, calls of the host
-- and all. Two of these need what the thread has done before: `write` needs the word that it sends, and the birth of
-- what `read` has read needs the answer of the host. Where such a thread needs it, it has just done it (`Remembers`).
use Rattle.std.proofs.Common.{◌≡◌, ◌≢◌, ℕ, false, List, [], ◌∷◌, ◌++◌, Option, Some, append_assoc, append-nil, refl, sym, ◌∙◌, subst, arith}
use Rattle.brc_host.specs.HostCalls.{HostCall}
use Rattle.brc_host.specs.HostCalls as asked
use Rattle.brc_lang.specs.declared.module.Function.{Function}
use Rattle.brc_model.specs.declared.actor.Place.{Place}
use Rattle.brc_model.specs.declared.actor.Status.{Status}
use Rattle.brc_model.specs.declared.actor.Status.TheVariants.{Running, Leaving, Gone}
use Rattle.brc_model.specs.declared.duty.Duty.{Duty}
use Rattle.brc_model.specs.declared.duty.Duty.TheVariants.{CloseResource}
use Rattle.brc_model.specs.declared.layout.Layout.{Layout}
use Rattle.brc_model.specs.declared.state.Exit.{Exit}
use Rattle.brc_model.specs.declared.state.State.{State}
use Rattle.brc_model.specs.declared.thread.Choice.{Choice}
use Rattle.brc_model.specs.declared.thread.Choice.TheVariants.{Ok, Fault, Claim, Stop}
use Rattle.brc_model.specs.Actions.{StepActor, Action, Skip, Stuck, Silent, Calls, Does}
use Rattle.brc_model.specs.Dispatch.{agenda_action, status_action, action_of}
use Rattle.brc_model.specs.declared.actor.Actor.{Actor}
use Rattle.brc_model.specs.Machine.{actor_by}
use Rattle.brc_model.specs.declared.event.WordEvent.{WordEvent}
use Rattle.brc_model.specs.Trace.{events_of, MakesStep, GoesSilently, CallsHost, DoesDuty, CanMake, Nothing, Then}
use Rattle.brc_work.specs.Traces.{Program, dispatch_in, Makes, Refl, Silently, Asks, Dispatches, Reads, Continues, Closes}
use Rattle.brc_work.specs.Automata.{IsPlain, IsNoClaim, ClaimsNothing, HasNoClaim, thread_at, ThreadsMakeAsHands}
use Rattle.brc_work.proofs.Remembering.{Remembers, nothing_outside, nothing_busy, IsKnown, Other, OfRead, Leads, dispatch_leads}

module _ (functions : List Function) (states : ℕ → ℕ → Option State) (layout : Layout) (t function : ℕ) (p : Place)
    (a : Actor) where
  abbrev program : Program
  program = record { functions = functions; first = function }

  -- A hand's thread can make the events, with these calls of the host; and remembers what it needs then.
  abbrev Ready : List WordEvent → Place → Actor → Type 0
  Ready es q b =
      (n : ℕ) × (cs : List HostCall) × (made : Makes layout t program p a n cs es q b) × IsPlain made
      × Remembers program cs es b q

  -- It goes on by the action.
  abbrev GoesOn : List WordEvent → Place → Actor → Action → Type 0
  GoesOn es q b Skip = Unit {0}
  GoesOn es q b Stuck = Unit {0}
  GoesOn es q b (Silent moves place) = Ready es place b
  GoesOn es q b (Calls row place) = (exit : Exit) → Ready es (place exit) b
  GoesOn es q b (Does d rest place) =
      (found : ℕ) → Ready (es ++ events_of layout t b d found) (place found) (actor_by layout t b d rest found)

  module _ (n : ℕ) (cs : List HostCall) (es : List WordEvent) (b : Actor) (none : b.agenda ≡ [])
      (alive : b.status ≢ Gone) where
    does : (q : Place) (d : Duty) (rest : List Duty) (place : ℕ → Place) (found : ℕ)
        → (made : Makes layout t program p a n cs es q b) → IsPlain made
        → dispatch_in layout t b.used program q ≡ Does d rest place → IsKnown layout t program cs b q d rest place
        → Remembers program cs (es ++ events_of layout t b d found) (actor_by layout t b d rest found) (place found)
        → Ready (es ++ events_of layout t b d found) (place found) (actor_by layout t b d rest found)
    does q d rest place found made plain is (Other other) has =
        (_, cs, Dispatches n cs es q b d rest place found made none is other, (alive, plain), has)
    does q d rest place found made plain is
        (OfRead context at variables to file most otherwise before here read) has
        =
        let reads = before ++ asked.Read most (Some 0) ∷ [] in
        let so = subst (λ (ds : List HostCall). (now : Makes layout t program p a n ds es q b) × IsPlain now) read
        (made, plain) in (
          n,
          reads,
          Reads n before es context at variables b to file most otherwise 0 found so.0 none here (omega arith),
          (refl, alive, so.1),
          tt,
        )

    dispatched : (q : Place) (x : Action) → (made : Makes layout t program p a n cs es q b) → IsPlain made
        → dispatch_in layout t b.used program q ≡ x → Leads layout t program cs es b none q x → GoesOn es q b x
    dispatched q Skip made plain is leads = tt
    dispatched q Stuck made plain is leads = tt
    dispatched q (Silent moves place) made plain is leads =
        (_, cs, Silently n cs es q place b moves made none is, (alive, plain), leads)
    dispatched q (Calls row place) made plain is leads = λ exit.
        let asks = leads exit in
        let all = cs ++ asks.1 ∷ [] in
        subst (λ (e : Exit). Remembers program all es b (place e) → Ready es (place e) b) asks.4
        (λ has. (_, all, Asks n cs es q b row place asks.0 asks.1 made none is asks.2 asks.3, (alive, plain), has))
        asks.5
    dispatched q (Does d rest place) made plain is leads = λ found.
        does q d rest place found made plain is (leads found).0 (leads found).1

  by_agenda : (es : List WordEvent) (q : Place) (b : Actor) (agenda : List Duty) → Ready es q b → b.status ≢ Gone
      → b.agenda ≡ agenda → GoesOn es q b (agenda_action functions layout t (thread_at function q b) agenda)
  by_agenda es q b [] so alive is =
      dispatched so.0 so.1 es b is alive q (dispatch_in layout t b.used program q) so.2 so.3 refl
      (dispatch_leads layout t program so.1 es b is q so.4)
  by_agenda es q b (CloseResource x ∷ rest) so alive is =
      λ found. subst (λ (fs : List WordEvent). Ready fs q (actor_by layout t b (CloseResource x) rest found))
      (sym (append-nil es)) (
        so.0,
        so.1 ++ asked.Close false ∷ [],
        Closes so.0 so.1 es q b x rest false so.2 is,
        (alive, so.3),
        nothing_busy program so.1 (so.1 ++ asked.Close false ∷ []) es es b
            (actor_by layout t b (CloseResource x) rest found) (CloseResource x) rest q is so.4,
      )
  by_agenda es q b (d ∷ rest) so alive is =
      λ found. (
        so.0,
        so.1,
        Continues so.0 so.1 es q b d rest found so.2 is refl,
        (alive, so.3),
        nothing_busy program so.1 so.1 es (es ++ events_of layout t b d found) b
            (actor_by layout t b d rest found) d rest
            q is so.4,
      )

  by_status : (es : List WordEvent) (q : Place) (b : Actor) (s : Status) → Ready es q b → b.status ≡ s
      → GoesOn es q b (status_action functions layout t (thread_at function q b) s)
  by_status es q b Gone so is = tt
  by_status es q b Running so is =
      by_agenda es q b b.agenda so (λ gone. let wrong : Running ≡ Gone = sym is ∙ gone in cc) refl
  by_status es q b Leaving so is =
      by_agenda es q b b.agenda so (λ gone. let wrong : Leaving ≡ Gone = sym is ∙ gone in cc) refl

  by_choice : (es : List WordEvent) (q : Place) (b : Actor) (choice : Choice) (x : Action) → Ready es q b
      → IsNoClaim choice → action_of functions states layout t (thread_at function q b) choice ≡ x → GoesOn es q b x
  by_choice es q b Ok x so none is = subst (GoesOn es q b) is (by_status es q b b.status so refl)
  by_choice es q b Fault x so none is = subst (GoesOn es q b) is (by_status es q b b.status so refl)
  by_choice es q b (Claim row) x so none is = absurd none
  by_choice es q b Stop x so none is = absurd none

module _ (functions : List Function) (states : ℕ → ℕ → Option State) (layout : Layout) (t : ℕ) (p : Place)
    (a : Actor) where
  abbrev On : ℕ → List WordEvent → Place → Actor → Type 0
  On function es q b = Ready functions states layout t function p a es q b

  -- A thread of the step world keeps its function.
  one_step : (x next : StepActor) (es : List WordEvent) (now : List WordEvent)
      → (step : MakesStep functions states layout t x now next) → ClaimsNothing step → On x.function es x.place x.actor
      → (next.function ≡ x.function) × On x.function (es ++ now) next.place next.actor
  one_step x next es now (GoesSilently choice moves place is) none so = (
    refl,
    subst (λ (fs : List WordEvent). On x.function fs place x.actor) (sym (append-nil es))
        (by_choice functions states layout t x.function p a es x.place x.actor choice (Silent moves place) so none is),
  )
  one_step x next es now (CallsHost choice row place exit is) none so = (
    refl,
    subst (λ (fs : List WordEvent). On x.function fs (place exit) x.actor) (sym (append-nil es))
        (by_choice functions states layout t x.function p a es x.place x.actor choice (Calls row place) so none is
        exit),
  )
  one_step x next es now (DoesDuty choice d rest place found is) none so = (
    refl,
    by_choice functions states layout t x.function p a es x.place x.actor choice (Does d rest place) so none is
        found,
  )

  can_ready : (x c : StepActor) (es : List WordEvent) (made : List WordEvent)
      (can : CanMake functions states layout t x made c)
      → HasNoClaim can → On x.function es x.place x.actor
      → On x.function (es ++ made) c.place c.actor
  can_ready x c es made (Nothing same) none so =
      subst (λ (fs : List WordEvent). On x.function fs x.place x.actor) (sym (append-nil es)) so
  can_ready x c es made (Then first next last now later step rest) none so =
      let went = one_step x next es now step none.0 so in
      let here = es ++ now in
      let from = subst (λ (f : ℕ). On f here next.place next.actor) (sym went.0) went.1 in
      subst (λ (fs : List WordEvent). On x.function fs c.place c.actor) (append_assoc es now later)
      (subst (λ (f : ℕ). On f (here ++ later) c.place c.actor) went.0
      (can_ready next c here later rest none.1 from))

pub threads_as_hands : ThreadsMakeAsHands
threads_as_hands functions states layout t function p q a b es outside can =
    let program : Program = record { functions = functions; first = function } in
    let so = can_ready functions states layout t p a (thread_at function p a) (thread_at function q b) [] es
    can.0 can.1 (0, [], Refl, tt, nothing_outside program [] [] a p outside) in
    (so.0, so.1, so.2, so.3)
