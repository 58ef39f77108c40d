-- A step of the code does the thread's action, if the thread isn't gone.
use Rattle.std.proofs.Common.{◌≡◌, ◌≢◌, ℕ, ◌≤◌, arith, Bool, List, [], ◌∷◌, Some, refl, sym, ap, ◌∙◌, subst}
use Rattle.brc_lang.specs.declared.module.Function.{Function}
use Rattle.brc_model.specs.declared.actor.Status.{Status}
use Rattle.brc_model.specs.declared.actor.Status.TheVariants.{Running, Leaving, Gone}
use Rattle.brc_model.specs.declared.address.Address.{Address}
use Rattle.brc_model.specs.declared.duty.Duty.{Duty}
use Rattle.brc_model.specs.declared.duty.Duty.TheVariants.{CellLoad}
use Rattle.brc_model.specs.Duties.{address_of}
use Rattle.brc_model.specs.Actions.{StepActor, Action, Skip, Stuck, Silent, Calls, Does, always}
use Rattle.brc_model.specs.Dispatch.{agenda_action, status_action, dispatch}
use Rattle.brc_model.specs.Limits.{total_limit}
use Rattle.brc_model.specs.StepMachine.{at_place}
use Rattle.brc_model.specs.Threads.{function_in}
use Rattle.brc_model.specs.Within.{Suits}
use Rattle.brc_world.proofs.Starting.{duty_counted, call_counted, uncounted, duty_of, answer_of, IsStep, agenda_stuck, agenda_moved, agenda_called, start_does}
use Rattle.brc_world.specs.declared.did.Did.{Did}
use Rattle.brc_world.specs.declared.did.Did.TheVariants as answers
use Rattle.brc_world.specs.declared.dispatch.Start.{Start}
use Rattle.brc_world.specs.declared.dispatch.Start.TheVariants as starts
use Rattle.brc_world.specs.declared.thread.Thread.{Thread}
use Rattle.brc_machine.specs.Sights.{found_by}
use Rattle.brc_world.specs.Actors.{actor_of, context_in, words_after, actor_after, CanDo, CanAct, OpensFew}
use Rattle.brc_world.specs.declared.host_call.HostCall.{HostCall}
use Rattle.brc_world.specs.declared.question.Question.{Question}
use Rattle.brc_world.specs.declared.question.Question.TheVariants as questions
use Rattle.brc_world.specs.Questions.{FindsItem, IsAbout, IsAnswerable, place_called}
use Rattle.brc_world.specs.Starts.{first_start, unasking, place_after, answered, started, HasDispatched}
use Rattle.brc_model.specs.declared.layout.Layout.{Layout}
use Rattle.brc_model.specs.declared.state.Exit.{Exit}
use Rattle.brc_machine.specs.declared.faults.Faults.{Faults}

-- ---- a thread that isn't gone

pub alive_action : (functions : List Function) (layout : Layout) (t : ℕ) (a : StepActor) (s : Status) → s ≢ Gone
    → agenda_action functions layout t a a.actor.agenda ≡ status_action functions layout t a s
alive_action functions layout t a Running alive = refl
alive_action functions layout t a Leaving alive = refl
alive_action functions layout t a Gone alive = absurd (alive refl)

-- The action of a thread that has a duty left is its first duty.
pub first_action : (functions : List Function) (layout : Layout) (t : ℕ) (a : StepActor) (d : Duty) (rest : List Duty)
    → a.actor.status ≢ Gone → a.actor.agenda ≡ d ∷ rest
    → status_action functions layout t a a.actor.status ≡ Does d rest (always a.place)
first_action functions layout t a d rest alive first =
    sym (alive_action functions layout t a a.actor.status alive) ∙ ap (agenda_action functions layout t a) first

-- An action for which the thread has room opens few calls.
pub opens_few : (layout : Layout) (t n : ℕ) (memory : Address → ℕ) (a : StepActor) (x : Action)
    → CanAct layout t n memory a x → OpensFew x
opens_few layout t n memory a Skip can = tt
opens_few layout t n memory a Stuck can = tt
opens_few layout t n memory a (Silent moves place) can = can
opens_few layout t n memory a (Calls row place) can = tt
opens_few layout t n memory a (Does d rest place) can = tt

-- So does what a thread does next that isn't gone.
pub agenda_few : (functions : List Function) (layout : Layout) (t n : ℕ) (memory : Address → ℕ) (a : StepActor)
    (agenda : List Duty) → a.actor.status ≢ Gone → a.actor.agenda ≡ agenda
    → CanAct layout t n memory a (status_action functions layout t a a.actor.status)
    → OpensFew (agenda_action functions layout t a agenda)
agenda_few functions layout t n memory a agenda alive is can =
    opens_few layout t n memory a (agenda_action functions layout t a agenda)
    (subst (CanAct layout t n memory a)
    (sym (alive_action functions layout t a a.actor.status alive) ∙ ap (agenda_action functions layout t a) is) can)

-- thread a's step has started with its action, and the thread is now b
pub record HasStarted (functions : List Function) (layout : Layout) (t : ℕ) (a : StepActor) (b : Thread)
    (start : Start) : Type 0 where
  pub alive : a.actor.status ≢ Gone
  pub starts : unasking start ≡ first_start functions layout t a a.actor.agenda
  pub actor : (exit : Exit) (found : ℕ)
      → answered start exit found b ≡ started a (agenda_action functions layout t a a.actor.agenda) exit found

-- A thread that has no duty left starts its step with what it dispatches.
pub dispatched : (functions : List Function) (layout : Layout) (t : ℕ) (a b : Thread) (start : Start)
    → a.status ≢ Gone → a.agenda.items ≡ []
    → HasDispatched a (dispatch layout t a.used (function_in functions a.function (actor_of a).place).code
    (actor_of a).place) start b
    → HasStarted functions layout t (actor_of a) b start
dispatched functions layout t a b start alive empty has = record {
  alive = alive;
  starts = rw empty has.starts;
  actor = λ exit found. rw empty (rw empty at (has.actor exit found));
}

started_head : (a : StepActor) (x : Action) (exit : Exit) (found : ℕ)
    → (started a x exit found).actor.head ≡ a.actor.head
started_head a Skip exit found = refl
started_head a Stuck exit found = refl
started_head a (Silent moves place) exit found = refl
started_head a (Calls row place) exit found = refl
started_head a (Does d rest place) exit found = refl

module _ (functions : List Function) (layout : Layout) (t : ℕ) (memory : Address → ℕ) (a : StepActor)
    (exit : Exit) (b : Thread) where
  abbrev StepsTo : Did → (Address → ℕ) → StepActor → (Faults → Faults) → Type 0
  StepsTo did words after change =
      IsStep layout t memory a a.actor.agenda exit (status_action functions layout t a a.actor.status) did words after
      change

  of_status : (did : Did) (words : Address → ℕ) (after : StepActor) (change : Faults → Faults)
      → a.actor.status ≢ Gone
      → IsStep layout t memory a a.actor.agenda exit (agenda_action functions layout t a a.actor.agenda) did words
      after change
      → StepsTo did words after change
  of_status did words after change alive step =
      subst (λ (x : Action). IsStep layout t memory a a.actor.agenda exit x did words after change)
      (alive_action functions layout t a a.actor.status alive) step

  -- A step that is stuck changes nothing, as the model's does.
  pub stuck_step : HasStarted functions layout t a b starts.Stuck
      → StepsTo answers.Same memory (actor_of b) uncounted
  stuck_step begun =
      let x = agenda_action functions layout t a a.actor.agenda in
      of_status answers.Same memory (actor_of b) uncounted begun.alive
      (subst (λ (c : StepActor). IsStep layout t memory a a.actor.agenda exit x answers.Same memory c uncounted)
      (sym (begun.actor exit 0))
      (agenda_stuck functions layout t memory a exit a.actor.agenda begun.starts 0))

  -- A step on no word is the model's silent step.
  pub moved_step : HasStarted functions layout t a b starts.Moved
      → StepsTo answers.Moved memory (actor_of b) uncounted
  moved_step begun =
      let x = agenda_action functions layout t a a.actor.agenda in
      of_status answers.Moved memory (actor_of b) uncounted begun.alive
      (subst (λ (c : StepActor). IsStep layout t memory a a.actor.agenda exit x answers.Moved memory c uncounted)
      (sym (begun.actor exit 0))
      (agenda_moved functions layout t memory a exit a.actor.agenda begun.starts 0))

  -- A host call is the model's, after which its exit decides the thread's place.
  pub called_step : (call : HostCall) → HasStarted functions layout t a b (starts.Calling call)
      → StepsTo answers.Moved memory
      (at_place (actor_of b) (place_called call exit (context_in b.left b) b.at b.variables)) (call_counted exit)
  called_step call begun =
      let x = agenda_action functions layout t a a.actor.agenda in
      of_status answers.Moved memory
      (at_place (actor_of b) (place_called call exit (context_in b.left b) b.at b.variables)) (call_counted exit)
      begun.alive
      (subst (λ (c : StepActor). IsStep layout t memory a a.actor.agenda exit x answers.Moved memory c
      (call_counted exit)) (sym (begun.actor exit 0))
      (agenda_called functions layout t memory a exit a.actor.agenda begun.starts 0))

  -- The thread that has started its step finds the same value in the duty's word as before.
  finds_same : (start : Start) (d : Duty) → HasStarted functions layout t a b start
      → found_by layout t memory a d ≡ found_by layout t memory (actor_of b) d
  finds_same start d begun =
      let x = agenda_action functions layout t a a.actor.agenda in
      let heads : a.actor.head ≡ b.head =
      sym (started_head a x exit 0) ∙ sym (ap (λ (c : StepActor). c.actor.head) (begun.actor exit 0)) in
      ap (λ (head : ℕ). memory (address_of layout t head d)) heads

  -- A step that does a duty is the model's step of that duty, after which the word found decides the thread's place.
  pub duty_step : (start : Start) (d : Duty)
      → HasStarted functions layout t a b start → duty_of start ≡ Some d
      → StepsTo (answer_of start (found_by layout t memory (actor_of b) d)) (words_after layout t memory (actor_of b) d)
      (at_place (actor_after layout t memory (actor_of b) d)
      (place_after start exit (found_by layout t memory (actor_of b) d) b)) (duty_counted exit d)
  duty_step start d begun does =
      let x = agenda_action functions layout t a a.actor.agenda in
      let found = found_by layout t memory (actor_of b) d in
      let done = λ (word : ℕ) (c : StepActor).
      IsStep layout t memory a a.actor.agenda exit x (answer_of start word) (words_after layout t memory c d)
      (actor_after layout t memory c d) (duty_counted exit d) in
      of_status (answer_of start found) (words_after layout t memory (actor_of b) d)
      (at_place (actor_after layout t memory (actor_of b) d) (place_after start exit found b)) (duty_counted exit d)
      begun.alive
      (subst (done found) (sym (begun.actor exit found))
      (subst (λ (word : ℕ). done word (started a x exit word)) (finds_same start d begun)
      (start_does functions layout t memory a exit a.actor.agenda start d does begun.starts).step))

  -- The thread can do the duty that its step has started with.
  pub can_do : (n : ℕ) (start : Start) (d : Duty)
      → HasStarted functions layout t a b start → duty_of start ≡ Some d
      → CanAct layout t n memory a (status_action functions layout t a a.actor.status)
      → CanDo layout t n memory (actor_of b) d
  can_do n start d begun does can =
      let done = start_does functions layout t memory a exit a.actor.agenda start d does begun.starts in
      let able : CanDo layout t n memory (answered start exit 0 b) d =
      subst (λ (c : StepActor). CanDo layout t n memory c d) (sym (begun.actor exit 0))
      (done.can n 0 (subst (CanAct layout t n memory a)
      (sym (alive_action functions layout t a a.actor.status begun.alive)) can)) in
      record { there = able.there; suits = able.suits; uses = able.uses }

-- ---- after the duty

same_place : (start : Start) (exit : Exit) (found : ℕ) (b after : Thread)
    → after.mode ≡ b.mode → after.left ≡ b.left → after.turns ≡ b.turns → after.outer ≡ b.outer → after.at ≡ b.at
    → after.variables ≡ b.variables
    → place_after start exit found after ≡ place_after start exit found b
same_place starts.Stuck exit found b after mode left turns outer at variables =
    rw (mode, left, turns, outer, at, variables) refl
same_place starts.Moved exit found b after mode left turns outer at variables =
    rw (mode, left, turns, outer, at, variables) refl
same_place (starts.Calling call) exit found b after mode left turns outer at variables =
    rw (left, turns, outer, at, variables) refl
same_place (starts.Doing d) exit found b after mode left turns outer at variables =
    rw (mode, left, turns, outer, at, variables) refl
same_place (starts.Asking d question) exit found b after mode left turns outer at variables =
    rw (left, turns, outer, at, variables) refl
same_place (starts.Locking row left next) exit found b after mode calls turns outer at variables =
    rw (mode, calls, turns, outer, at, variables) refl

-- A thread that has done its duty goes on where it would have gone before, since a duty changes none of what that
-- depends on.
pub goes_on : (start : Start) (exit : Exit) (found : ℕ) (b after : Thread) (done : StepActor) → actor_of after ≡ done
    → after.mode ≡ b.mode → after.left ≡ b.left → after.turns ≡ b.turns → after.outer ≡ b.outer → after.at ≡ b.at
    → after.variables ≡ b.variables
    → answered start exit found after ≡ at_place done (place_after start exit found b)
goes_on start exit found b after done is mode left turns outer at variables =
    ap (λ (a : StepActor). at_place a (place_after start exit found after)) is
    ∙ ap (at_place done) (same_place start exit found b after mode left turns outer at variables)

-- ---- questions

item_found : (d : Duty) (t n found : ℕ) (running : Bool) → n ≤ total_limit → FindsItem d → Suits t running n d found
    → found ≤ total_limit
item_found (CellLoad row cell) t n found running small finds suits = omega (arith, small, suits)
item_found _ t n found running small finds suits = absurd finds

-- The word that a question is about has an answer.
pub answerable : (question : Question) (d : Duty) (t n found : ℕ) (running : Bool) → n ≤ total_limit
    → IsAbout question d → Suits t running n d found → IsAnswerable question found
answerable (questions.Kind kind otherwise) d t n found running small about suits = tt
answerable (questions.Range index outside) d t n found running small about suits = tt
answerable (questions.Borrow to otherwise) d t n found running small about suits =
    item_found d t n found running small about suits
answerable (questions.Fetch to otherwise) d t n found running small about suits =
    item_found d t n found running small about suits
