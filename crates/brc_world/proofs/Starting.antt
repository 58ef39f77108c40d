-- Each start of a step in the code is that of an action of the model, and the step then does what the action does.
use Rattle.std.proofs.Common.{◌≡◌, ℕ, Bool, true, false, cond, List, [], ◌∷◌, Option, None, Some, refl, subst}
use Rattle.std.specs.Prelude.{◌==◌, not, if◌then◌else◌}
use Rattle.brc_lang.specs.declared.module.Function.{Function}
use Rattle.brc_word.specs.Words.{free_word}
use Rattle.brc_model.specs.declared.actor.Place.{Place}
use Rattle.brc_model.specs.declared.address.Address.{Address}
use Rattle.brc_model.specs.declared.address.Address.TheVariants.{Gate}
use Rattle.brc_model.specs.declared.duty.Duty.{Duty}
use Rattle.brc_model.specs.declared.duty.Duty.TheVariants.{LockGate}
use Rattle.brc_model.specs.Actions.{StepActor, Action, Skip, Stuck, Silent, Calls, Does, always}
use Rattle.brc_model.specs.Dispatch.{agenda_action}
use Rattle.brc_world.proofs.Dispatching.{TakesStep, agenda_steps}
use Rattle.brc_world.specs.declared.did.Did.{Did}
use Rattle.brc_world.specs.declared.did.Did.TheVariants as answers
use Rattle.brc_world.specs.declared.dispatch.Start.{Start}
use Rattle.brc_world.specs.declared.dispatch.Start.TheVariants as starts
use Rattle.brc_machine.specs.Sights.{found_by}
use Rattle.brc_world.specs.Actors.{words_after, actor_after, memory_by, actor_by, faults_by, answer_by, CanDo, CanAct}
use Rattle.brc_world.specs.declared.host_call.HostCall.TheVariants as calls
use Rattle.brc_world.specs.Starts.{start_by, first_start, unasking, started}
use Rattle.brc_model.specs.declared.layout.Layout.{Layout}
use Rattle.brc_model.specs.declared.state.Exit.{Exit}
use Rattle.brc_model.specs.StepMachine.{counted, closes}
use Rattle.brc_machine.specs.declared.faults.Faults.{Faults}

-- the counts of faults after a step that does the duty and ends by the exit
abbrev pub duty_counted : Exit → Duty → Faults → Faults
duty_counted exit d f = record { calls = f.calls; closes = if closes d then counted exit f.closes else f.closes }

-- the counts of faults after a host call that ends by the exit
abbrev pub call_counted : Exit → Faults → Faults
call_counted exit f = record { calls = counted exit f.calls; closes = f.closes }

-- the counts of faults after any other step
abbrev pub uncounted : Faults → Faults
uncounted f = f

-- the duty that the start does, if it accesses a word
abbrev pub duty_of : Start → Option Duty
duty_of starts.Stuck = None
duty_of starts.Moved = None
duty_of (starts.Calling call) = None
duty_of (starts.Doing d) = Some d
duty_of (starts.Asking d question) = Some d
duty_of (starts.Locking row left next) = Some (LockGate row)

-- the answer of a lock that finds this gate
abbrev pub entering : ℕ → Did
entering found = if found == free_word then answers.Moved else answers.Same

-- the answer of a step with the start, whose duty finds this word if it has one
abbrev pub answer_of : Start → ℕ → Did
answer_of starts.Stuck found = answers.Same
answer_of (starts.Locking row left next) found = entering found
answer_of _ found = answers.Moved

-- what there is after the action of thread a, which has this agenda, if the action ends by the exit: the answer, the
-- words, the thread, and how the counts of faults change
pub record IsStep (layout : Layout) (t : ℕ) (memory : Address → ℕ) (a : StepActor) (agenda : List Duty) (exit : Exit)
    (x : Action) (did : Did) (words : Address → ℕ) (b : StepActor) (change : Faults → Faults) : Type 0 where
  pub answer : did ≡ answer_by memory agenda x
  pub memory_is : words ≡ memory_by layout t memory a x
  pub actor : b ≡ actor_by layout t memory a exit x
  pub faults : (f : Faults) → change f ≡ faults_by exit x f

-- The action begins with the duty: this is its step, and the thread can do it.
pub record DoneBy (layout : Layout) (t : ℕ) (memory : Address → ℕ) (a : StepActor) (agenda : List Duty) (exit : Exit)
    (x : Action) (d : Duty) (did : Did) : Type 0 where
  pub step : IsStep layout t memory a agenda exit x did
      (words_after layout t memory (started a x exit (found_by layout t memory a d)) d)
      (actor_after layout t memory (started a x exit (found_by layout t memory a d)) d) (duty_counted exit d)
  pub can : (n found : ℕ) → CanAct layout t n memory a x → CanDo layout t n memory (started a x exit found) d

enters : (b : Bool) → cond b answers.Moved answers.Same ≡ cond (not b) answers.Same answers.Moved
enters true = refl
enters false = refl

doing_is : (d e : Duty) → starts.Doing d ≡ starts.Doing e → e ≡ d
doing_is d e same = cc

module _ (layout : Layout) (t : ℕ) (memory : Address → ℕ) (a : StepActor) (exit : Exit) where
  -- ---- the starts of a step that dispatches, by its action

  stuck_by : (x : Action) → TakesStep x → starts.Stuck ≡ start_by x
      → (found : ℕ) → IsStep layout t memory a [] exit x answers.Same memory (started a x exit found) uncounted
  stuck_by Skip steps e found = absurd steps
  stuck_by Stuck steps e found =
      record { answer = refl; memory_is = refl; actor = refl; faults = λ f. refl }
  stuck_by (Silent moves place) steps e found = absurd cc
  stuck_by (Calls row place) steps e found = absurd cc
  stuck_by (Does (LockGate y) rest place) steps e found = absurd cc
  stuck_by (Does d rest place) steps e found = absurd cc

  moved_by : (x : Action) → starts.Moved ≡ start_by x
      → (found : ℕ) → IsStep layout t memory a [] exit x answers.Moved memory (started a x exit found) uncounted
  moved_by Skip e found = absurd cc
  moved_by Stuck e found = absurd cc
  moved_by (Silent moves place) e found =
      record { answer = refl; memory_is = refl; actor = refl; faults = λ f. refl }
  moved_by (Calls row place) e found = absurd cc
  moved_by (Does (LockGate y) rest place) e found = absurd cc
  moved_by (Does d rest place) e found = absurd cc

  called_by : (x : Action) → starts.Calling calls.Uses ≡ start_by x
      → (found : ℕ)
      → IsStep layout t memory a [] exit x answers.Moved memory (started a x exit found) (call_counted exit)
  called_by Skip e found = absurd cc
  called_by Stuck e found = absurd cc
  called_by (Silent moves place) e found = absurd cc
  called_by (Calls row place) e found =
      record { answer = refl; memory_is = refl; actor = refl; faults = λ f. refl }
  called_by (Does (LockGate y) rest place) e found = absurd cc
  called_by (Does d rest place) e found = absurd cc

  one_duty : (agenda : List Duty) (c d : Duty) (rest : List Duty) (place : ℕ → Place) (did : Did)
      → c ≡ d → did ≡ answer_by memory agenda (Does c rest place)
      → DoneBy layout t memory a agenda exit (Does c rest place) d did
  one_duty agenda c d rest place did same answer =
      subst (λ (e : Duty). DoneBy layout t memory a agenda exit (Does c rest place) e did) same
      (record {
        step = record { answer = answer; memory_is = refl; actor = refl; faults = λ f. refl };
        can = λ n found can. record { there = can.there; suits = can.suits; uses = can.uses };
      })

  -- A duty that isn't a lock waits for nothing.
  does_by : (x : Action) (d : Duty)
      → starts.Doing d ≡ start_by x → DoneBy layout t memory a [] exit x d answers.Moved
  does_by Skip d e = absurd cc
  does_by Stuck d e = absurd cc
  does_by (Silent moves place) d e = absurd cc
  does_by (Calls row place) d e = absurd cc
  does_by (Does (LockGate y) rest place) d e = absurd cc
  does_by (Does c rest place) d e = one_duty [] c d rest place answers.Moved (doing_is d c e) refl

  locks_by : (x : Action) (row left next : ℕ) → starts.Locking row left next ≡ start_by x
      → DoneBy layout t memory a [] exit x (LockGate row) (entering (memory (Gate row)))
  locks_by Skip row left next e = absurd cc
  locks_by Stuck row left next e = absurd cc
  locks_by (Silent moves place) row left next e = absurd cc
  locks_by (Calls used place) row left next e = absurd cc
  locks_by (Does (LockGate y) rest place) row left next e =
      let same : y ≡ row = cc in
      subst (λ (z : ℕ). DoneBy layout t memory a [] exit (Does (LockGate y) rest place) (LockGate z)
      (entering (memory (Gate z)))) same
      (one_duty [] (LockGate y) (LockGate y) rest place (entering (memory (Gate y))) refl
      (enters (memory (Gate y) == free_word)))
  locks_by (Does c rest place) row left next e = absurd cc

module _ (functions : List Function) (layout : Layout) (t : ℕ) (memory : Address → ℕ) (a : StepActor)
    (exit : Exit) where
  -- ---- the starts of a step, by its agenda

  pub agenda_stuck : (agenda : List Duty) → starts.Stuck ≡ first_start functions layout t a agenda → (found : ℕ)
      → IsStep layout t memory a agenda exit (agenda_action functions layout t a agenda) answers.Same memory
      (started a (agenda_action functions layout t a agenda) exit found) uncounted
  agenda_stuck [] e found =
      stuck_by layout t memory a exit (agenda_action functions layout t a []) (agenda_steps functions layout t a []) e
      found
  agenda_stuck (c ∷ rest) e found = absurd cc

  pub agenda_moved : (agenda : List Duty) → starts.Moved ≡ first_start functions layout t a agenda → (found : ℕ)
      → IsStep layout t memory a agenda exit (agenda_action functions layout t a agenda) answers.Moved memory
      (started a (agenda_action functions layout t a agenda) exit found) uncounted
  agenda_moved [] e found = moved_by layout t memory a exit (agenda_action functions layout t a []) e found
  agenda_moved (c ∷ rest) e found = absurd cc

  pub agenda_called : (agenda : List Duty) → starts.Calling calls.Uses ≡ first_start functions layout t a agenda
      → (found : ℕ)
      → IsStep layout t memory a agenda exit (agenda_action functions layout t a agenda) answers.Moved memory
      (started a (agenda_action functions layout t a agenda) exit found) (call_counted exit)
  agenda_called [] e found = called_by layout t memory a exit (agenda_action functions layout t a []) e found
  agenda_called (c ∷ rest) e found = absurd cc

  agenda_does : (agenda : List Duty) (d : Duty) → starts.Doing d ≡ first_start functions layout t a agenda
      → DoneBy layout t memory a agenda exit (agenda_action functions layout t a agenda) d answers.Moved
  agenda_does [] d e = does_by layout t memory a exit (agenda_action functions layout t a []) d e
  agenda_does (c ∷ rest) d e =
      one_duty layout t memory a exit (c ∷ rest) c d rest (always a.place) answers.Moved (doing_is d c e) refl

  agenda_locks : (agenda : List Duty) (row left next : ℕ)
      → starts.Locking row left next ≡ first_start functions layout t a agenda
      → DoneBy layout t memory a agenda exit (agenda_action functions layout t a agenda) (LockGate row)
      (entering (memory (Gate row)))
  agenda_locks [] row left next e =
      locks_by layout t memory a exit (agenda_action functions layout t a []) row left next e
  agenda_locks (c ∷ rest) row left next e = absurd cc

  pub start_does : (agenda : List Duty) (start : Start) (d : Duty)
      → duty_of start ≡ Some d → unasking start ≡ first_start functions layout t a agenda
      → DoneBy layout t memory a agenda exit (agenda_action functions layout t a agenda) d
      (answer_of start (found_by layout t memory a d))
  start_does agenda starts.Stuck d does e = absurd cc
  start_does agenda starts.Moved d does e = absurd cc
  start_does agenda (starts.Calling call) d does e = absurd cc
  start_does agenda (starts.Doing c) d does e =
      let same : c ≡ d = cc in
      subst (λ (f : Duty). DoneBy layout t memory a agenda exit (agenda_action functions layout t a agenda) f
      answers.Moved) same (agenda_does agenda c e)
  start_does agenda (starts.Asking c question) d does e =
      let same : c ≡ d = cc in
      subst (λ (f : Duty). DoneBy layout t memory a agenda exit (agenda_action functions layout t a agenda) f
      answers.Moved) same (agenda_does agenda c e)
  start_does agenda (starts.Locking row left next) d does e =
      let same : LockGate row ≡ d = cc in
      subst (λ (f : Duty). DoneBy layout t memory a agenda exit (agenda_action functions layout t a agenda) f
      (entering (found_by layout t memory a f))) same (agenda_locks agenda row left next e)
