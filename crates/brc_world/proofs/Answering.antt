-- A step's answer says whether the world changed.
use Rattle.std.proofs.Common.{◌≡◌, ◌≢◌, ℕ, Bool, true, false, List, [], ◌∷◌, Some, refl, ap, ◌∙◌}
use Rattle.std.specs.Prelude.{if◌then◌else◌, Option, slice_get}
use Rattle.brc_lang.specs.declared.module.Function.{Function}
use Rattle.brc_model.specs.AbstractState.{Move}
use Rattle.brc_model.specs.declared.actor.Place.{Place}
use Rattle.brc_model.specs.declared.actor.Status.{Status}
use Rattle.brc_model.specs.declared.actor.Status.TheVariants.{Running, Leaving, Gone}
use Rattle.brc_model.specs.declared.address.Address.{Address}
use Rattle.brc_model.specs.declared.duty.Duty.{Duty}
use Rattle.brc_model.specs.declared.state.Exit.{Exit}
use Rattle.brc_model.specs.declared.thread.Choice.TheVariants.{Claim, Stop}
use Rattle.brc_model.specs.Safety.{has_gone}
use Rattle.brc_model.specs.declared.state.State.{State}
use Rattle.brc_model.specs.Actions.{StepActor, Action, Skip, Stuck, Silent, Calls, Does, stop_action}
use Rattle.brc_model.specs.Dispatch.{status_action, may_stop}
use Rattle.brc_model.specs.World.{World, step}
use Rattle.brc_world.specs.declared.did.Did.TheVariants as answers
use Rattle.brc_world.specs.Actors.{memory_by, actor_by, faults_by, waits, answer_by, finds_mark, did_claim, action_stopped, is_silent, silently, did_stop}
use Rattle.brc_world.specs.Answers.{is_gone, is_gone_at, IsAnswer}
use Rattle.brc_world.specs.Worlds.{choice_of}
use Rattle.brc_world.proofs.Stepping.{faults_of, with_words, unchanged, IsQuiet, stop_quiet, stop_is}

gone_is : (w : World) (t : ℕ) (a : StepActor) (s : Status) → slice_get w.actors t ≡ Some a → a.actor.status ≡ s
    → is_gone_at w t ≡ has_gone s
gone_is w t a s found is = ap is_gone found ∙ ap has_gone is

-- ---- next steps

-- A thread that takes no step on a word doesn't wait.
skip_goes_on : (memory : Address → ℕ) (agenda : List Duty) → waits memory agenda Skip ≡ false
skip_goes_on memory [] = refl
skip_goes_on memory (d ∷ rest) = refl

silent_goes_on : (memory : Address → ℕ) (agenda : List Duty) (moves : List Move) (place : Place)
    → waits memory agenda (Silent moves place) ≡ false
silent_goes_on memory [] moves place = refl
silent_goes_on memory (d ∷ rest) moves place = refl

calls_go_on : (memory : Address → ℕ) (agenda : List Duty) (row : Option ℕ) (place : Exit → Place)
    → waits memory agenda (Calls row place) ≡ false
calls_go_on memory [] row place = refl
calls_go_on memory (d ∷ rest) row place = refl

module _ (w : World) (t : ℕ) (exit : Exit) where
  abbrev next : World
  next = step w t (choice_of exit)

  -- The answer of a step is Same if the thread waits for a lock.
  waiting_answers : (waiting : Bool) → is_gone_at w t ≡ false
      → (waiting ≡ false → next ≢ w) → (waiting ≡ true → next ≡ w)
      → IsAnswer w t next (if waiting then answers.Same else answers.Moved)
  waiting_answers true here moves stays = (here, stays refl)
  waiting_answers false here moves stays = (here, moves refl)

  action_answers : (a : StepActor) (x : Action) → slice_get w.actors t ≡ Some a
      → is_gone_at w t ≡ false → (waits w.memory a.actor.agenda x ≡ false → next ≢ w)
      → (waits w.memory a.actor.agenda x ≡ true → next ≡ w)
      → next ≡ with_words w t (memory_by w.layout t w.memory a x) (actor_by w.layout t w.memory a exit x)
      (faults_by exit x (faults_of w))
      → IsAnswer w t next (answer_by w.memory a.actor.agenda x)
  action_answers a Skip found here moves stays is =
      absurd (moves (skip_goes_on w.memory a.actor.agenda) (is ∙ unchanged w t a found))
  action_answers a Stuck found here moves stays is = (here, is ∙ unchanged w t a found)
  action_answers a (Silent refs place) found here moves stays is =
      (here, moves (silent_goes_on w.memory a.actor.agenda refs place))
  action_answers a (Calls row place) found here moves stays is =
      (here, moves (calls_go_on w.memory a.actor.agenda row place))
  action_answers a (Does d rest place) found here moves stays is =
      waiting_answers (waits w.memory a.actor.agenda (Does d rest place)) here moves stays

  -- The answer of a thread's next step says whether the step changed the world.
  pub going_answers : (a : StepActor) (s : Status) → slice_get w.actors t ≡ Some a
      → a.actor.status ≡ s
      → (s ≢ Gone → waits w.memory a.actor.agenda (status_action w.functions w.layout t a s) ≡ false
      → next ≢ w)
      → (waits w.memory a.actor.agenda (status_action w.functions w.layout t a s) ≡ true → next ≡ w)
      → next ≡ with_words w t (memory_by w.layout t w.memory a (status_action w.functions w.layout t a s))
      (actor_by w.layout t w.memory a exit (status_action w.functions w.layout t a s))
      (faults_by exit (status_action w.functions w.layout t a s) (faults_of w))
      → IsAnswer w t next (answer_by w.memory a.actor.agenda (status_action w.functions w.layout t a s))
  going_answers a Gone found at moves stays is = gone_is w t a Gone found at
  going_answers a Running found at moves stays is =
      action_answers a (status_action w.functions w.layout t a Running) found (gone_is w t a Running found at)
      (moves (λ e. cc)) stays is
  going_answers a Leaving found at moves stays is =
      action_answers a (status_action w.functions w.layout t a Leaving) found (gone_is w t a Leaving found at)
      (moves (λ e. cc)) stays is

-- ---- claims

mark_answers : (w : World) (t row : ℕ) (b : Bool) → is_gone_at w t ≡ false → (b ≡ true → step w t (Claim row) ≢ w)
    → (b ≡ false → step w t (Claim row) ≡ w)
    → IsAnswer w t (step w t (Claim row)) (if b then answers.Moved else answers.Same)
mark_answers w t row true here moves stays = (here, moves refl)
mark_answers w t row false here moves stays = (here, stays refl)

-- The answer of a claim says whether the claim changed the world.
pub claim_answers : (w : World) (t : ℕ) (a : StepActor) (row : ℕ) (s : Status) → slice_get w.actors t ≡ Some a
    → a.actor.status ≡ s
    → (finds_mark w.layout t w.memory a row ≡ true → step w t (Claim row) ≢ w)
    → (finds_mark w.layout t w.memory a row ≡ false → step w t (Claim row) ≡ w)
    → IsAnswer w t (step w t (Claim row)) (did_claim w.layout t w.memory a row s)
claim_answers w t a row Gone found is moves stays = gone_is w t a Gone found is
claim_answers w t a row Running found is moves stays =
    mark_answers w t row (finds_mark w.layout t w.memory a row) (gone_is w t a Running found is) moves stays
claim_answers w t a row Leaving found is moves stays =
    mark_answers w t row (finds_mark w.layout t w.memory a row) (gone_is w t a Leaving found is) moves stays

-- ---- stops

silent_answers : (w : World) (t : ℕ) (a : StepActor) (x : Action) → slice_get w.actors t ≡ Some a
    → is_gone_at w t ≡ false → IsQuiet x → step w t Stop ≡ with_words w t w.memory (silently a x) (faults_of w)
    → (is_silent x ≡ true → step w t Stop ≢ w)
    → IsAnswer w t (step w t Stop) (if is_silent x then answers.Moved else answers.Same)
silent_answers w t a Skip found here quiet is moves = (here, is ∙ unchanged w t a found)
silent_answers w t a Stuck found here quiet is moves = (here, is ∙ unchanged w t a found)
silent_answers w t a (Silent refs place) found here quiet is moves = (here, moves refl)
silent_answers w t a (Calls row place) found here quiet is moves = absurd quiet
silent_answers w t a (Does d rest place) found here quiet is moves = absurd quiet

-- A stop that is silent is that of a thread that may stop.
silent_may : (functions : List Function) (states : ℕ → ℕ → Option State) (a : StepActor)
    → is_silent (action_stopped functions states a) ≡ true → may_stop a ≡ true
silent_may functions states a silent =
    elim (may_stop a) as (λ b. is_silent (if b then stop_action functions states a.function a.place else Skip) ≡ true
    → b ≡ true) [
      | true ↦ λ e. refl
      | false ↦ λ e. absurd cc
    ] silent

-- The answer of a stop says whether the stop changed the world.
pub stop_answers : (w : World) (t : ℕ) (a : StepActor) (s : Status) → slice_get w.actors t ≡ Some a
    → a.actor.status ≡ s → (may_stop a ≡ true → step w t Stop ≢ w)
    → IsAnswer w t (step w t Stop) (did_stop w.functions w.states a s)
stop_answers w t a Gone found is moves = gone_is w t a Gone found is
stop_answers w t a Running found is moves =
    silent_answers w t a (action_stopped w.functions w.states a) found (gone_is w t a Running found is)
    (stop_quiet w.functions w.states a)
    (stop_is w t a found) (λ silent. moves (silent_may w.functions w.states a silent))
stop_answers w t a Leaving found is moves =
    silent_answers w t a (action_stopped w.functions w.states a) found (gone_is w t a Leaving found is)
    (stop_quiet w.functions w.states a)
    (stop_is w t a found) (λ silent. moves (silent_may w.functions w.states a silent))
