-- The words that a thread's sights show along events are the thread's trace.
use Rattle.std.proofs.Common.{◌≡◌, ℕ, Bool, true, false, cond, List, [], ◌∷◌, ◌++◌, Option, None, Some, refl, sym, ap, ◌∙◌}
use Rattle.std.specs.Prelude.{◌==◌, slice_get}
use Rattle.std.proofs.Common.{append_assoc}
use Rattle.brc_model.specs.declared.thread.Choice.{Choice}
use Rattle.brc_model.specs.Actions.{StepActor, Action, Skip, Stuck, Silent, Calls, Does}
use Rattle.brc_model.specs.Dispatch.{action_of}
use Rattle.brc_model.specs.Duties.{address_of}
use Rattle.brc_model.specs.StepMachine.{StepMachine, of_thread, next_machine}
use Rattle.brc_model.specs.declared.event.WordEvent.{WordEvent}
use Rattle.brc_model.specs.Trace.{is_word, made_by, made_at, events_on}
use Rattle.brc_model.specs.World.{World, world_of, step}
use Rattle.brc_machine.specs.declared.sight.Sight.{Sight}
use Rattle.brc_machine.specs.Sights.{sight_by, listed, words_of, words_shown}
use Rattle.brc_world.specs.Sights.{sights_at, sights_on, words_seen}

shown_both : (one more : List Sight) → words_shown (one ++ more) ≡ words_shown one ++ words_shown more
shown_both [] more = refl
shown_both (sight ∷ rest) more =
    ap (λ (words : List WordEvent). words_of sight.event ++ words) (shown_both rest more)
    ∙ sym (append_assoc (words_of sight.event) (words_shown rest) (words_shown more))

kept_or_none : (b : Bool) (word : WordEvent) → cond b (word ∷ []) [] ++ [] ≡ cond b (word ∷ []) []
kept_or_none true word = refl
kept_or_none false word = refl

module _ (t : ℕ) (m : StepMachine) where
  action_shown : (a : StepActor) (choice : Choice) (x : Action)
      → words_shown (listed (sight_by m.layout t m.memory a choice x)) ≡ made_by m t a x
  action_shown a choice Skip = refl
  action_shown a choice Stuck = refl
  action_shown a choice (Silent moves place) = refl
  action_shown a choice (Calls row place) = refl
  action_shown a choice (Does d rest place) = kept_or_none (is_word (address_of m.layout t a.actor.head d)) _

  thread_shown : (choice : Choice) (o : Option StepActor)
      → words_shown (listed (of_thread None
      (λ a. sight_by m.layout t m.memory a choice (action_of m.functions m.states m.layout t a choice)) o))
      ≡ of_thread [] (λ a. made_by m t a (action_of m.functions m.states m.layout t a choice)) o
  thread_shown choice None = refl
  thread_shown choice (Some a) = action_shown a choice (action_of m.functions m.states m.layout t a choice)

  either_shown : (b : Bool) (choice : Choice)
      → words_shown (cond b (listed (of_thread None
      (λ a. sight_by m.layout t m.memory a choice (action_of m.functions m.states m.layout t a choice))
      (slice_get m.actors t))) [])
      ≡ cond b (of_thread [] (λ a. made_by m t a (action_of m.functions m.states m.layout t a choice))
      (slice_get m.actors t))
      []
  either_shown true choice = thread_shown choice (slice_get m.actors t)
  either_shown false choice = refl

  event_shown : (event : ℕ × Choice) → words_shown (sights_at t (world_of m) event) ≡ made_at t m event
  event_shown event = either_shown (event.0 == t) event.1

-- The words that the thread's sights show are its trace.
pub seen_is_made : ((m : StepMachine) (event : ℕ × Choice) → world_of (next_machine m event)
    ≡ step (world_of m) event.0 event.1)
    → (m : StepMachine) (t : ℕ) (events : List (ℕ × Choice)) → words_seen t (world_of m) events ≡ events_on t m events
seen_is_made follows m t [] = refl
seen_is_made follows m t (event ∷ rest) =
    shown_both (sights_at t (world_of m) event) (sights_on t (step (world_of m) event.0 event.1) rest)
    ∙ ap (λ (words : List WordEvent). words ++ words_seen t (step (world_of m) event.0 event.1) rest)
    (event_shown t m event)
    ∙ ap (λ (w : World). made_at t m event ++ words_seen t w rest) (sym (follows m event))
    ∙ ap (λ (words : List WordEvent). made_at t m event ++ words) (seen_is_made follows (next_machine m event) t rest)
