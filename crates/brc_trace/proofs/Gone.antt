-- A thread that is gone takes no step: its events change nothing, and are counted. Those that are no claim and no stop
-- have no line.
use Rattle.std.proofs.Common.{◌≡◌, ℕ, zero, suc, ◌+◌, ◌∙◌, true, false, List, [], ◌++◌, Option, None, Some, slice_get, replicate, min, refl, ap, arith}
use Rattle.std.proofs.lemmas.Bool.{and_left, and_right}
use Rattle.brc_lang.specs.declared.module.Function.{Function}
use Rattle.brc_report.specs.declared.paint.Paint.{Paint}
use Rattle.brc_model.specs.declared.actor.Status.{Status}
use Rattle.brc_model.specs.declared.actor.Status.TheVariants.{Running, Leaving, Gone}
use Rattle.brc_model.specs.declared.layout.Layout.{Layout}
use Rattle.brc_model.specs.declared.thread.Choice.{Choice}
use Rattle.brc_model.specs.declared.thread.Choice.TheVariants as choices
use Rattle.brc_model.specs.Actions.{StepActor, Action, Skip}
use Rattle.brc_model.specs.Dispatch.{is_idle, is_before_instruction, may_claim, may_stop, action_of, exit_of}
use Rattle.brc_model.specs.Machine.{is_running}
use Rattle.brc_model.specs.Safety.{has_gone}
use Rattle.brc_model.specs.StepMachine.{of_thread, machine_by}
use Rattle.brc_model.specs.World.{World, world_of, machine_of, step}
use Rattle.brc_machine.specs.declared.sight.Sight.{Sight}
use Rattle.brc_world.specs.Answers.{is_gone, is_gone_at}
use Rattle.brc_world.specs.Runs.{world_after}
use Rattle.brc_machine.specs.Sights.{sight_by}
use Rattle.brc_world.specs.Sights.{sight_at}
use Rattle.brc_trace.specs.declared.past.Doing.{Doing}
use Rattle.brc_trace.specs.declared.past.Past.{Past}
use Rattle.brc_trace.specs.NoOpTexts.{is_step_line, no_op_text}
use Rattle.brc_trace.specs.TraceText.{past_by, past_after, text_on, most_number}

claims_none : (layout : Layout) (t : ℕ) (a : StepActor) (row : ℕ) → a.actor.status ≡ Gone
    → may_claim layout t a row ≡ false
claims_none layout t a row gone =
    and_left _ _ (and_left _ _ (and_left _ _ (and_right (is_idle a.place) _ (ap is_running gone))))

stops_none : (a : StepActor) → a.actor.status ≡ Gone → may_stop a ≡ false
stops_none a gone = and_left _ _ (and_right (is_before_instruction a.place) _ (ap is_running gone))

status_gone : (s : Status) → has_gone s ≡ true → s ≡ Gone
status_gone Gone e = refl
status_gone Running e = absurd cc
status_gone Leaving e = absurd cc

acts : (w : World) (t : ℕ) (choice : Choice) (a : StepActor) → a.actor.status ≡ Gone
    → action_of w.functions w.states w.layout t a choice ≡ Skip
acts w t choices.Ok a gone = rw gone refl
acts w t choices.Fault a gone = rw gone refl
acts w t (choices.Claim row) a gone = rw (claims_none w.layout t a row gone) refl
acts w t choices.Stop a gone = rw (stops_none a gone) refl

stays_among : (w : World) (t : ℕ) (choice : Choice) (o : Option StepActor) → is_gone o ≡ true
    → world_of (of_thread (machine_of w) (λ a. machine_by (machine_of w) t a (exit_of choice)
    (action_of w.functions w.states w.layout t a choice)) o) ≡ w
stays_among w t choice None e = refl
stays_among w t choice (Some a) e =
    ap (λ (action : Action). world_of (machine_by (machine_of w) t a (exit_of choice) action))
    (acts w t choice a (status_gone a.actor.status e))

unseen_among : (w : World) (t : ℕ) (choice : Choice) (o : Option StepActor) → is_gone o ≡ true
    → of_thread None (λ a. sight_by w.layout t w.memory a choice (action_of w.functions w.states w.layout t a choice))
    o ≡ None
unseen_among w t choice None e = refl
unseen_among w t choice (Some a) e =
    ap (λ (action : Action). sight_by w.layout t w.memory a choice action)
    (acts w t choice a (status_gone a.actor.status e))

stays : (w : World) (t : ℕ) (choice : Choice) → is_gone_at w t ≡ true → step w t choice ≡ w
stays w t choice e = stays_among w t choice (slice_get w.actors t) e

unseen : (w : World) (t : ℕ) (choice : Choice) → is_gone_at w t ≡ true → sight_at w t choice ≡ None
unseen w t choice e = unseen_among w t choice (slice_get w.actors t) e

-- what is remembered after n more steps without a line
abbrev pub counted_past : Past → ℕ → Past
counted_past past n = record { threads = past.threads; number = min (past.number + n) most_number }

pub counted_is : (now last : Past) (n : ℕ) → last.threads ≡ now.threads → last.number ≡ min (now.number + n) most_number
    → last ≡ counted_past now n
counted_is now last n threads number =
    ap (λ (ds : List Doing). let p : Past = record { threads = ds; number = last.number } in p) threads
    ∙ ap (λ (m : ℕ). let p : Past = record { threads = now.threads; number = m } in p) number

-- a step of a line `step` has no line where it changes nothing
has_no_line : (paint : Paint) (number t : ℕ) (choice : Choice) → is_step_line choice ≡ true
    → no_op_text paint number t choice ≡ []
has_no_line paint number t choices.Ok plain = refl
has_no_line paint number t choices.Fault plain = refl
has_no_line paint number t (choices.Claim row) plain = absurd cc
has_no_line paint number t choices.Stop plain = absurd cc

min_twice : (number n most : ℕ) → min (min (number + 1) most + suc n) most ≡ min (number + suc (suc n)) most
min_twice number n most = omega arith

module _ (functions : List Function) (w : World) (t : ℕ) (choice : Choice) (gone : is_gone_at w t ≡ true) where
  pub gone_world : (n : ℕ) → world_after w (replicate n (t, choice)) ≡ w
  gone_world zero = refl
  gone_world (suc n) =
      ap (λ (v : World). world_after v (replicate n (t, choice))) (stays w t choice gone) ∙ gone_world n

  gone_once : (past : Past) → past_by functions past t (sight_at w t choice) ≡ counted_past past 1
  gone_once past = ap (λ (s : Option Sight). past_by functions past t s) (unseen w t choice gone)

  pub gone_past : (past : Past) (n : ℕ)
      → past_after functions w past (replicate (suc n) (t, choice)) ≡ counted_past past (suc n)
  gone_past past zero = gone_once past
  gone_past past (suc n) =
      ap (λ (v : World). past_after functions v (past_by functions past t (sight_at w t choice))
      (replicate (suc n) (t, choice)))
      (stays w t choice gone)
      ∙ ap (λ (p : Past). past_after functions w p (replicate (suc n) (t, choice))) (gone_once past)
      ∙ gone_past (counted_past past 1) n
      ∙ ap (λ (m : ℕ). let p : Past = record { threads = past.threads; number = m } in p)
      (min_twice past.number n most_number)

  pub gone_text : (paint : Paint) (past : Past) (n : ℕ) → is_step_line choice ≡ true
      → text_on paint functions w past (replicate n (t, choice)) ≡ []
  gone_text paint past zero plain = refl
  gone_text paint past (suc n) plain =
      rw (unseen w t choice gone)
      (ap (λ (v : World). no_op_text paint past.number t choice
      ++ text_on paint functions v (counted_past past 1) (replicate n (t, choice)))
      (stays w t choice gone)
      ∙ ap (λ (l : List ℕ). l ++ text_on paint functions w (counted_past past 1) (replicate n (t, choice)))
      (has_no_line paint past.number t choice plain)
      ∙ gone_text paint (counted_past past 1) n plain)
