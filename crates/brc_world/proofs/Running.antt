-- The world after a list of events: one step repeated, and the lines of a schedule.
use Rattle.std.proofs.Common.{◌≡◌, ◌≢◌, ℕ, zero, suc, ◌+◌, ◌-◌, ◌<◌, ◌≤◌, true, false, List, [], ◌∷◌, ◌++◌, Option, Some, None, slice_get, replicate, take, drop, length, get_or, refl, sym, ap, subst, ◌∙◌, append_assoc, arith}
use Rattle.std.specs.Prelude.{Result, Ok, Err, OnErr}
use Rattle.std.proofs.Math.Seq.{split_at}
use Rattle.std.proofs.lemmas.Bool.{and_left, and_right}
use Rattle.std.proofs.lemmas.List.{replicate-append-replicate, take_more, take_all, append-nil}
use Rattle.std.proofs.lemmas.List.Concat.{flat_map-append}
use Rattle.std.proofs.lemmas.List.Sums.{fold-append}
use Rattle.brc_model.specs.declared.actor.Status.{Status}
use Rattle.brc_model.specs.declared.actor.Status.TheVariants.{Running, Leaving, Gone}
use Rattle.brc_model.specs.declared.thread.Choice.{Choice}
use Rattle.brc_model.specs.declared.thread.Choice.TheVariants as choices
use Rattle.brc_model.specs.Safety.{has_gone}
use Rattle.brc_model.specs.Actions.{StepActor}
use Rattle.brc_model.specs.Dispatch.{is_idle, may_claim}
use Rattle.brc_model.specs.Machine.{is_running}
use Rattle.brc_model.specs.StepMachine.{StepMachine, next_machine, machine_after}
use Rattle.brc_model.specs.World.{World, world_of, step}
use Rattle.brc_schedule.specs.declared.schedule.Steps.{Steps}
use Rattle.brc_world.specs.declared.did.Did.{Did}
use Rattle.brc_world.specs.declared.did.Did.TheVariants as dids
use Rattle.brc_world.specs.Answers.{is_gone, is_gone_at, IsAnswer}
use Rattle.brc_world.proofs.Stepping.{after}
use Rattle.brc_world.specs.Runs.{world_after, events_of_line, events_of, StandsWithin}
use Rattle.brc_model.specs.declared.layout.Layout.{Layout}
use Rattle.brc_model.proofs.Dispatch.Claims.{gone_stops_not}

-- The world after some events is the world of the machine after the same events.
pub world_of_machine : ((m : StepMachine) (event : ℕ × Choice) → world_of (next_machine m event)
    ≡ step (world_of m) event.0 event.1)
    → (m : StepMachine) (events : List (ℕ × Choice))
    → world_of (machine_after m events) ≡ world_after (world_of m) events
world_of_machine follows m [] = refl
world_of_machine follows m (e ∷ events) =
    world_of_machine follows (next_machine m e) events ∙ ap (λ (w : World). world_after w events) (follows m e)

-- The world after two lists of events is the world after the second, from the world after the first.
pub after_both : (w : World) (made more : List (ℕ × Choice))
    → world_after w (made ++ more) ≡ world_after (world_after w made) more
after_both w made more = fold-append (λ (v : World) (event : ℕ × Choice). step v event.0 event.1) w made more

-- ---- a thread that is gone

gone_claims_none : (layout : Layout) (t : ℕ) (a : StepActor) (row : ℕ) → a.actor.status ≡ Gone
    → may_claim layout t a row ≡ false
gone_claims_none layout t a row gone =
    and_left _ _ (and_left _ _ (and_left _ _ (and_right (is_idle a.place) _ (ap is_running gone))))

gone_acts : (w : World) (t : ℕ) (choice : Choice) (a : StepActor) → a.actor.status ≡ Gone
    → after w t choice (Some a) ≡ w
gone_acts w t choices.Ok a gone = rw gone refl
gone_acts w t choices.Fault a gone = rw gone refl
gone_acts w t (choices.Claim row) a gone = rw (gone_claims_none w.layout t a row gone) refl
gone_acts w t choices.Stop a gone = rw (gone_stops_not a gone) refl

status_gone : (s : Status) → has_gone s ≡ true → s ≡ Gone
status_gone Gone e = refl
status_gone Running e = absurd cc
status_gone Leaving e = absurd cc

gone_among : (w : World) (t : ℕ) (choice : Choice) (o : Option StepActor) → is_gone o ≡ true
    → after w t choice o ≡ w
gone_among w t choice None e = refl
gone_among w t choice (Some a) e = gone_acts w t choice a (status_gone a.actor.status e)

-- A step of a thread that is gone changes nothing.
gone_step : (w : World) (t : ℕ) (choice : Choice) → is_gone_at w t ≡ true → step w t choice ≡ w
gone_step w t choice e = gone_among w t choice (slice_get w.actors t) e

gone_steps : (w : World) (t : ℕ) (choice : Choice) (n : ℕ) → is_gone_at w t ≡ true
    → world_after w (replicate n (t, choice)) ≡ w
gone_steps w t choice zero e = refl
gone_steps w t choice (suc n) e =
    ap (λ (v : World). world_after v (replicate n (t, choice))) (gone_step w t choice e) ∙ gone_steps w t choice n e

-- ---- one step, repeated

abbrev pub repeated : ℕ → Choice → ℕ → List (ℕ × Choice)
repeated t choice times = replicate times (t, choice)

-- One more step leads to the world after one more repetition.
pub one_more : (old at new : World) (t : ℕ) (choice : Choice) (made : ℕ) → at ≡ world_after old (repeated t choice made)
    → new ≡ step at t choice → new ≡ world_after old (repeated t choice (made + 1))
one_more old at new t choice made so_far is =
    is ∙ ap (λ (v : World). step v t choice) so_far
    ∙ sym (after_both old (repeated t choice made) (repeated t choice 1))
    ∙ ap (world_after old) (replicate-append-replicate made 1 (t, choice))

split_times : (t : ℕ) (choice : Choice) (made times : ℕ) → made ≤ times
    → repeated t choice times ≡ repeated t choice made ++ repeated t choice (times - made)
split_times t choice made times le =
    let sum : made + (times - made) ≡ times = omega arith in
    ap (λ (n : ℕ). repeated t choice n) (sym sum) ∙ sym (replicate-append-replicate made (times - made) (t, choice))

-- Once the thread is gone, the repetitions that are left change nothing.
gone_early : (old at : World) (t : ℕ) (choice : Choice) (made times : ℕ) → at ≡ world_after old (repeated t choice made)
    → made ≤ times → is_gone_at at t ≡ true → at ≡ world_after old (repeated t choice times)
gone_early old at t choice made times so_far le gone =
    let more : List (ℕ × Choice) = repeated t choice (times - made) in
    sym (gone_steps at t choice (times - made) gone)
    ∙ ap (λ (w : World). world_after w more) so_far
    ∙ sym (after_both old (repeated t choice made) more)
    ∙ ap (world_after old) (sym (split_times t choice made times le))

answered_gone : (at new : World) (t : ℕ) (did : Did) → IsAnswer at t new did → did ≡ dids.Gone → is_gone_at at t ≡ true
answered_gone at new t did answer is = subst (λ (d : Did). IsAnswer at t new d) is answer

-- After the answer Gone, the world is the one after all repetitions.
pub gone_done : (old at new : World) (number t : ℕ) (choice : Choice) (did : Did) (made times : ℕ) → number ≡ t
    → at ≡ world_after old (repeated t choice made) → made ≤ times → new ≡ step at number choice
    → IsAnswer at number new did → did ≡ dids.Gone → new ≡ world_after old (repeated t choice times)
gone_done old at new number t choice did made times same so_far le e answer is =
    let gone : is_gone_at at t ≡ true =
    subst (λ (n : ℕ). is_gone_at at n ≡ true) same (answered_gone at new number did answer is) in
    e ∙ ap (λ (n : ℕ). step at n choice) same ∙ gone_step at t choice gone
    ∙ gone_early old at t choice made times so_far le gone

pub on_err : {T E P : Type 0} (r : Result T E) → P → OnErr r P
on_err (Ok x) p = tt
on_err (Err e) p = p

-- If a step is refused memory, the world is the one before that step of its line.
pub stopped_at : (old at new : World) (number t : ℕ) (choice : Choice) (made times : ℕ) → number ≡ t
    → at ≡ world_after old (repeated t choice made) → made < times → new ≡ at → step at number choice ≢ at
    → StandsWithin old (repeated t choice times) new
stopped_at old at new number t choice made times number_is so_far lt same moves =
    let rest : times - made ≡ suc (times - made - 1) = omega (arith, lt) in
    record {
      made = repeated t choice made;
      next = (t, choice);
      left = repeated t choice (times - made - 1);
      parts =
          split_times t choice made times (omega (arith, lt))
          ∙ ap (λ (n : ℕ). repeated t choice made ++ repeated t choice n) rest;
      stands = same ∙ so_far;
      moves = rw (same, sym number_is) moves;
    }

-- ---- one line after another

events_push : (front : List Steps) (line : Steps) (back : List Steps)
    → events_of (front ++ line ∷ back) ≡ events_of front ++ (events_of_line line ++ events_of back)
events_push front line back = flat_map-append events_of_line front (line ∷ back)

stopped_in : (old at new : World) (front : List Steps) (line : Steps) (back all : List Steps)
    → at ≡ world_after old (events_of front) → StandsWithin at (events_of_line line) new → all ≡ front ++ line ∷ back
    → StandsWithin old (events_of all) new
stopped_in old at new front line back all so_far h e = record {
  made = events_of front ++ h.made;
  next = h.next;
  left = h.left ++ events_of back;
  parts =
      ap events_of e ∙ events_push front line back
      ∙ ap (λ (es : List (ℕ × Choice)). events_of front ++ (es ++ events_of back)) h.parts
      ∙ ap (λ (es : List (ℕ × Choice)). events_of front ++ es) (append_assoc h.made (h.next ∷ h.left) (events_of back))
      ∙ sym (append_assoc (events_of front) h.made (h.next ∷ h.left ++ events_of back));
  stands = h.stands ∙ ap (λ (w : World). world_after w h.made) so_far ∙ sym (after_both old (events_of front) h.made);
  moves = h.moves;
}

-- If a line stops, the schedule stops within that line.
pub stopped_after : (old at new : World) (all : List Steps) (index : ℕ) (d : Steps)
    → at ≡ world_after old (events_of (take index all)) → index < length all
    → StandsWithin at (events_of_line (get_or all index d)) new
    → StandsWithin old (events_of all) new
stopped_after old at new all index d so_far lt h =
    stopped_in old at new (take index all) (get_or all index d) (drop (suc index) all) all so_far h
    (split_at all index d lt)

-- ---- the next line, and the end

-- One more line leads to the world after the events of one more line.
pub next_line : (old at new : World) (all : List Steps) (index : ℕ) (d : Steps)
    → at ≡ world_after old (events_of (take index all)) → index < length all
    → new ≡ world_after at (events_of_line (get_or all index d))
    → new ≡ world_after old (events_of (take (index + 1) all))
next_line old at new all index d so_far lt is =
    let line = get_or all index d in
    let front = take index all in
    let parts : events_of (take (index + 1) all) ≡ events_of front ++ events_of_line line =
    ap events_of (take_more all index d lt) ∙ events_push front line []
    ∙ ap (λ (es : List (ℕ × Choice)). events_of front ++ es) (append-nil (events_of_line line)) in
    is ∙ ap (λ (v : World). world_after v (events_of_line line)) so_far
    ∙ sym (after_both old (events_of front) (events_of_line line)) ∙ ap (world_after old) (sym parts)

-- After the last line the world is the one after all events of the schedule.
pub last_line : (old at : World) (all : List Steps) (index : ℕ) → at ≡ world_after old (events_of (take index all))
    → length all ≤ index → at ≡ world_after old (events_of all)
last_line old at all index so_far past =
    so_far ∙ ap (λ (lines : List Steps). world_after old (events_of lines)) (take_all index all past)
