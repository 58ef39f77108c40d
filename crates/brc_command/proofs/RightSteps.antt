-- Events that are made one after another, each of them right, and the step at which a run stops.
use Rattle.std.proofs.Common.{◌≡◌, ℕ, ◌+◌, ◌<◌, ◌≤◌, List, [], ◌∷◌, ◌++◌, length, get_or, take, drop, map, inl, inr, refl, sym, ap, ◌∙◌, subst, arith}
use Rattle.std.proofs.lemmas.List.{drop_more, length-map, length-take-le, map-append, map_push, take-append-drop, take_all, take_more}
use Rattle.brc_model.specs.declared.thread.Choice.{Choice}
use Rattle.brc_model.specs.StepMachine.{StepMachine, machine_after, next_machine}
use Rattle.brc_replay.specs.declared.event.Event.{Event}
use Rattle.brc_replay.specs.WrongRuns.{event_in}
use Rattle.brc_command.specs.WholeRuns.{IsRight, AreRight, AreMade, StopsAt}

-- ---- one event more

after_last : (m : StepMachine) (before : List (ℕ × Choice)) (last : ℕ × Choice)
    → machine_after m (before ++ last ∷ []) ≡ next_machine (machine_after m before) last
after_last m [] last = refl
after_last m (event ∷ before) last = after_last (next_machine m event) before last

right_on : (m : StepMachine) (before : List (ℕ × Choice)) (last : ℕ × Choice) → AreRight m before
    → IsRight (machine_after m before) last → AreRight m (before ++ last ∷ [])
right_on m [] last right here = (here, tt)
right_on m (event ∷ before) last right here =
    (right.0, right_on (next_machine m event) before last right.1 here)

made_more : (first now next : StepMachine) (before : List (ℕ × Choice)) (last : ℕ × Choice) → AreMade first before now
    → IsRight now last → next ≡ next_machine now last → AreMade first (before ++ last ∷ []) next
made_more first now next before last made here step = record {
  reached =
      step ∙ ap (λ (m : StepMachine). next_machine m last) made.reached ∙ sym (after_last first before last);
  right = right_on first before last made.right (subst (λ (m : StepMachine). IsRight m last) made.reached here);
}

-- no event is made before the first
pub none_made : (first now : StepMachine) (events : List Event) → now ≡ first
    → AreMade first (map event_in (take 0 events)) now
none_made first now events same = record { reached = same; right = tt }

-- The event with this index is made.
pub event_made : (first now next : StepMachine) (events : List Event) (at : ℕ) (d : Event) → at < length events
    → AreMade first (map event_in (take at events)) now → IsRight now (event_in (get_or events at d))
    → next ≡ next_machine now (event_in (get_or events at d)) → AreMade first (map event_in (take (at + 1) events)) next
event_made first now next events at d inside made here step =
    subst (λ (l : List (ℕ × Choice)). AreMade first l next)
    (sym (ap (map event_in) (take_more events at d inside) ∙ map_push event_in (take at events) (get_or events at d)))
    (made_more first now next (map event_in (take at events)) (event_in (get_or events at d)) made here step)

-- All events are made.
pub all_made : (first now : StepMachine) (events : List Event) (at : ℕ) → length events ≤ at
    → AreMade first (map event_in (take at events)) now → AreMade first (map event_in events) now
all_made first now events at past made =
    subst (λ (l : List Event). AreMade first (map event_in l) now) (take_all at events past) made

-- ---- the step at which a run stops

-- the event of an index, and those before and after it
parts_at : (events : List Event) (at : ℕ) (d : Event) → at < length events
    → map event_in events
    ≡ map event_in (take at events) ++ event_in (get_or events at d) ∷ map event_in (drop (at + 1) events)
parts_at events at d inside =
    ap (map event_in) (sym (take-append-drop at events)) ∙ map-append event_in (take at events) (drop at events)
    ∙ ap (λ (l : List Event). map event_in (take at events) ++ map event_in l) (drop_more events at d inside)

stops_there : (first : StepMachine) (events : List Event) (at : ℕ) (d : Event) → at < length events
    → AreRight first (map event_in (take at events)) → StopsAt (at + 1) first (map event_in events)
stops_there first events at d inside right =
    let few : at ≤ length events = omega (arith, inside) in
    inr (record {
      made = map event_in (take at events);
      event = event_in (get_or events at d);
      rest = map event_in (drop (at + 1) events);
      parts = parts_at events at d inside;
      named =
          ap (λ (n : ℕ). n + 1) (sym (length-map (take at events) event_in ∙ length-take-le at events few));
      right = right;
    })

-- The run stops at the event of the index.
pub stops_at : (first : StepMachine) (events : List Event) (at : ℕ) → at < length events
    → AreRight first (map event_in (take at events)) → StopsAt (at + 1) first (map event_in events)
stops_at first [] at inside right = absurd (omega (arith, inside))
stops_at first (event ∷ events) at inside right = stops_there first (event ∷ events) at event inside right

right_before : (m : StepMachine) (before rest : List (ℕ × Choice)) → AreRight m (before ++ rest) → AreRight m before
right_before m [] rest right = tt
right_before m (event ∷ before) rest right = (right.0, right_before (next_machine m event) before rest right.1)

-- the events before an index are right if all are
right_up_to : (first : StepMachine) (events : List Event) (at : ℕ) → AreRight first (map event_in events)
    → AreRight first (map event_in (take at events))
right_up_to first events at right =
    right_before first (map event_in (take at events)) (map event_in (drop at events))
    (subst (λ (l : List (ℕ × Choice)). AreRight first l) (ap (map event_in) (sym (take-append-drop at events))
    ∙ map-append event_in (take at events) (drop at events)) right)

-- The run stops at its last event, or there is none.
pub stops_at_last : (first : StepMachine) (events : List Event) → AreRight first (map event_in events)
    → StopsAt (length events) first (map event_in events)
stops_at_last first [] right = inl refl
stops_at_last first (event ∷ events) right =
    let at = length events in
    let inside : at < length (event ∷ events) = omega arith in
    let last : StopsAt (at + 1) first (map event_in (event ∷ events)) =
    stops_at first (event ∷ events) at inside (right_up_to first (event ∷ events) at right) in
    let same : at + 1 ≡ length (event ∷ events) = omega arith in
    subst (λ (n : ℕ). StopsAt n first (map event_in (event ∷ events))) same last
