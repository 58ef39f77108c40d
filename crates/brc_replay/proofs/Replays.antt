-- A replay goes from machine to machine, event by event. A run that it takes to its last event is a wrong run if this
-- event is bad, or if after it an object is lost.
use Rattle.std.proofs.Common.{◌≡◌, ℕ, ◌+◌, ◌<◌, ◌≤◌, Bool, true, List, [], ◌∷◌, ◌++◌, length, get_or, take, map, inl, inr, Ok, Err, refl, sym, ap, ◌∙◌, subst}
use Rattle.std.specs.Prelude.{Result, IfOk}
use Rattle.std.specs.List.{list_all}
use Rattle.std.proofs.lemmas.Bool.{and_from, and_parts}
use Rattle.std.proofs.lemmas.List.{take_all, take_more}
use Rattle.brc_lang.specs.declared.module.Module.{Module}
use Rattle.brc_model.specs.declared.thread.Call.{Call}
use Rattle.brc_model.specs.declared.thread.Choice.{Choice}
use Rattle.brc_model.specs.Events.{is_bad_event}
use Rattle.brc_model.specs.Limits.{row_limit}
use Rattle.brc_model.specs.Safety.{AreCalls}
use Rattle.brc_model.specs.StepMachine.{StepMachine, machine_after, next_machine}
use Rattle.brc_replay.specs.declared.event.Event.{Event}
use Rattle.brc_plain.specs.Begun.{begun}
use Rattle.brc_replay.specs.WrongRuns.{goes_on, event_in, GoOn, AreTaken, GoWrong, HasLeak, IsWrongRun}

-- ---- one event more

appended : (before : List Event) (last : Event)
    → map event_in (before ++ last ∷ []) ≡ map event_in before ++ event_in last ∷ []
appended [] last = refl
appended (e ∷ before) last = ap (λ (l : List (ℕ × Choice)). event_in e ∷ l) (appended before last)

on_to : (before : List (ℕ × Choice)) (last : ℕ × Choice) → GoOn before → goes_on last.1 ≡ true
    → GoOn (before ++ last ∷ [])
on_to [] last on here = rw here refl
on_to (e ∷ before) last on here =
    let parts = and_parts (goes_on e.1) (list_all (λ (other : ℕ × Choice). goes_on other.1) before) on in
    and_from _ _ parts.0 (on_to before last parts.1 here)

after_last : (m : StepMachine) (before : List (ℕ × Choice)) (last : ℕ × Choice)
    → machine_after m (before ++ last ∷ []) ≡ next_machine (machine_after m before) last
after_last m [] last = refl
after_last m (e ∷ before) last = after_last (next_machine m e) before last

taken_more : (m now next : StepMachine) (before : List (ℕ × Choice)) (last : ℕ × Choice) → AreTaken m before now
    → goes_on last.1 ≡ true → next ≡ next_machine now last → AreTaken m (before ++ last ∷ []) next
taken_more m now next before last taken on step = record {
  reached =
      step ∙ ap (λ (n : StepMachine). next_machine n last) taken.reached ∙ sym (after_last m before last);
  go_on = on_to before last taken.go_on on;
}

-- The step of the event with this index is taken.
pub event_taken : (m now next : StepMachine) (events : List Event) (at : ℕ) (d : Event) → at < length events
    → AreTaken m (map event_in (take at events)) now → next ≡ next_machine now (event_in (get_or events at d))
    → goes_on (get_or events at d).choice ≡ true → AreTaken m (map event_in (take (at + 1) events)) next
event_taken m now next events at d inside taken step on =
    subst (λ (l : List (ℕ × Choice)). AreTaken m l next)
    (sym (ap (map event_in) (take_more events at d inside) ∙ appended (take at events) (get_or events at d)))
    (taken_more m now next (map event_in (take at events)) (event_in (get_or events at d)) taken on step)

-- The steps of all events are taken.
pub all_taken : (m now : StepMachine) (events : List Event) (at : ℕ) → length events ≤ at
    → AreTaken m (map event_in (take at events)) now → AreTaken m (map event_in events) now
all_taken m now events at past taken =
    subst (λ (l : List Event). AreTaken m (map event_in l) now) (take_all at events past) taken

-- ---- events that go wrong

-- The last event is bad.
pub wrong_if_bad : (m now : StepMachine) (events before : List Event) (last : Event) → events ≡ before ++ last ∷ []
    → goes_on last.choice ≡ true → AreTaken m (map event_in before) now → is_bad_event now (event_in last) ≡ true
    → GoWrong m (map event_in events)
wrong_if_bad m now events before last are on taken bad =
    let whole = ap (map event_in) are ∙ appended before last in
    record {
      go_on = rw whole (on_to (map event_in before) (event_in last) taken.go_on on);
      ends = inl (record {
        before = map event_in before;
        last = event_in last;
        are = whole;
        bad = ap (λ (n : StepMachine). is_bad_event n (event_in last)) (sym taken.reached) ∙ bad;
      });
    }

-- After the last event an object is lost.
pub wrong_if_leaks : (m now end : StepMachine) (events before : List Event) (last : Event)
    → events ≡ before ++ last ∷ [] → goes_on last.choice ≡ true → AreTaken m (map event_in before) now
    → end ≡ next_machine now (event_in last) → HasLeak end → GoWrong m (map event_in events)
wrong_if_leaks m now end events before last are on taken step leak =
    let whole = ap (map event_in) are ∙ appended before last in
    let more = taken_more m now end (map event_in before) (event_in last) taken on step in
    record {
      go_on = rw whole more.go_on;
      ends = inr (subst HasLeak (more.reached ∙ ap (machine_after m) (sym whole)) leak);
    }

-- What an answer of yes says of some events it says of others too.
pub if_wrong : {one other E : Type 0} (r : Result Bool E) → (one → other) → IfOk r (λ wrong. wrong ≡ true → one)
    → IfOk r (λ wrong. wrong ≡ true → other)
if_wrong (Ok wrong) by is = λ yes. by (is yes)
if_wrong (Err e) by is = tt

-- A run begins with the module's first machine.
pub wrong_run : (m : Module) (rows : ℕ) (calls : List Call) (events : List (ℕ × Choice)) (first : StepMachine)
    → 0 < rows → rows ≤ row_limit → AreCalls m calls → first ≡ begun m rows calls → GoWrong first events
    → IsWrongRun m rows calls events
wrong_run m rows calls events first some most fit start wrong = record {
  some_rows = some;
  most_rows = most;
  calls_fit = fit;
  wrong = subst (λ (n : StepMachine). GoWrong n events) start wrong;
}
