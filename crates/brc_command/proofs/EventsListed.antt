-- The events that the lines of a schedule list, line by line, and a schedule whose events are a wrong run.
use Rattle.std.proofs.Common.{◌≡◌, ℕ, ◌+◌, ◌<◌, List, [], ◌∷◌, ◌++◌, length, get_or, take, map, sym, ap, ◌∙◌, subst}
use Rattle.std.specs.Prelude.{replicate}
use Rattle.std.proofs.lemmas.List.{append_assoc, append-nil, map_push, replicate_more, take_more}
use Rattle.std.proofs.lemmas.List.Concat.{flat_map-append}
use Rattle.brc_lang.specs.declared.module.Module.{Module}
use Rattle.brc_model.specs.declared.thread.Call.{Call}
use Rattle.brc_model.specs.declared.thread.Choice.{Choice}
use Rattle.brc_schedule.specs.declared.schedule.Schedule.{Schedule}
use Rattle.brc_schedule.specs.declared.schedule.Steps.{Steps}
use Rattle.brc_schedule.specs.Text.{Spells}
use Rattle.brc_replay.specs.declared.event.Event.{Event}
use Rattle.brc_replay.specs.WrongRuns.{event_in, IsWrongRun}
use Rattle.brc_world.specs.Runs.{events_of, events_of_line}
use Rattle.brc_command.specs.Calls.{calls_of}
use Rattle.brc_command.specs.WrongRuns.{SpellsWrongRun}

-- one event more of a line
pub one_more : (events : List Event) (e : Event) (before : List (ℕ × Choice)) (n : ℕ)
    → map event_in events ≡ before ++ replicate n (event_in e)
    → map event_in (events ++ e ∷ []) ≡ before ++ replicate (n + 1) (event_in e)
one_more events e before n so_far =
    map_push event_in events e
    ∙ ap (λ (those : List (ℕ × Choice)). those ++ event_in e ∷ []) so_far
    ∙ append_assoc before (replicate n (event_in e)) (event_in e ∷ [])
    ∙ ap (λ (those : List (ℕ × Choice)). before ++ those) (replicate_more n (event_in e))

-- one line more
pub line_more : (lines : List Steps) (i : ℕ) (d : Steps) → i < length lines → (before : List (ℕ × Choice))
    → before ≡ events_of (take i lines)
    → before ++ events_of_line (get_or lines i d) ≡ events_of (take (i + 1) lines)
line_more lines i d there before so_far =
    let last : events_of (get_or lines i d ∷ []) ≡ events_of_line (get_or lines i d) =
    append-nil (events_of_line (get_or lines i d)) in
    ap (λ (those : List (ℕ × Choice)). those ++ events_of_line (get_or lines i d)) so_far
    ∙ ap (λ (those : List (ℕ × Choice)). events_of (take i lines) ++ those) (sym last)
    ∙ sym (flat_map-append events_of_line (take i lines) (get_or lines i d ∷ []))
    ∙ ap events_of (sym (take_more lines i d there))

-- the schedule's own calls and events are a wrong run
pub spelled : (m : Module) (text : List ℕ) (s : Schedule) (calls : List Call) (events : List Event) → Spells text s
    → calls ≡ calls_of m s.calls → map event_in events ≡ events_of s.steps
    → IsWrongRun m s.rows calls (map event_in events) → SpellsWrongRun m text
spelled m text s calls events spells found listed wrong = record {
  schedule = s;
  spells = spells;
  wrong = subst (λ (cs : List Call). IsWrongRun m s.rows cs (events_of s.steps)) found
      (subst (λ (es : List (ℕ × Choice)). IsWrongRun m s.rows calls es) listed wrong);
}
