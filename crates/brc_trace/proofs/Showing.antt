-- The words that a trace shows of a thread are those that its sights show.
use Rattle.std.proofs.Common.{◌≡◌, ℕ, ◌∙◌, Bool, true, false, List, [], ◌∷◌, ◌++◌, Option, None, Some, refl, sym, ap}
use Rattle.std.specs.Prelude.{◌==◌, if◌then◌else◌}
use Rattle.std.proofs.lemmas.Bool.{eqb-true}
use Rattle.std.proofs.lemmas.List.Concat.{flat_map-append}
use Rattle.brc_lang.specs.declared.module.Function.{Function}
use Rattle.brc_model.specs.declared.thread.Choice.{Choice}
use Rattle.brc_model.specs.declared.event.WordEvent.{WordEvent}
use Rattle.brc_model.specs.World.{World, step}
use Rattle.brc_machine.specs.declared.sight.Sight.{Sight}
use Rattle.brc_machine.specs.Sights.{listed, words_of, words_shown}
use Rattle.brc_world.specs.Sights.{sight_at, sights_at, sights_on, words_seen}
use Rattle.brc_trace.specs.declared.past.Past.{Past}
use Rattle.brc_trace.specs.Shown.{entry_words, words_in}
use Rattle.brc_trace.specs.TraceText.{past_at, entries_by, entries_at, entries_on}

-- of one event: `mine` says whether it is the thread's
entry_shown : (t u : ℕ) (past : Past) (sight : Option Sight) (mine : Bool) → (u == t) ≡ mine
    → words_in t (entries_by past u sight) ≡ words_shown (if mine then listed sight else [])
entry_shown t u past None true is = refl
entry_shown t u past None false is = refl
entry_shown t u past (Some s) true is = rw is refl
entry_shown t u past (Some s) false is = rw is refl

event_among : (t u : ℕ) (w : World) (past : Past) (choice : Choice) (mine : Bool) → (u == t) ≡ mine
    → words_in t (entries_by past u (sight_at w u choice))
    ≡ words_shown (if mine then listed (sight_at w t choice) else [])
event_among t u w past choice true is =
    entry_shown t u past (sight_at w u choice) true is
    ∙ ap (λ (n : ℕ). words_shown (listed (sight_at w n choice))) (eqb-true u t is)
event_among t u w past choice false is = entry_shown t u past (sight_at w u choice) false is

event_shown : (t : ℕ) (w : World) (past : Past) (event : ℕ × Choice)
    → words_in t (entries_at w past event) ≡ words_shown (sights_at t w event)
event_shown t w past event = event_among t event.0 w past event.1 (event.0 == t) refl

pub trace_shown : (functions : List Function) (t : ℕ) (w : World) (past : Past) (events : List (ℕ × Choice))
    → words_in t (entries_on functions w past events) ≡ words_seen t w events
trace_shown functions t w past [] = refl
trace_shown functions t w past (event ∷ rest) =
    let next = step w event.0 event.1 in
    let now = past_at functions w past event in
    flat_map-append (entry_words t) (entries_at w past event) (entries_on functions next now rest)
    ∙ ap (λ (l : List WordEvent). l ++ words_in t (entries_on functions next now rest)) (event_shown t w past event)
    ∙ ap (λ (l : List WordEvent). words_shown (sights_at t w event) ++ l) (trace_shown functions t next now rest)
    ∙ sym (flat_map-append (λ (sight : Sight). words_of sight.event) (sights_at t w event) (sights_on t next rest))
