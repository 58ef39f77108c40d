-- The traces of the steps of one line of a schedule, and of line after line.
use Rattle.std.proofs.Common.{◌≡◌, ℕ, suc, ◌+◌, ◌-◌, ◌<◌, ◌∙◌, true, List, [], ◌∷◌, ◌++◌, Option, take, drop, take-append-drop, length, get_or, replicate, sym, ap, subst, arith}
use Rattle.std.specs.Io.KnownBytes.{Appends}
use Rattle.std.proofs.lemmas.List.{replicate_more, replicate-append-replicate, take_more, append-nil}
use Rattle.std.proofs.lemmas.List.Concat.{flat_map-append}
use Rattle.brc_lang.specs.declared.module.Function.{Function}
use Rattle.brc_report.specs.declared.paint.Paint.{Paint}
use Rattle.brc_model.specs.declared.thread.Choice.{Choice}
use Rattle.brc_model.specs.World.{World}
use Rattle.brc_schedule.specs.declared.schedule.Steps.{Steps}
use Rattle.brc_world.specs.Answers.{is_gone_at}
use Rattle.brc_world.specs.Runs.{events_of_line, events_of}
use Rattle.brc_trace.specs.declared.past.Past.{Past}
use Rattle.brc_trace.specs.NoOpTexts.{is_step_line}
use Rattle.brc_trace.specs.TraceText.{IsTraced, StopsAmong}
use Rattle.brc_trace.proofs.Gone.{counted_past, gone_world, gone_past, gone_text}
use Rattle.brc_trace.proofs.Traces.{traced_then, stops_then, stops_before}
use Rattle.brc_trace.proofs.Writing.{nothing_appended}

-- ---- one step, repeated

abbrev pub repeated : ℕ → Choice → ℕ → List (ℕ × Choice)
repeated t choice times = replicate times (t, choice)

around : (t : ℕ) (choice : Choice) (done times : ℕ) → done < times
    → repeated t choice times
    ≡ (repeated t choice done ++ (t, choice) ∷ []) ++ repeated t choice (times - (done + 1))
around t choice done times lt =
    let sum : (done + 1) + (times - (done + 1)) ≡ times = omega (arith, lt) in
    ap (λ (n : ℕ). repeated t choice n) (sym sum)
    ∙ sym (replicate-append-replicate (done + 1) (times - (done + 1)) (t, choice))
    ∙ ap (λ (l : List (ℕ × Choice)). l ++ repeated t choice (times - (done + 1)))
    (sym (replicate_more done (t, choice)))

apart : (t : ℕ) (choice : Choice) (done times : ℕ) → done < times
    → repeated t choice times ≡ repeated t choice done ++ repeated t choice (suc (times - done - 1))
apart t choice done times lt =
    let sum : done + suc (times - done - 1) ≡ times = omega (arith, lt) in
    ap (λ (n : ℕ). repeated t choice n) (sym sum)
    ∙ sym (replicate-append-replicate done (suc (times - done - 1)) (t, choice))

module _ (paint : Paint) (functions : List Function) (w : World) (past : Past) where
  pub one_more : (t : ℕ) (choice : Choice) (done : ℕ) (at : World) (now : Past) (new : World) (last : Past)
      (a b c : Option (List ℕ))
      → IsTraced paint functions w past (repeated t choice done) at now a b
      → IsTraced paint functions at now ((t, choice) ∷ []) new last b c
      → IsTraced paint functions w past (repeated t choice (done + 1)) new last a c
  one_more t choice done at now new last a b c first second =
      subst (λ (l : List (ℕ × Choice)). IsTraced paint functions w past l new last a c)
      (replicate_more done (t, choice))
      (traced_then paint functions w past (repeated t choice done) ((t, choice) ∷ []) at now new last a b c first
      second)

  pub one_stops : (t : ℕ) (choice : Choice) (done times : ℕ) (at : World) (now : Past) (new : World)
      (a b c : Option (List ℕ)) → done < times
      → IsTraced paint functions w past (repeated t choice done) at now a b
      → StopsAmong paint functions at now ((t, choice) ∷ []) new b c
      → StopsAmong paint functions w past (repeated t choice times) new a c
  one_stops t choice done times at now new a b c lt first second =
      subst (λ (l : List (ℕ × Choice)). StopsAmong paint functions w past l new a c)
      (sym (around t choice done times lt))
      (stops_before paint functions w past (repeated t choice done ++ (t, choice) ∷ [])
      (repeated t choice (times - (done + 1))) new a c
      (stops_then paint functions w past (repeated t choice done) ((t, choice) ∷ []) at now new a b c first second))

  gone_traced : (t : ℕ) (choice : Choice) (n : ℕ) (a : Option (List ℕ)) → is_step_line choice ≡ true → is_gone_at w t ≡ true
      → IsTraced paint functions w past (repeated t choice (suc n)) w (counted_past past (suc n)) a a
  gone_traced t choice n a plain gone = record {
    made = sym (gone_world functions w t choice gone (suc n));
    remembers = sym (gone_past functions w t choice gone past n);
    written =
        subst (λ (l : List ℕ). Appends a a l) (sym (gone_text functions w t choice gone paint past (suc n) plain))
        (nothing_appended a);
  }

  -- ---- the lines of a schedule

  next_events : (lines : List Steps) (i : ℕ) (d : Steps) → i < length lines
      → events_of (take i lines) ++ events_of_line (get_or lines i d) ≡ events_of (take (i + 1) lines)
  next_events lines i d lt =
      ap (λ (l : List (ℕ × Choice)). events_of (take i lines) ++ l)
      (sym (append-nil (events_of_line (get_or lines i d))))
      ∙ sym (flat_map-append events_of_line (take i lines) (get_or lines i d ∷ []))
      ∙ ap events_of (sym (take_more lines i d lt))

  split_events : (lines : List Steps) (i : ℕ)
      → events_of lines ≡ events_of (take i lines) ++ events_of (drop i lines)
  split_events lines i =
      ap events_of (sym (take-append-drop i lines)) ∙ flat_map-append events_of_line (take i lines) (drop i lines)

  pub line_more : (lines : List Steps) (i : ℕ) (d : Steps) (at : World) (now : Past) (new : World) (last : Past)
      (a b c : Option (List ℕ)) → i < length lines
      → IsTraced paint functions w past (events_of (take i lines)) at now a b
      → IsTraced paint functions at now (events_of_line (get_or lines i d)) new last b c
      → IsTraced paint functions w past (events_of (take (i + 1) lines)) new last a c
  line_more lines i d at now new last a b c lt first second =
      subst (λ (l : List (ℕ × Choice)). IsTraced paint functions w past l new last a c) (next_events lines i d lt)
      (traced_then paint functions w past (events_of (take i lines)) (events_of_line (get_or lines i d)) at now new last
      a b c first second)

  pub line_stops : (lines : List Steps) (i : ℕ) (d : Steps) (at : World) (now : Past) (new : World)
      (a b c : Option (List ℕ)) → i < length lines
      → IsTraced paint functions w past (events_of (take i lines)) at now a b
      → StopsAmong paint functions at now (events_of_line (get_or lines i d)) new b c
      → StopsAmong paint functions w past (events_of lines) new a c
  line_stops lines i d at now new a b c lt first second =
      subst (λ (l : List (ℕ × Choice)). StopsAmong paint functions w past l new a c)
      (sym (split_events lines (i + 1)))
      (stops_before paint functions w past (events_of (take (i + 1) lines)) (events_of (drop (i + 1) lines)) new a c
      (subst (λ (l : List (ℕ × Choice)). StopsAmong paint functions w past l new a c) (next_events lines i d lt)
      (stops_then paint functions w past (events_of (take i lines)) (events_of_line (get_or lines i d)) at now new
      a b c first second)))

-- The thread is gone, and its further steps are counted.
module _ (paint : Paint) (functions : List Function) (w : World) (past : Past) where
  pub rest_counted : (t : ℕ) (choice : Choice) (done times : ℕ) (at : World) (now : Past) (last : Past)
      (a b : Option (List ℕ)) → done < times → is_step_line choice ≡ true → is_gone_at at t ≡ true
      → IsTraced paint functions w past (repeated t choice done) at now a b
      → last ≡ counted_past now (times - done)
      → IsTraced paint functions w past (repeated t choice times) at last a b
  rest_counted t choice done times at now last a b lt plain gone first is =
      let left : times - done ≡ suc (times - done - 1) = omega (arith, lt) in
      subst (λ (l : List (ℕ × Choice)). IsTraced paint functions w past l at last a b)
      (sym (apart t choice done times lt))
      (subst (λ (p : Past). IsTraced paint functions w past
      (repeated t choice done ++ repeated t choice (suc (times - done - 1))) at p a b)
      (sym (is ∙ ap (counted_past now) left))
      (traced_then paint functions w past (repeated t choice done) (repeated t choice (suc (times - done - 1)))
      at now at (counted_past now (suc (times - done - 1))) a b b first
      (gone_traced paint functions at now t choice (times - done - 1) b plain gone)))
