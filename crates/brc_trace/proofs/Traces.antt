-- A trace of events after a trace of others. Read `traced_then` and `stops_then` first.
use Rattle.std.proofs.Common.{◌≡◌, ℕ, ◌∙◌, List, [], ◌∷◌, ◌++◌, Option, Result, Ok, Err, refl, sym, ap, subst, append_assoc}
use Rattle.std.specs.Io.KnownBytes.{Appends}
use Rattle.std.specs.Prelude.{OnOk, OnErr}
use Rattle.std.proofs.lemmas.List.{append-nil}
use Rattle.brc_lang.specs.Written.{AppendsBeginning}
use Rattle.std.proofs.lemmas.List.Sums.{fold-append}
use Rattle.brc_lang.specs.declared.module.Function.{Function}
use Rattle.brc_report.specs.declared.paint.Paint.{Paint}
use Rattle.brc_model.specs.declared.thread.Choice.{Choice}
use Rattle.brc_model.specs.World.{World, step}
use Rattle.brc_world.specs.Runs.{world_after}
use Rattle.brc_trace.specs.declared.past.Past.{Past}
use Rattle.brc_trace.specs.TraceText.{past_at, past_after, text_at, text_on}
use Rattle.brc_trace.specs.TraceText.{IsTraced, StopsAmong}
use Rattle.brc_trace.proofs.Writing.{nothing_appended, not_begun, begins_early, begins_late, both_written}

pub on_err : {T E P : Type 0} (r : Result T E) → P → OnErr r P
on_err (Ok x) p = tt
on_err (Err e) p = p

-- where a trace is done, its world is the one after its events
pub made_to : {X E : Type 0} (r : Result X E) (paint : Paint) (functions : List Function) (w : World) (past : Past)
    (events : List (ℕ × Choice)) (new : World) (now : Past) (a b : Option (List ℕ)) (to : World)
    → world_after w events ≡ to → OnOk r (IsTraced paint functions w past events new now a b) → OnOk r (new ≡ to)
made_to (Err e) paint functions w past events new now a b to is done = tt
made_to (Ok x) paint functions w past events new now a b to is done = done.made ∙ is

-- and its lines are those of its events
pub written_to : {X E : Type 0} (r : Result X E) (paint : Paint) (functions fs : List Function) (w : World)
    (past first : Past) (events all : List (ℕ × Choice)) (new : World) (now : Past) (a b : Option (List ℕ))
    → functions ≡ fs → past ≡ first → events ≡ all → OnOk r (IsTraced paint functions w past events new now a b)
    → OnOk r (Appends a b (text_on paint fs w first all))
written_to (Err e) paint functions fs w past first events all new now a b of began same done = tt
written_to (Ok x) paint functions fs w past first events all new now a b of began same done =
    subst (Appends a b)
    (ap (λ (gs : List Function). text_on paint gs w past events) of
    ∙ ap (λ (p : Past). text_on paint fs w p events) began
    ∙ ap (λ (xs : List (ℕ × Choice)). text_on paint fs w first xs) same) done.written

-- ---- two lists of events

after_both : (w : World) (xs ys : List (ℕ × Choice)) → world_after w (xs ++ ys) ≡ world_after (world_after w xs) ys
after_both w xs ys = fold-append (λ (v : World) (event : ℕ × Choice). step v event.0 event.1) w xs ys

past_both : (functions : List Function) (w : World) (past : Past) (xs ys : List (ℕ × Choice))
    → past_after functions w past (xs ++ ys)
    ≡ past_after functions (world_after w xs) (past_after functions w past xs) ys
past_both functions w past [] ys = refl
past_both functions w past (event ∷ xs) ys =
    past_both functions (step w event.0 event.1) (past_at functions w past event) xs ys

text_both : (paint : Paint) (functions : List Function) (w : World) (past : Past) (xs ys : List (ℕ × Choice))
    → text_on paint functions w past (xs ++ ys)
    ≡ text_on paint functions w past xs
    ++ text_on paint functions (world_after w xs) (past_after functions w past xs) ys
text_both paint functions w past [] ys = refl
text_both paint functions w past (event ∷ xs) ys =
    let next = step w event.0 event.1 in
    let then = past_at functions w past event in
    ap (λ (l : List ℕ). text_at paint functions w past event ++ l) (text_both paint functions next then xs ys)
    ∙ sym (append_assoc (text_at paint functions w past event) (text_on paint functions next then xs)
    (text_on paint functions (world_after next xs) (past_after functions next then xs) ys))

module _ (paint : Paint) (functions : List Function) (w : World) (past : Past) where
  text_from : (xs ys : List (ℕ × Choice)) (at : World) (now : Past) → at ≡ world_after w xs → now
      ≡ past_after functions w past xs
      → text_on paint functions w past (xs ++ ys)
      ≡ text_on paint functions w past xs ++ text_on paint functions at now ys
  text_from xs ys at now world_is past_is =
      text_both paint functions w past xs ys
      ∙ ap (λ (v : World). text_on paint functions w past xs
      ++ text_on paint functions v (past_after functions w past xs) ys) (sym world_is)
      ∙ ap (λ (p : Past). text_on paint functions w past xs ++ text_on paint functions at p ys) (sym past_is)

  -- ---- one event

  text_one : (event : ℕ × Choice) → text_at paint functions w past event
      ≡ text_on paint functions w past (event ∷ [])
  text_one event = sym (append-nil (text_at paint functions w past event))

  pub one_traced : (event : ℕ × Choice) (new : World) (now : Past) (a b : Option (List ℕ)) (bytes : List ℕ)
      → new ≡ step w event.0 event.1 → now ≡ past_at functions w past event
      → bytes ≡ text_at paint functions w past event → Appends a b bytes
      → IsTraced paint functions w past (event ∷ []) new now a b
  one_traced event new now a b bytes made remembers is written = record {
    made = made;
    remembers = remembers;
    written = subst (Appends a b) (is ∙ text_one event) written;
  }

  pub one_stopped : (event : ℕ × Choice) (new : World) (a b : Option (List ℕ)) (bytes : List ℕ)
      → new ≡ step w event.0 event.1 → bytes ≡ text_at paint functions w past event
      → AppendsBeginning a b bytes → StopsAmong paint functions w past (event ∷ []) new a b
  one_stopped event new a b bytes made is begun = record {
    stands = record { made = event ∷ []; left = []; parts = refl; stands = made };
    begun = subst (AppendsBeginning a b) (is ∙ text_one event) begun;
  }

  -- no event has been made, and nothing written
  pub none_stopped : (events : List (ℕ × Choice)) (new : World) (a : Option (List ℕ)) → new ≡ w
      → StopsAmong paint functions w past events new a a
  none_stopped events new a same = record {
    stands = record { made = []; left = events; parts = refl; stands = same };
    begun = not_begun a _;
  }

  -- ---- one trace after another

  pub traced_none : (a : Option (List ℕ)) → IsTraced paint functions w past [] w past a a
  traced_none a = record { made = refl; remembers = refl; written = nothing_appended a }

  pub traced_then : (xs ys : List (ℕ × Choice)) (at : World) (now : Past) (new : World) (last : Past)
      (a b c : Option (List ℕ))
      → IsTraced paint functions w past xs at now a b
      → IsTraced paint functions at now ys new last b c
      → IsTraced paint functions w past (xs ++ ys) new last a c
  traced_then xs ys at now new last a b c first second = record {
    made = second.made ∙ ap (λ (v : World). world_after v ys) first.made ∙ sym (after_both w xs ys);
    remembers =
        second.remembers ∙ ap (λ (v : World). past_after functions v now ys) first.made
        ∙ ap (λ (p : Past). past_after functions (world_after w xs) p ys) first.remembers
        ∙ sym (past_both functions w past xs ys);
    written =
        both_written a b c _ _ _ (text_from xs ys at now first.made first.remembers) first.written second.written;
  }

  pub stops_then : (xs ys : List (ℕ × Choice)) (at : World) (now : Past) (new : World) (a b c : Option (List ℕ))
      → IsTraced paint functions w past xs at now a b
      → StopsAmong paint functions at now ys new b c
      → StopsAmong paint functions w past (xs ++ ys) new a c
  stops_then xs ys at now new a b c first second = record {
    stands = record {
      made = xs ++ second.stands.made;
      left = second.stands.left;
      parts =
          ap (λ (l : List (ℕ × Choice)). xs ++ l) second.stands.parts
          ∙ sym (append_assoc xs second.stands.made second.stands.left);
      stands =
          second.stands.stands ∙ ap (λ (v : World). world_after v second.stands.made) first.made
          ∙ sym (after_both w xs second.stands.made);
    };
    begun = begins_late a b c _ _ _ (text_from xs ys at now first.made first.remembers) first.written second.begun;
  }

  pub stops_before : (xs ys : List (ℕ × Choice)) (new : World) (a b : Option (List ℕ))
      → StopsAmong paint functions w past xs new a b → StopsAmong paint functions w past (xs ++ ys) new a b
  stops_before xs ys new a b stop = record {
    stands = record {
      made = stop.stands.made;
      left = stop.stands.left ++ ys;
      parts =
          ap (λ (l : List (ℕ × Choice)). l ++ ys) stop.stands.parts
          ∙ append_assoc stop.stands.made stop.stands.left ys;
      stands = stop.stands.stands;
    };
    begun = begins_early a b _ _ _ (text_both paint functions w past xs ys) stop.begun;
  }
