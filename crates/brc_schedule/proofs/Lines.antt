-- One more line of a schedule's text: the text above the next line is the text above this one, and this line.
use Rattle.std.proofs.Common.{◌≡◌, ℕ, ◌+◌, ◌<◌, ◌≤◌, ltb, List, [], ◌∷◌, ◌++◌, length, Result, Ok, refl, sym, ap, subst}
use Rattle.std.proofs.Common.{◌∙◌, append_assoc, arith, inl, inr}
use Rattle.std.specs.Prelude.{codes}
use Rattle.std.specs.List.{AllByRecursion}
use Rattle.std.proofs.lemmas.Bool.{ltb-true, ltb-false}
use Rattle.std.proofs.lemmas.List.{append-nil, length-append}
use Rattle.std.proofs.lemmas.List.Concat.{flat_map-append}
use Rattle.brc_lang.specs.declared.fault.FaultCode.{FaultCode}
use Rattle.brc_lang.specs.Grammar.{line, spaced}
use Rattle.brc_lang.specs.InstructionWords.{words, ◌>>=◌}
use Rattle.brc_lang.specs.RoundTrips.{TextsRoundTrip}
use Rattle.brc_model.specs.Limits.{worker_limit, row_limit}
use Rattle.brc_schedule.specs.declared.beginning.Beginning.{Beginning}
use Rattle.brc_schedule.specs.declared.beginning.Beginning.TheVariants.{Opened, Staffed, Planned}
use Rattle.brc_schedule.specs.declared.schedule.PlannedCall.{PlannedCall}
use Rattle.brc_schedule.specs.declared.schedule.Schedule.{Schedule}
use Rattle.brc_schedule.specs.declared.schedule.Steps.{Steps}
use Rattle.brc_schedule.specs.Text.{line_of, size_words, call_words, step_words, first_line, workers_line, rows_line}
use Rattle.brc_schedule.specs.Text.{calls_from, steps_text, text, AreSizes, IsPlannedCall, AreSteps}
use Rattle.brc_schedule.specs.Fault.{size_in, call_in, steps_in, planned_in, next_of, with_call, with_steps, beginning}
use Rattle.brc_schedule.specs.Fault.{IsPlan, IsBeginning}
use Rattle.brc_schedule.proofs.Words.{size_spelled, call_spelled, steps_spelled}
use Rattle.brc_schedule.proofs.Results.{bind_ok, chosen}

abbrev AddsLine : Beginning → List ℕ → Beginning → Type 0
AddsLine b text c = (beginning c ≡ beginning b ++ line text) × IsBeginning c

beginning_is : (x y : Beginning) → ◌≡◌ {A = Result Beginning FaultCode} (Ok x) (Ok y) → x ≡ y
beginning_is x y e = cc

plan_is : (x y : Schedule) → ◌≡◌ {A = Result Schedule FaultCode} (Ok x) (Ok y) → x ≡ y
plan_is x y e = cc

pub all_push : {X : Type 0} (P : X → Type 0) (xs : List X) (x : X) → AllByRecursion P xs → P x
    → AllByRecursion P (xs ++ x ∷ [])
all_push P [] x all here = (here, tt)
all_push P (y ∷ xs) x all here = (all.0, all_push P xs x all.1 here)

no_lists : (x : List ℕ) → (x ++ []) ++ [] ≡ x
no_lists x = append-nil (x ++ []) ∙ append-nil x

pub calls_push : (worker last : ℕ) (calls : List PlannedCall) (call : PlannedCall) → last ≡ worker + length calls
    → calls_from worker (calls ++ call ∷ []) ≡ calls_from worker calls ++ line_of (call_words last call)
calls_push worker last [] call e =
    let same : worker ≡ last = omega arith in
    append-nil (line_of (call_words worker call)) ∙ ap (λ (n : ℕ). line_of (call_words n call)) same
calls_push worker last (c ∷ calls) call e =
    let first = line_of (call_words worker c) in
    ap (λ (x : List ℕ). first ++ x) (calls_push (worker + 1) last calls call (omega arith))
    ∙ sym (append_assoc first (calls_from (worker + 1) calls) (line_of (call_words last call)))

before_none : (head front more both below : List ℕ) → both ≡ front ++ more → below ≡ []
    → (head ++ both) ++ below ≡ ((head ++ front) ++ below) ++ more
before_none head front more both below e f =
    rw (e, f) (append-nil (head ++ (front ++ more)) ∙ sym (append_assoc head front more)
    ∙ ap (λ (x : List ℕ). x ++ more) (sym (append-nil (head ++ front))))

empty_unless : (steps : List Steps) → (0 < length steps → ⊥) → steps ≡ []
empty_unless [] none = refl
empty_unless (s ∷ steps) none = absurd (none (omega arith))

pub steps_push : (steps : List Steps) (x : Steps)
    → steps_text (steps ++ x ∷ []) ≡ steps_text steps ++ line_of (step_words x)
steps_push steps x =
    flat_map-append (λ (s : Steps). line_of (step_words s)) steps (x ∷ [])
    ∙ ap (λ (y : List ℕ). steps_text steps ++ y) (append-nil (line_of (step_words x)))

-- ---- a line of each kind

module _ (laws : TextsRoundTrip) where
  opened_goes : (text : List ℕ) (c : Beginning) → next_of Opened (words text) ≡ Ok c → AddsLine Opened text c
  opened_goes text c e =
      let n = bind_ok (size_in (codes "workers") worker_limit (words text)) (λ w. Ok (Staffed w)) c e in
      let s = size_spelled laws (codes "workers") worker_limit (words text) n.0 (omega arith) n.1 in
      let is : text ≡ spaced (size_words (codes "workers") n.0) = laws.word_laws.joined text _ s.0 in
      subst (AddsLine Opened text) (beginning_is (Staffed n.0) c n.2)
      (ap (λ (x : List ℕ). first_line ++ line x) (sym is), (s.1, s.2))

  staffed_goes : (workers : ℕ) (text : List ℕ) (c : Beginning) → IsBeginning (Staffed workers)
      → next_of (Staffed workers) (words text) ≡ Ok c → AddsLine (Staffed workers) text c
  staffed_goes workers text c fits e =
      let n =
      bind_ok (size_in (codes "rows") row_limit (words text))
      (λ r. Ok (Planned (record { workers = workers; rows = r; calls = []; steps = [] }))) c e in
      let s = size_spelled laws (codes "rows") row_limit (words text) n.0 (omega arith) n.1 in
      let is : text ≡ spaced (size_words (codes "rows") n.0) = laws.word_laws.joined text _ s.0 in
      let made : Schedule = record { workers = workers; rows = n.0; calls = []; steps = [] } in
      let sizes : AreSizes workers n.0 =
      record { some_workers = fits.0; most_workers = fits.1; some_rows = s.1; most_rows = s.2 } in
      let plan : IsPlan made =
      record { sizes = sizes; few = omega arith; calls = tt; steps = tt; in_order = λ some. absurd (omega arith) } in
      let above = first_line ++ workers_line workers in
      subst (AddsLine (Staffed workers) text) (beginning_is (Planned made) c n.2)
      (no_lists (above ++ rows_line n.0) ∙ ap (λ (x : List ℕ). above ++ line x) (sym is), plan)

  call_goes : (s t : Schedule) (line_text : List ℕ) → IsPlan s → length s.calls < s.workers
      → (call_in (length s.calls + 1) (words line_text) >>= λ call. Ok (with_call s call)) ≡ Ok t
      → AddsLine (Planned s) line_text (Planned t)
  call_goes s t line_text plan few e =
      let k = bind_ok (call_in (length s.calls + 1) (words line_text)) (λ call. Ok (with_call s call)) t e in
      let most : s.workers ≤ worker_limit = (let sizes = plan.sizes in sizes.most_workers) in
      let spelled = call_spelled laws (length s.calls + 1) (words line_text) k.0 (omega arith) k.1 in
      let is : line_text ≡ spaced (call_words (length s.calls + 1) k.0) = laws.word_laws.joined line_text _ spelled.0 in
      let none : s.steps ≡ [] = empty_unless s.steps (λ some. omega (arith, plan.in_order some)) in
      let more : calls_from 1 (s.calls ++ k.0 ∷ []) ≡ calls_from 1 s.calls ++ line line_text =
      calls_push 1 (length s.calls + 1) s.calls k.0 (omega arith)
      ∙ ap (λ (x : List ℕ). calls_from 1 s.calls ++ line x) (sym is) in
      let head = first_line ++ workers_line s.workers ++ rows_line s.rows in
      let longer : length (s.calls ++ k.0 ∷ []) ≡ length s.calls + 1 = length-append s.calls (k.0 ∷ []) in
      let fits : IsPlan (with_call s k.0) = record {
        sizes = plan.sizes;
        few = omega arith;
        calls = all_push IsPlannedCall s.calls k.0 plan.calls spelled.1;
        steps = plan.steps;
        in_order = λ some. absurd (let n = ap (λ (x : List Steps). length x) none in omega arith);
      } in
      subst (λ (u : Schedule). AddsLine (Planned s) line_text (Planned u)) (plan_is (with_call s k.0) t k.2) (
        before_none head (calls_from 1 s.calls) (line line_text) (calls_from 1 (s.calls ++ k.0 ∷ []))
            (steps_text s.steps)
            more (ap steps_text none),
        fits,
      )

  steps_go : (s t : Schedule) (line_text : List ℕ) → IsPlan s → s.workers ≤ length s.calls
      → (steps_in s.workers (words line_text) >>= λ steps. Ok (with_steps s steps)) ≡ Ok t
      → AddsLine (Planned s) line_text (Planned t)
  steps_go s t line_text plan all e =
      let k = bind_ok (steps_in s.workers (words line_text)) (λ steps. Ok (with_steps s steps)) t e in
      let most : s.workers ≤ worker_limit = (let sizes = plan.sizes in sizes.most_workers) in
      let spelled = steps_spelled laws s.workers (words line_text) k.0 (omega arith) k.1 in
      let is : line_text ≡ spaced (step_words k.0) = laws.word_laws.joined line_text _ spelled.0 in
      let head = first_line ++ workers_line s.workers ++ rows_line s.rows ++ calls_from 1 s.calls in
      let few : length s.calls ≤ s.workers = plan.few in
      let fits : IsPlan (with_steps s k.0) = record {
        sizes = plan.sizes;
        few = few;
        calls = plan.calls;
        steps = all_push (AreSteps s.workers) s.steps k.0 plan.steps spelled.1;
        in_order = λ some. omega arith;
      } in
      let more : steps_text (s.steps ++ k.0 ∷ []) ≡ steps_text s.steps ++ line line_text =
      steps_push s.steps k.0 ∙ ap (λ (x : List ℕ). steps_text s.steps ++ line x) (sym is) in
      subst (λ (u : Schedule). AddsLine (Planned s) line_text (Planned u)) (plan_is (with_steps s k.0) t k.2)
      (ap (λ (x : List ℕ). head ++ x) more ∙ sym (append_assoc head (steps_text s.steps) (line line_text)), fits)

  planned_goes : (s : Schedule) (line_text : List ℕ) (c : Beginning) → IsPlan s
      → next_of (Planned s) (words line_text) ≡ Ok c → AddsLine (Planned s) line_text c
  planned_goes s line_text c plan e =
      let t = bind_ok (planned_in s (words line_text)) (λ t. Ok (Planned t)) c e in
      subst (AddsLine (Planned s) line_text) (beginning_is (Planned t.0) c t.2)
      (elim (chosen (ltb (length s.calls) s.workers) _ _ (Ok t.0) t.1) [
        | inl h ↦ call_goes s t.0 line_text plan (ltb-true _ _ h.0) h.1
        | inr h ↦ steps_go s t.0 line_text plan (ltb-false _ _ h.0) h.1
      ])

  pub next_spelled : (b c : Beginning) (text : List ℕ) → IsBeginning b → next_of b (words text) ≡ Ok c
      → (beginning c ≡ beginning b ++ line text) × IsBeginning c
  next_spelled Opened c text fits e = opened_goes text c e
  next_spelled (Staffed workers) c text fits e = staffed_goes workers text c fits e
  next_spelled (Planned s) c text fits e = planned_goes s text c fits e
