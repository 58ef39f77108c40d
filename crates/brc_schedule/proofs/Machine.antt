-- Reading a schedule line by line, as a function of the text: what a text spells, and which fault it has, follows from
-- it.
use Rattle.std.proofs.Common.{◌≡◌, ℕ, ◌+◌, ◌^◌, ◌<◌, ◌≤◌, true, false, cond, eqb, ◌&&◌, List, [], ◌∷◌, ◌++◌, length}
use Rattle.std.proofs.Common.{drop, Some, None, Result, Ok, Err, refl, sym, ap, ◌∙◌, append_assoc, add-zero, arith, inl}
use Rattle.std.proofs.Common.{inr}
use Rattle.std.specs.Prelude.{codes, nat_eq}
use Rattle.std.specs.List.{list_any, slice_split, before_first, after_first, starts_with, AllByRecursion}
use Rattle.std.specs.Fmt.{decimal}
use Rattle.std.proofs.lemmas.Bool.{cases_Bool, lt-ltb, le-ltb}
use Rattle.std.proofs.lemmas.List.{append-nil, length-append}
use Rattle.brc_lang.specs.declared.fault.FaultCode.{FaultCode}
use Rattle.brc_lang.specs.declared.fault.FaultCode.TheVariants.{FirstLine, CutOff}
use Rattle.brc_lang.specs.Grammar.{line, spaced}
use Rattle.brc_lang.specs.InstructionWords.{words}
use Rattle.brc_lang.specs.Fault.{is_line_feed, line_count}
use Rattle.brc_lang.specs.RoundTrips.{IsPlain, TextsRoundTrip}
use Rattle.brc_model.specs.declared.thread.Choice.{Choice}
use Rattle.brc_model.specs.declared.thread.Choice.TheVariants as choices
use Rattle.brc_model.specs.Limits.{worker_limit, row_limit}
use Rattle.brc_schedule.specs.declared.beginning.Beginning.{Beginning}
use Rattle.brc_schedule.specs.declared.beginning.Beginning.TheVariants.{Opened, Staffed, Planned}
use Rattle.brc_schedule.specs.declared.schedule.PlannedCall.{PlannedCall}
use Rattle.brc_schedule.specs.declared.schedule.Schedule.{Schedule}
use Rattle.brc_schedule.specs.declared.schedule.Steps.{Steps}
use Rattle.brc_schedule.specs.Text.{line_of, size_words, call_words, words_of, step_words, first_line, workers_line}
use Rattle.brc_schedule.specs.Text.{rows_line, calls_from, steps_text, text, IsPlannedCall, AreSteps}
use Rattle.brc_schedule.specs.Fault.{next_of, is_whole, fault_in, fault_of, beginning, IsPlan, IsBeginning}
use Rattle.brc_schedule.proofs.Words.{size_again, call_again, steps_again, size_plain, call_plain, steps_plain}
use Rattle.brc_schedule.proofs.Results.{chosen, line_count-append}

-- ---- the machine

abbrev pub Answer : Type 0
Answer = Result Schedule (ℕ × FaultCode)

abbrev then : ℕ → Result Beginning FaultCode → (Beginning → Answer) → Answer
then n (Ok b) go = go b
then n (Err code) go = Err (n, code)

abbrev at_end : ℕ → Beginning → Answer
at_end n Opened = Err (n, CutOff)
at_end n (Staffed workers) = Err (n, CutOff)
at_end n (Planned s) = cond (is_whole (Planned s)) (Ok s) (Err (n, CutOff))

-- from the line n on; the last part has no line feed at its end
abbrev read_from : ℕ → Beginning → List ℕ → List (List ℕ) → Answer
read_from n b first [] = cond (eqb (length first) 0) (at_end n b) (Err (n, CutOff))
read_from n b first (next ∷ others) = then n (next_of b (words first)) (λ c. read_from (n + 1) c next others)

abbrev read_parts : ℕ → Beginning → List (List ℕ) → Answer
read_parts n b [] = Err (n, CutOff)
read_parts n b (first ∷ others) = read_from n b first others

abbrev pub read_rest : ℕ → Beginning → List ℕ → Answer
read_rest n b bytes = read_parts n b (slice_split is_line_feed bytes)

abbrev pub reading : List ℕ → Answer
reading bytes = cond (starts_with nat_eq bytes first_line) (read_rest 2 Opened (drop 11 bytes)) (Err (1, FirstLine))

refused : (n : ℕ) (r : Result Beginning FaultCode) (go : Beginning → Answer) (code : FaultCode) → fault_in r ≡ Some code
    → then n r go ≡ Err (n, code)
refused n (Ok b) go code e = absurd cc
refused n (Err d) go code e = let same : d ≡ code = cc in ap (λ (x : FaultCode). Err (n, x)) same

not_whole : (n : ℕ) (b : Beginning) → is_whole b ≡ false → at_end n b ≡ Err (n, CutOff)
not_whole n Opened e = refl
not_whole n (Staffed workers) e = refl
not_whole n (Planned s) e = rw e refl

cut_at_end : (n : ℕ) (b : Beginning) (first : List ℕ) → (eqb (length first) 0 && is_whole b) ≡ false
    → read_from n b first [] ≡ Err (n, CutOff)
cut_at_end n b first e =
    elim (eqb (length first) 0) as
    (λ v. (v && is_whole b) ≡ false → cond v (at_end n b) (Err (n, CutOff)) ≡ Err (n, CutOff)) [
      | true ↦ λ h. not_whole n b h
      | false ↦ λ h. refl
    ] e

-- the words after the first
abbrev call_operands : ℕ → PlannedCall → List (List ℕ)
call_operands worker call = decimal worker ∷ call.name ∷ decimal call.times ∷ []

abbrev step_operands : ℕ → List ℕ → ℕ → List (List ℕ)
step_operands thread choice times = decimal thread ∷ choice ∷ decimal times ∷ []

abbrev claim_operands : ℕ → ℕ → List (List ℕ)
claim_operands thread row = decimal thread ∷ decimal row ∷ []

abbrev stop_operands : ℕ → List (List ℕ)
stop_operands thread = decimal thread ∷ []

abbrev plan : ℕ → ℕ → List PlannedCall → List Steps → Schedule
plan workers rows calls steps = record { workers = workers; rows = rows; calls = calls; steps = steps }

regroup : (a b c d e f : List ℕ) → ((((a ++ b) ++ c) ++ d) ++ e) ++ f ≡ a ++ (b ++ (c ++ (d ++ (e ++ f))))
regroup a b c d e f = simp append_assoc

from_top : (bytes : List ℕ) → reading (first_line ++ bytes) ≡ read_rest 2 Opened bytes
from_top bytes = refl

-- some part is always there
parts_some : (xs : List ℕ)
    → (first : List ℕ) × (others : List (List ℕ)) × (slice_split is_line_feed xs ≡ first ∷ others)
parts_some [] = ([], [], refl)
parts_some (x ∷ xs) =
    let q = parts_some xs in
    elim (cases_Bool (is_line_feed x)) [
      | inl passes ↦ ([], slice_split is_line_feed xs, rw passes refl)
      | inr fails ↦ (x ∷ q.0, q.1, rw (fails, q.2) refl)
    ]

-- ---- one line, and several

module _ (laws : TextsRoundTrip) where
  -- the reader goes on below the line of these words
  line_passes : (n : ℕ) (b c : Beginning) (w : List ℕ) (ws : List (List ℕ)) (rest : List ℕ)
      → AllByRecursion IsPlain (w ∷ ws) → next_of b (w ∷ ws) ≡ Ok c
      → read_rest n b (line_of (w ∷ ws) ++ rest) ≡ read_rest (n + 1) c rest
  line_passes n b c w ws rest plain next =
      let q = parts_some rest in
      let first = spaced (w ∷ ws) in
      let parts : slice_split is_line_feed (line first ++ rest) ≡ first ∷ q.0 ∷ q.1 =
      laws.line_laws.parts first rest (laws.word_laws.plain w ws plain)
      ∙ ap (λ (ls : List (List ℕ)). first ∷ ls) q.2 in
      let fine : next_of b (words first) ≡ Ok c = ap (next_of b) (laws.word_laws.found w ws plain) ∙ next in
      ap (read_parts n b) parts ∙ ap (λ (r : Result Beginning FaultCode). then n r (λ d. read_from (n + 1) d q.0 q.1))
      fine ∙ sym (ap (read_parts (n + 1) c) q.2)

  pub stops : (n : ℕ) (b : Beginning) (rest : List ℕ) (code : FaultCode) → fault_of b rest ≡ Some code
      → read_rest n b rest ≡ Err (n, code)
  stops n b rest code e =
      elim (chosen (list_any is_line_feed rest) (fault_in (next_of b (words (before_first is_line_feed rest)))) _
      (Some code) e) [
        | inl ended ↦
            let q = parts_some (after_first is_line_feed rest) in
            let parts : slice_split is_line_feed rest ≡ before_first is_line_feed rest ∷ q.0 ∷ q.1 =
            laws.line_laws.cut rest ended.0
            ∙ ap (λ (ls : List (List ℕ)). before_first is_line_feed rest ∷ ls) q.2 in
            ap (read_parts n b) parts ∙ refused n (next_of b (words (before_first is_line_feed rest))) _ code ended.1
        | inr last ↦
            ap (read_parts n b) (laws.line_laws.uncut rest last.0)
            ∙ elim (chosen (eqb (length rest) 0 && is_whole b) None (Some CutOff) (Some code) last.1) [
              | inl whole ↦ let never = whole.1 in absurd cc
              | inr cut ↦
                  let same : CutOff ≡ code = (let s = cut.1 in cc) in
                  cut_at_end n b rest cut.0 ∙ ap (λ (x : FaultCode). Err (n, x)) same
            ]
      ]

  one_line : (w : List ℕ) (ws : List (List ℕ)) → AllByRecursion IsPlain (w ∷ ws) → line_count (line_of (w ∷ ws)) ≡ 1
  one_line w ws plain = laws.line_laws.counted (spaced (w ∷ ws)) (laws.word_laws.plain w ws plain)

  one_of_steps : (thread times : ℕ) (c : Choice) → AllByRecursion IsPlain (words_of thread times c)
      → line_count (line_of (words_of thread times c)) ≡ 1
  one_of_steps thread times choices.Ok plain = one_line (codes "step") (step_operands thread (codes "ok") times) plain
  one_of_steps thread times choices.Fault plain =
      one_line (codes "step") (step_operands thread (codes "fault") times) plain
  one_of_steps thread times (choices.Claim row) plain = one_line (codes "claim") (claim_operands thread row) plain
  one_of_steps thread times choices.Stop plain = one_line (codes "stop") (stop_operands thread) plain

  steps_line_passes : (n : ℕ) (b c : Beginning) (thread times : ℕ) (choice : Choice) (rest : List ℕ)
      → AllByRecursion IsPlain (words_of thread times choice) → next_of b (words_of thread times choice) ≡ Ok c
      → read_rest n b (line_of (words_of thread times choice) ++ rest) ≡ read_rest (n + 1) c rest
  steps_line_passes n b c thread times choices.Ok rest plain next =
      line_passes n b c (codes "step") (step_operands thread (codes "ok") times) rest plain next
  steps_line_passes n b c thread times choices.Fault rest plain next =
      line_passes n b c (codes "step") (step_operands thread (codes "fault") times) rest plain next
  steps_line_passes n b c thread times (choices.Claim row) rest plain next =
      line_passes n b c (codes "claim") (claim_operands thread row) rest plain next
  steps_line_passes n b c thread times choices.Stop rest plain next =
      line_passes n b c (codes "stop") (stop_operands thread) rest plain next

  calls_pass : (n workers rows : ℕ) (front calls : List PlannedCall) (rest : List ℕ) → workers ≤ worker_limit
      → AllByRecursion IsPlannedCall calls → length front + length calls ≤ workers
      → read_rest n (Planned (plan workers rows front [])) (calls_from (length front + 1) calls ++ rest)
      ≡ read_rest (n + line_count (calls_from (length front + 1) calls))
      (Planned (plan workers rows (front ++ calls) [])) rest
  calls_pass n workers rows front [] rest few fits room = rw (append-nil front, add-zero n) refl
  calls_pass n workers rows front (call ∷ calls) rest few fits room =
      let turn = length front + 1 in
      let small : turn < 2 ^ 64 = omega arith in
      let below = calls_from (turn + 1) calls in
      let next : next_of (Planned (plan workers rows front [])) (call_words turn call)
      ≡ Ok (Planned (plan workers rows (front ++ call ∷ []) [])) =
      rw (lt-ltb (length front) workers (omega arith), call_again laws turn call small fits.0) refl in
      let longer : length (front ++ call ∷ []) ≡ turn = length-append front (call ∷ []) in
      let others = calls_pass (n + 1) workers rows (front ++ call ∷ []) calls rest few fits.1 (omega arith) in
      let plain = call_plain laws turn call small fits.0 in
      let one : line_count (line_of (call_words turn call)) ≡ 1 =
      one_line (codes "call") (call_operands turn call) plain in
      ap (read_rest n (Planned (plan workers rows front []))) (append_assoc (line_of (call_words turn call)) below rest)
      ∙ line_passes n (Planned (plan workers rows front [])) (Planned (plan workers rows (front ++ call ∷ []) []))
      (codes "call") (call_operands turn call) (below ++ rest) plain next
      ∙ (rw (longer, append_assoc front (call ∷ []) calls) at others)
      ∙ ap (λ (k : ℕ). read_rest k (Planned (plan workers rows (front ++ call ∷ calls) [])) rest)
      (omega (arith, line_count-append (line_of (call_words turn call)) below, one))

  steps_pass : (n workers rows : ℕ) (calls : List PlannedCall) (front steps : List Steps) (rest : List ℕ)
      → workers ≤ worker_limit
      → AllByRecursion (AreSteps workers) steps → (0 < length steps → workers ≤ length calls)
      → read_rest n (Planned (plan workers rows calls front)) (steps_text steps ++ rest)
      ≡ read_rest (n + line_count (steps_text steps)) (Planned (plan workers rows calls (front ++ steps))) rest
  steps_pass n workers rows calls front [] rest few fits whole = rw (append-nil front, add-zero n) refl
  steps_pass n workers rows calls front (x ∷ steps) rest few fits whole =
      let small : workers < 2 ^ 64 = omega arith in
      let all : workers ≤ length calls = whole (omega arith) in
      let below = steps_text steps in
      let next : next_of (Planned (plan workers rows calls front)) (step_words x)
      ≡ Ok (Planned (plan workers rows calls (front ++ x ∷ []))) =
      rw (le-ltb (length calls) workers all, steps_again laws workers x small fits.0) refl in
      let others = steps_pass (n + 1) workers rows calls (front ++ x ∷ []) steps rest few fits.1 (λ _. all) in
      let plain = steps_plain laws workers x small fits.0 in
      let one : line_count (line_of (step_words x)) ≡ 1 = one_of_steps x.thread x.times x.choice plain in
      ap (read_rest n (Planned (plan workers rows calls front))) (append_assoc (line_of (step_words x)) below rest)
      ∙ steps_line_passes n (Planned (plan workers rows calls front))
      (Planned (plan workers rows calls (front ++ x ∷ []))) x.thread x.times x.choice (below ++ rest) plain next
      ∙ (rw (append_assoc front (x ∷ []) steps) at others)
      ∙ ap (λ (k : ℕ). read_rest k (Planned (plan workers rows calls (front ++ x ∷ steps))) rest)
      (omega (arith, line_count-append (line_of (step_words x)) below, one))

  workers_pass : (n workers : ℕ) (rest : List ℕ) → 0 < workers → workers ≤ worker_limit
      → read_rest n Opened (workers_line workers ++ rest) ≡ read_rest (n + 1) (Staffed workers) rest
  workers_pass n workers rest some most =
      let again = size_again laws (codes "workers") worker_limit workers refl some most (omega arith) in
      line_passes n Opened (Staffed workers) (codes "workers") (decimal workers ∷ []) rest
      (size_plain laws (codes "workers") workers (refl, refl) (omega arith)) (rw again refl)

  rows_pass : (n workers rows : ℕ) (rest : List ℕ) → 0 < rows → rows ≤ row_limit
      → read_rest n (Staffed workers) (rows_line rows ++ rest)
      ≡ read_rest (n + 1) (Planned (plan workers rows [] [])) rest
  rows_pass n workers rows rest some most =
      let again = size_again laws (codes "rows") row_limit rows refl some most (omega arith) in
      line_passes n (Staffed workers) (Planned (plan workers rows [] [])) (codes "rows") (decimal rows ∷ []) rest
      (size_plain laws (codes "rows") rows (refl, refl) (omega arith)) (rw again refl)

  one_size : (name : List ℕ) (size : ℕ) → IsPlain name → size ≤ row_limit
      → line_count (line_of (size_words name size)) ≡ 1
  one_size name size plain few = one_line name (decimal size ∷ []) (size_plain laws name size plain (omega arith))

  plan_passes : (s : Schedule) (rest : List ℕ) → IsPlan s
      → reading (text s ++ rest) ≡ read_rest (line_count (text s) + 1) (Planned s) rest
  plan_passes s rest fits =
      let sizes = fits.sizes in
      let wl = workers_line s.workers in
      let rl = rows_line s.rows in
      let cl = calls_from 1 s.calls in
      let sl = steps_text s.steps in
      let few : length s.calls ≤ s.workers = fits.few in
      let most : s.workers ≤ worker_limit = sizes.most_workers in
      let w1 : line_count wl ≡ 1 = one_size (codes "workers") s.workers (refl, refl) (omega arith) in
      let r1 : line_count rl ≡ 1 = one_size (codes "rows") s.rows (refl, refl) sizes.most_rows in
      let head = first_line ++ wl ++ rl in
      let counted : (4 + line_count cl) + line_count sl ≡ line_count (text s) + 1 =
      omega (
        arith,
        line_count-append (head ++ cl) sl,
        line_count-append head cl,
        line_count-append (first_line ++ wl) rl,
        line_count-append first_line wl,
      ) in
      ap reading (regroup first_line wl rl cl sl rest)
      ∙ from_top (wl ++ (rl ++ (cl ++ (sl ++ rest))))
      ∙ workers_pass 2 s.workers (rl ++ (cl ++ (sl ++ rest))) sizes.some_workers most
      ∙ rows_pass 3 s.workers s.rows (cl ++ (sl ++ rest)) sizes.some_rows sizes.most_rows
      ∙ calls_pass 4 s.workers s.rows [] s.calls (sl ++ rest) most fits.calls (omega (arith, few))
      ∙ steps_pass (4 + line_count cl) s.workers s.rows s.calls [] s.steps rest most fits.steps
      (λ some. omega (arith, fits.in_order some))
      ∙ ap (λ (k : ℕ). read_rest k (Planned s) rest) counted

  staffed_passes : (workers : ℕ) (rest : List ℕ) → 0 < workers → workers ≤ worker_limit
      → reading ((first_line ++ workers_line workers) ++ rest)
      ≡ read_rest (line_count (first_line ++ workers_line workers) + 1) (Staffed workers) rest
  staffed_passes workers rest some most =
      let w1 : line_count (workers_line workers) ≡ 1 = one_size (codes "workers") workers (refl, refl) (omega arith) in
      let counted : 3 ≡ line_count (first_line ++ workers_line workers) + 1 =
      omega (arith, line_count-append first_line (workers_line workers)) in
      ap reading (append_assoc first_line (workers_line workers) rest) ∙ from_top (workers_line workers ++ rest)
      ∙ workers_pass 2 workers rest some most
      ∙ ap (λ (k : ℕ). read_rest k (Staffed workers) rest) counted

  -- the text above is read, and then the rest
  pub beginning_passes : (b : Beginning) (rest : List ℕ) → IsBeginning b
      → reading (beginning b ++ rest) ≡ read_rest (line_count (beginning b) + 1) b rest
  beginning_passes Opened rest fits = from_top rest
  beginning_passes (Staffed workers) rest fits = staffed_passes workers rest fits.0 fits.1
  beginning_passes (Planned s) rest fits = plan_passes s rest fits
