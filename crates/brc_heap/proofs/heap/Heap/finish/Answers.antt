use Rattle.std.proofs.Common.{◌≡◌, ◌≢◌, ◌<◌, ◌≤◌, ℕ, zero, suc, ◌+◌, inl, inr, [], ◌∷◌, ◌++◌, refl, sym, ap, ◌∙◌, subst, arith}
use Rattle.std.specs.Prelude.{◌⊎◌, All}
use Rattle.std.proofs.lemmas.Bool.{cases_lt}
use Rattle.std.proofs.lemmas.List.{length-append}
use Rattle.std.proofs.lemmas.List.Elements.{All-append}
use Rattle.brc_model.specs.declared.layout.Layout.{Layout}
use Rattle.brc_table.specs.declared.view.View.{View}
use Rattle.brc_table.specs.Views.{IsJoined}
use Rattle.brc_table.specs.Joining.{RowsAreUsed}
use Rattle.brc_table.specs.Hands.{TableState}
use Rattle.brc_table.specs.Ending.{HaveEnded, EndsWith, SeesEnd, plan_at}
use Rattle.brc_heap.specs.Ends.{AllEnded}
use Rattle.brc_heap.proofs.Looks.{looked_more}
use Rattle.brc_heap.proofs.heap.Heap.finish.Goals as goal

-- The test of a word says that its thread runs or is leaving.
running_word : (word : ℕ) → (word ≡ 1) ⊎ ((word ≡ 1 → ⊥) × (word ≡ 2)) → (word ≡ 1) ⊎ (word ≡ 2)
running_word word (inl runs) = inl runs
running_word word (inr (other, leaves)) = inr leaves

-- The word of a thread that is gone says neither.
not_running : (word : ℕ) → word ≡ 3 → (word ≡ 1) ⊎ ((word ≡ 1 → ⊥) × (word ≡ 2)) → ⊥
not_running word three (inl runs) = absurd (omega (arith, three, runs))
not_running word three (inr (other, leaves)) = absurd (omega (arith, three, leaves))

-- The look that finds a thread running is one more.
pub returns-then-word-eq-RUNNING-clause-running : goal.returns-then-word-eq-RUNNING-clause-running
returns-then-word-eq-RUNNING-clause-running g c =
    let kept = c.loop-thread.invariant in
    record {
      before = kept.words;
      ended = kept.ended;
      word = c.thread_peek-word.result;
      runs = running_word c.thread_peek-word.result c.then-word-eq-RUNNING.either;
      apart = λ joined.
          let same = subst (λ (k : ℕ). IsJoined k c.args.main.view) kept.each joined in
          let three : c.thread_peek-word.result ≡ 3 =
          c.thread_peek-word.ensures.joined
          (subst (λ (v : View). IsJoined c.loop-thread.thread v) (sym kept.looked) same) in
          not_running c.thread_peek-word.result three c.then-word-eq-RUNNING.either;
      view_is =
          c.thread_peek-word.ensures.view
          ∙ looked_more c.args.main.view c.loop-thread.main.view kept.words c.loop-thread.thread
          c.thread_peek-word.result kept.each kept.looked;
    }

-- A word that isn't 1 or 2 is that of a thread that is gone or was never started.
ended_word : (word : ℕ) → word ≤ 3 → word ≢ 1 → word ≢ 2 → (word ≡ 0) ⊎ (word ≡ 3)
ended_word zero low running leaving = inl refl
ended_word (suc zero) low running leaving = absurd (running refl)
ended_word (suc (suc zero)) low running leaving = absurd (leaving refl)
ended_word (suc (suc (suc word))) low running leaving = inr (omega (arith, low))

-- A list of one word has ended if that word has.
ended_one : (word : ℕ) → (word ≡ 0) ⊎ (word ≡ 3) → AllEnded (word ∷ [])
ended_one word is zero d low = is
ended_one word is (suc k) d low = absurd (omega (arith, low))

-- What is so of all threads below one, and of that one, is so of all below the next.
below_next : (P : ℕ → Type 0) (n : ℕ) → ((t : ℕ) → t < n → P t) → P n → (t : ℕ) → t < n + 1 → P t
below_next P n below here t low = elim (cases_lt t n) [
  | inl less ↦ below t less
  | inr most ↦ subst P (omega (arith, low, most)) here
]

pub loop-thread-preserved : goal.loop-thread-preserved
loop-thread-preserved g c =
    let kept = c.loop-thread.invariant in
    let peek = c.thread_peek-word.ensures in
    let word = c.thread_peek-word.result in
    let is : (word ≡ 0) ⊎ (word ≡ 3) =
    ended_word word peek.says c.if-word-eq-RUNNING.false c.if-word-eq-LEAVING.false in
    record {
      of = (peek.kept.table ∙ kept.of.0, ap (λ (v : View). v.layout) peek.view ∙ kept.of.1);
      heap = kept.heap;
      main = ap (λ (v : View). v.thread) peek.view ∙ kept.main;
      workers = kept.workers;
      few = kept.few;
      most = omega (arith, c.loop-thread-test.true);
      seen =
          below_next (SeesEnd c.thread_peek-word.new.hand.view) c.loop-thread.thread
          (λ t low. peek.keeps t (kept.seen t low)) (peek.sees kept.main is);
      carried = peek.kept.carried ∙ kept.carried;
      fields = peek.kept.fields ∙ kept.fields;
      words = kept.words ++ word ∷ [];
      each = length-append kept.words (word ∷ []) ∙ omega (arith, kept.each);
      ended = All-append (λ (w : ℕ). (w ≡ 0) ⊎ (w ≡ 3)) kept.words (word ∷ []) kept.ended (ended_one word is);
      looked =
          peek.view
          ∙ looked_more c.args.main.view c.loop-thread.main.view kept.words c.loop-thread.thread word kept.each
          kept.looked;
    }

-- Main's hand has seen the end of each thread, and the table was closed with it.
pub returns-clause-ended : goal.returns-clause-ended
returns-clause-ended g c =
    let end = c.close.result.state in
    let ends = c.close.ensures.ends in
    let kept = c.loop-thread.invariant in
    let workers : end.layout.workers ≡ c.workers-workers.result =
    omega (
      arith,
      ap (λ (l : Layout). l.workers) c.close.ensures.layout,
      ap (λ (w : TableState). w.layout.workers) c.self-2.view_is,
      kept.workers,
    ) in
    let ended : HaveEnded end.layout end.words =
    c.seen_ends_are_so.ensures c.loop-thread.main.view end ends kept.main
    (λ t low. kept.seen t (omega (arith, low, workers, c.loop-thread-test.false))) in
    record {
      threads = ended;
      rows = λ x counted there.
          c.rows_end_in_every_table.ensures (plan_at end) end.words ends.views x ends.stands ended counted there;
      fields = λ x counted there.
          c.fields_end_in_every_table.ensures c.loop-thread.main.view end x ends ended counted there;
      first = λ x some there. c.first_kinds_stay.ensures c.loop-thread.main.view end x ends some there;
    }

pub returns-clause-closed : goal.returns-clause-closed
returns-clause-closed g c =
    let kept = c.loop-thread.invariant in
    record {
      words = kept.words;
      each =
          omega (
            arith,
            kept.each,
            kept.most,
            c.loop-thread-test.false,
            kept.workers,
            ap (λ (l : Layout). l.workers) c.close.ensures.layout,
            ap (λ (w : TableState). w.layout.workers) c.self-2.view_is,
          );
      ended = kept.ended;
      ends = subst (λ (v : View). EndsWith v c.close.result.state) kept.looked c.close.ensures.ends;
    }

-- The rule tells the rows of joined hands, and main's hand has joined none on the way.
pub returns-clause-joined : goal.returns-clause-joined
returns-clause-joined g c =
    let end = c.close.result.state in
    let ends = c.close.ensures.ends in
    let kept = c.loop-thread.invariant in
    subst (λ (v : View). All (RowsAreUsed end.layout end.words) v.joined) kept.looked
    (c.joined_hands_are_gone.ensures.used (plan_at end) end.words ends.views ends.id c.loop-thread.main.view ends.stands
    ends.here)
