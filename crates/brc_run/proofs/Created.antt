-- What a run has created: the root, the numbers in the cells of the static lists, and of each worker's block as many
-- rows as the worker has used.
use Rattle.std.proofs.Common.{◌≡◌, ◌⊎◌, ℕ, zero, suc, ◌+◌, ◌-◌, ◌*◌, ◌<◌, ◌≤◌, Bool, true, false, List, [], ◌∷◌, length, take, get_or, inl, inr, refl, sym, ap, ◌∙◌, subst, arith}
use Rattle.std.proofs.Math.Nat.{mul-le-mul_right}
use Rattle.std.specs.Prelude.{◌&&◌, not, count_by, sum_by, nat_lt, All, Contains}
use Rattle.std.specs.List.{range_with_len}
use Rattle.std.proofs.lemmas.Bool.{lt-ltb}
use Rattle.std.proofs.lemmas.List.{take_all, get_or-map}
use Rattle.std.proofs.lemmas.Option.{slice_get_cases}
use Rattle.std.proofs.lemmas.List.Elements.{All-contains}
use Rattle.std.proofs.lemmas.List.Sums.{sum_by-append}
use lib.Seq.{take-suc}
use Rattle.brc_lang.specs.declared.module.Module.{Module}
use Rattle.brc_model.specs.declared.layout.Layout.{Layout}
use Rattle.brc_model.specs.FirstRows.{value_count, FirstRow, NoneRow, RootRow, ImmortalList, Number, UnbornRow, first_kind_word, kind_word_of_first}
use Rattle.brc_model.specs.Layout.{root_row, row_at, row_count, block_of, index_of, first_immortal_list, first_number, is_immortal_row}
use Rattle.brc_model.specs.StepMachine.{layout_of}
use Rattle.brc_model.proofs.Basics.Blocks.{block_at, index_at, root_counted, list_immortal, others_counted}
use Rattle.brc_model.proofs.Keeping.FirstRows.{IsAt, by_first}
use Rattle.brc_table.specs.declared.view.Joined.{Joined}
use Rattle.brc_table.specs.Hands.{HandState}
use Rattle.brc_table.specs.Ending.{EndState, kind_at}
use Rattle.brc_table.specs.Joining.{RowsAreUsed}
use Rattle.brc_heap.specs.Ends.{HasEnded, was_born}
use Rattle.brc_work.specs.Totals.{totals_of}
use Rattle.brc_work.specs.declared.ran.Ran.{Ran}
use Rattle.brc_work.specs.declared.totals.Totals.{Totals}
use Rattle.brc_run.specs.Runs.{totals_in}
use Rattle.brc_run.specs.Tallies.{is_created, created_at_end}
use Rattle.brc_run.proofs.Rows.{rows_below, one_more, none_more}

-- ---- a stretch of rows

-- Rows that all pass the test count one each,
all_pass : (p : ℕ → Bool) (a n : ℕ) → 1 ≤ a → ((i : ℕ) → i < n → p (a + i) ≡ true)
    → count_by p (rows_below (a + n)) ≡ count_by p (rows_below a) + n
all_pass p a zero low each =
    let here : a + 0 ≡ a = omega arith in
    let none : count_by p (rows_below a) ≡ count_by p (rows_below a) + 0 = omega arith in
    ap (λ (k : ℕ). count_by p (rows_below k)) here ∙ none
all_pass p a (suc n) low each =
    let next : a + suc n ≡ (a + n) + 1 = omega arith in
    let before = all_pass p a n low (λ i below. each i (omega (arith, below))) in
    let more = one_more p root_row (a + n) (omega (arith, low)) (each n (omega arith)) in
    ap (λ (k : ℕ). count_by p (rows_below k)) next ∙ omega (arith, before, more)

-- and rows that all fail it count nothing.
none_pass : (p : ℕ → Bool) (a n : ℕ) → 1 ≤ a → ((i : ℕ) → i < n → p (a + i) ≡ false)
    → count_by p (rows_below (a + n)) ≡ count_by p (rows_below a)
none_pass p a zero low each = let here : a + 0 ≡ a = omega arith in ap (λ (k : ℕ). count_by p (rows_below k)) here
none_pass p a (suc n) low each =
    let next : a + suc n ≡ (a + n) + 1 = omega arith in
    let before = none_pass p a n low (λ i below. each i (omega (arith, below))) in
    let same = none_more p root_row (a + n) (omega (arith, low)) (each n (omega arith)) in
    ap (λ (k : ℕ). count_by p (rows_below k)) next ∙ omega (arith, before, same)

-- Of n rows from a on exactly the first `used` pass.
first_pass : (p : ℕ → Bool) (a used n : ℕ) → 1 ≤ a → used ≤ n → ((i : ℕ) → i < used → p (a + i) ≡ true)
    → ((i : ℕ) → i < n → used ≤ i → p (a + i) ≡ false)
    → count_by p (rows_below (a + n)) ≡ count_by p (rows_below a) + used
first_pass p a used n low few born unborn =
    let whole : a + n ≡ (a + used) + (n - used) = omega (arith, few) in
    let rest =
    none_pass p (a + used) (n - used) (omega (arith, low)) (λ i below.
    let at : (a + used) + i ≡ a + (used + i) = omega arith in
    ap p at ∙ unborn (used + i) (omega (arith, below)) (omega arith)) in
    ap (λ (k : ℕ). count_by p (rows_below k)) whole ∙ (rest ∙ all_pass p a used low born)

-- ---- rows that are there from the start

-- Each row that is there from the start has a kind word.
some_word : (lines : List (List ℕ)) (layout : Layout) (x : ℕ) → (x ≡ root_row) ⊎ (first_number layout ≤ x)
    → x < row_count layout → (r : FirstRow) → IsAt layout x r → 0 < kind_word_of_first lines r
some_word lines layout x place low NoneRow at = omega arith
some_word lines layout x place low RootRow at = omega arith
some_word lines layout x place low (ImmortalList s) at = omega arith
some_word lines layout x place low (Number k) at = omega arith
some_word lines layout x (inl root) low UnbornRow at = absurd (omega (arith, root, at.0))
some_word lines layout x (inr rear) low UnbornRow (after, inl before) = absurd (omega (arith, rear, before))
some_word lines layout x (inr rear) low UnbornRow (after, inr past) = absurd (omega (arith, low, past))

-- The root, and the numbers in the cells of static lists, were created.
first_created : (end : EndState) → HasEnded end → (x : ℕ) → (x ≡ root_row) ⊎ (first_number end.layout ≤ x)
    → x < row_count end.layout → is_created end x ≡ true
first_created end ended x place low =
    let some : 0 < first_kind_word end.lines end.layout x =
    by_first (λ r. 0 < kind_word_of_first end.lines r) end.layout x (some_word end.lines end.layout x place low) in
    let born : was_born end x ≡ true = lt-ltb 0 (kind_at end.words x) (omega (arith, some, ended.first x some low)) in
    let counted : is_immortal_row end.layout x ≡ false = elim place [
      | inl root ↦ ap (is_immortal_row end.layout) root ∙ root_counted end.layout
      | inr rear ↦ others_counted end.layout x (omega (arith, rear)) (inr rear)
    ] in
    ap (λ (b : Bool). not b && was_born end x) counted ∙ born

-- ---- the workers' blocks

module _ (m : Module) (end : EndState) (workers rows : ℕ) (same : end.layout ≡ layout_of m workers rows)
    (ended : HasEnded end) (totals : List Totals) (one_each : length totals ≡ workers)
    (used : (k : ℕ) (d : Totals) → k < workers
    → RowsAreUsed end.layout end.words (record { thread = suc k; used = (get_or totals k d).created })) where
  abbrev layout : Layout
  layout = layout_of m workers rows

  abbrev counts : ℕ → ℕ
  counts row = count_by (is_created end) (rows_below row)

  abbrev created : Totals → ℕ
  created t = t.created

  -- A worker's row is counted.
  worker_row : (x : ℕ) → 0 < x → x < first_immortal_list layout → (b : Bool) → was_born end x ≡ b
      → is_created end x ≡ b
  worker_row x some low b is =
      let counted : is_immortal_row end.layout x ≡ false =
      ap (λ (l : Layout). is_immortal_row l x) same ∙ others_counted layout x some (inl low) in
      ap (λ (i : Bool). not i && was_born end x) counted ∙ is

  block : (k : ℕ) (d : Totals) → k < workers
      → counts (2 + k * rows + rows) ≡ counts (2 + k * rows) + (get_or totals k d).created
  block k d low =
      let t : Totals = get_or totals k d in
      let hand : Joined = record { thread = suc k; used = t.created } in
      let is = subst (λ (l : Layout). RowsAreUsed l end.words hand) same (used k d low) in
      let most : suc k * rows ≤ workers * rows = mul-le-mul_right rows low in
      let worker : (i : ℕ) → i < rows → row_at layout (suc k) i < first_immortal_list layout = λ i below. omega
      (arith, most, below) in
      let there : (i : ℕ) → i < rows → row_at layout (suc k) i < row_count layout = λ i below. omega
      (arith, worker i below) in
      let own : (i : ℕ) → i < rows → block_of layout (row_at layout (suc k) i) ≡ suc k =
      λ i below. block_at layout (suc k) i low below in
      let at : (i : ℕ) → index_of layout (suc k) (row_at layout (suc k) i) ≡ i = λ i. index_at layout (suc k) i in
      first_pass (is_created end) (2 + k * rows) t.created rows (omega arith) is.few
      (λ i below.
      let inside : i < rows = omega (arith, below, is.few) in
      worker_row (2 + k * rows + i) (omega arith) (worker i inside) true
      (lt-ltb 0 (kind_at end.words (2 + k * rows + i))
      (is.born (row_at layout (suc k) i) (there i inside) (own i inside) (omega (arith, at i, below)))))
      (λ i inside above.
      worker_row (2 + k * rows + i) (omega arith) (worker i inside) false
      (ap (nat_lt 0)
      (is.unborn (row_at layout (suc k) i) (there i inside) (own i inside) (omega (arith, at i, above)))))

  first : (x : ℕ) → (x ≡ root_row) ⊎ (first_number layout ≤ x) → x < row_count layout → is_created end x ≡ true
  first x place low =
      first_created end ended x (subst (λ (l : Layout). (x ≡ root_row) ⊎ (first_number l ≤ x)) (sym same) place)
      (subst (λ (l : Layout). x < row_count l) (sym same) low)

  blocks : (d : Totals) (k : ℕ) → k ≤ workers → counts (2 + k * rows) ≡ 1 + sum_by created (take k totals)
  blocks d zero low =
      let here : 2 + 0 * rows ≡ 1 + 1 = omega arith in
      ap counts here ∙ one_more (is_created end) root_row 1 (omega arith) (first root_row (inl refl) (omega arith))
  blocks d (suc k) low =
      let before = blocks d k (omega (arith, low)) in
      let here = block k d low in
      let next : 2 + suc k * rows ≡ 2 + k * rows + rows = omega arith in
      let sum : sum_by created (take (suc k) totals) ≡ sum_by created (take k totals) + (get_or totals k d).created =
      ap (sum_by created) (take-suc totals k d (omega (arith, low, one_each)))
      ∙ (sum_by-append created (take k totals) (get_or totals k d ∷ []) ∙ omega arith) in
      ap counts next ∙ omega (arith, before, here, sum)

  -- ---- main's rows behind them

  -- The static lists aren't counted,
  lists : counts (first_number layout) ≡ counts (first_immortal_list layout)
  lists =
      none_pass (is_created end) (first_immortal_list layout) layout.immortal_lists (omega arith) (λ i below.
      let x = first_immortal_list layout + i in
      let immortal : is_immortal_row end.layout x ≡ true =
      ap (λ (l : Layout). is_immortal_row l x) same ∙ list_immortal layout x (omega arith) (omega (arith, below)) in
      ap (λ (b : Bool). not b && was_born end x) immortal)

  -- and the numbers in their cells are.
  numbers : counts (row_count layout) ≡ counts (first_number layout) + layout.numbers
  numbers =
      let all : row_count layout ≡ first_number layout + layout.numbers = omega arith in
      ap counts all
      ∙ all_pass (is_created end) (first_number layout) layout.numbers (omega arith) (λ i below.
      first (first_number layout + i) (inr (omega arith)) (omega (arith, all, below)))

  -- The root was created, the numbers in the cells of the static lists, and what the workers have made.
  pub created_by_all : (d : Totals) → created_at_end end ≡ 1 + value_count m.statics + sum_by created totals
  created_by_all d =
      let last : row_count end.layout - root_row ≡ row_count layout - 1 =
      ap (λ (l : Layout). row_count l - root_row) same in
      let workers_made : counts (first_immortal_list layout) ≡ 1 + sum_by created totals =
      blocks d workers (omega arith)
      ∙ ap (λ (l : List Totals). 1 + sum_by created l) (take_all workers totals (omega (arith, one_each))) in
      ap (λ (n : ℕ). count_by (is_created end) (range_with_len root_row n)) last
      ∙ omega (arith, numbers, lists, workers_made)

-- What is known of each worker's rows, if main has joined its hand.
module _ (end : EndState) (joined : List Joined) (all : All (RowsAreUsed end.layout end.words) joined)
    (gone : List (HandState × Ran))
    (each : (k : ℕ) (w : HandState × Ran) → k < length gone → let hand = (get_or gone k w).0 in
    Contains joined (record { thread = hand.view.thread; used = hand.view.actor.used }))
    (numbered : (k : ℕ) (w : HandState × Ran) → k < length gone → (get_or gone k w).0.view.thread ≡ k + 1)
    (counted : (k : ℕ) (w : HandState × Ran) → k < length gone
    → (totals_of (get_or gone k w).1).created ≡ (get_or gone k w).0.view.actor.used) where
  pub used_by_all : (k : ℕ) (d : Totals) → k < length gone
      → RowsAreUsed end.layout end.words (record { thread = suc k; used = (get_or (totals_in gone) k d).created })
  used_by_all k d low = elim (slice_get_cases gone k).1 [
    | inl some ↦
        let w = some.0 in
        let hand = (get_or gone k w).0 in
        let joined_hand : Joined = record { thread = hand.view.thread; used = hand.view.actor.used } in
        let is = All-contains (RowsAreUsed end.layout end.words) joined joined_hand all (each k w low) in
        let thread : hand.view.thread ≡ suc k = omega (arith, numbered k w low) in
        let used : hand.view.actor.used ≡ (get_or (totals_in gone) k d).created =
        sym (counted k w low)
        ∙ ap (λ (t : Totals). t.created) (sym (get_or-map (λ (v : HandState × Ran). totals_of v.1) gone k w d low)) in
        subst (λ (n : ℕ). RowsAreUsed end.layout end.words (record { thread = suc k; used = n })) used
        (subst (λ (t : ℕ). RowsAreUsed end.layout end.words (record { thread = t; used = hand.view.actor.used }))
        thread is)
    | inr past ↦ absurd (omega (arith, past.0, low))
  ]
