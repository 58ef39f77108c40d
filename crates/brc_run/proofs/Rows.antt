-- The rows of a stretch, and what one row more adds to them; the counted rows, which are in two stretches.
use Rattle.std.proofs.Common.{◌≡◌, ℕ, zero, suc, ◌+◌, ◌-◌, ◌<◌, ◌≤◌, Bool, true, false, cond, List, [], ◌∷◌, ◌++◌, length, map, inl, inr, refl, sym, ap, ◌∙◌, subst, arith}
use Rattle.std.proofs.Math.Nat.{zero-add, add-zero}
use Rattle.std.specs.Prelude.{filter, count_by}
use Rattle.std.specs.List.{range_with_len}
use Rattle.std.proofs.lemmas.List.{map-id, map-append, append-nil, append_assoc, length-append}
use Rattle.std.proofs.lemmas.List.FromFn.{map-range_with_len_more, length-range_with_len}
use Rattle.std.proofs.lemmas.List.Elements.{filter-append}
use Rattle.std.proofs.lemmas.List.Sums.{sum_by-append, length-filter, count_by-le-length}
use Rattle.brc_model.specs.declared.layout.Layout.{Layout}
use Rattle.brc_model.specs.Layout.{root_row, row_count, first_immortal_list, first_number, is_immortal_row}
use Rattle.brc_model.proofs.Basics.Blocks.{list_immortal, others_counted}
use Rattle.brc_run.specs.Tallies.{rows_between}

-- The rows from the root's on that are below this one.
abbrev pub rows_below : ℕ → List ℕ
rows_below row = rows_between root_row row

-- ---- one row more

more_rows : (a n : ℕ) → range_with_len a (n + 1) ≡ range_with_len a n ++ (a + n) ∷ []
more_rows a n =
    let each : ℕ → ℕ = λ x. x in
    sym (map-id (range_with_len a (n + 1))) ∙ map-range_with_len_more each a n (a + n) refl
    ∙ ap (λ (l : List ℕ). l ++ (a + n) ∷ []) (map-id (range_with_len a n))

rows_more : (a row : ℕ) → a ≤ row → rows_between a (row + 1) ≡ rows_between a row ++ row ∷ []
rows_more a row low =
    let next : row + 1 - a ≡ (row - a) + 1 = omega (arith, low) in
    let here : a + (row - a) ≡ row = omega (arith, low) in
    ap (range_with_len a) next ∙ more_rows a (row - a) ∙ ap (λ (n : ℕ). rows_between a row ++ n ∷ []) here

count_more : (p : ℕ → Bool) (a row : ℕ) → a ≤ row
    → count_by p (rows_between a (row + 1)) ≡ count_by p (rows_between a row) + cond (p row) 1 0
count_more p a row low =
    ap (count_by p) (rows_more a row low) ∙ sum_by-append (λ x. cond (p x) 1 0) (rows_between a row) (row ∷ [])
    ∙ ap (λ (n : ℕ). count_by p (rows_between a row) + n) (zero-add (cond (p row) 1 0))

-- A row that passes the test is one more,
pub one_more : (p : ℕ → Bool) (a row : ℕ) → a ≤ row → p row ≡ true
    → count_by p (rows_between a (row + 1)) ≡ count_by p (rows_between a row) + 1
one_more p a row low passes =
    count_more p a row low ∙ ap (λ (b : Bool). count_by p (rows_between a row) + cond b 1 0) passes

-- and one that doesn't is none.
pub none_more : (p : ℕ → Bool) (a row : ℕ) → a ≤ row → p row ≡ false
    → count_by p (rows_between a (row + 1)) ≡ count_by p (rows_between a row)
none_more p a row low passes =
    count_more p a row low ∙ ap (λ (b : Bool). count_by p (rows_between a row) + cond b 1 0) passes
    ∙ add-zero (count_by p (rows_between a row))

-- No more rows pass a test than there are.
pub few_pass : (p : ℕ → Bool) (a row : ℕ) → count_by p (rows_between a row) ≤ row - a
few_pass p a row =
    subst (λ (n : ℕ). count_by p (rows_between a row) ≤ n) (length-range_with_len a (row - a))
    (count_by-le-length p (rows_between a row))

filter_more : (p : ℕ → Bool) (a row : ℕ) → a ≤ row
    → filter p (rows_between a (row + 1)) ≡ filter p (rows_between a row) ++ cond (p row) (row ∷ []) []
filter_more p a row low = ap (filter p) (rows_more a row low) ∙ filter-append p (rows_between a row) (row ∷ [])

-- A row that passes the test is the last of those that do, behind others,
pub one_left : {X : Type 0} (p : ℕ → Bool) (f : ℕ → X) (a row : ℕ) (old before : List X) → a ≤ row → p row ≡ true
    → before ≡ old ++ map f (filter p (rows_between a row)) → (x : X) → x ≡ f row
    → before ++ x ∷ [] ≡ old ++ map f (filter p (rows_between a (row + 1)))
one_left {X} p f a row old before low passes is x x_is =
    let so_far = filter p (rows_between a row) in
    let all : filter p (rows_between a (row + 1)) ≡ so_far ++ row ∷ [] =
    filter_more p a row low ∙ ap (λ (b : Bool). so_far ++ cond b (row ∷ []) []) passes in
    ap (λ (l : List X). l ++ x ∷ []) is ∙ append_assoc old (map f so_far) (x ∷ [])
    ∙ ap (λ (l : List X). old ++ l) (ap (λ (y : X). map f so_far ++ y ∷ []) x_is ∙ sym (map-append f so_far (row ∷ []))
    ∙ ap (map f) (sym all))

-- and one that doesn't changes nothing.
pub none_left : {X : Type 0} (p : ℕ → Bool) (f : ℕ → X) (a row : ℕ) (old : List X) → a ≤ row → p row ≡ false
    → old ++ map f (filter p (rows_between a row)) ≡ old ++ map f (filter p (rows_between a (row + 1)))
none_left {X} p f a row old low passes =
    ap (λ (l : List ℕ). old ++ map f l) (sym (filter_more p a row low
    ∙ ap (λ (b : Bool). filter p (rows_between a row) ++ cond b (row ∷ []) []) passes
    ∙ append-nil (filter p (rows_between a row))))

-- ---- two stretches

joined_ranges : (a m n : ℕ) → range_with_len a (m + n) ≡ range_with_len a m ++ range_with_len (a + m) n
joined_ranges a zero n =
    let length_is : 0 + n ≡ n = omega arith in
    let here : a ≡ a + 0 = omega arith in
    ap (range_with_len a) length_is ∙ ap (λ (k : ℕ). range_with_len k n) here
joined_ranges a (suc m) n =
    let length_is : suc m + n ≡ suc (m + n) = omega arith in
    let there : (a + 1) + m ≡ a + suc m = omega arith in
    ap (range_with_len a) length_is
    ∙ ap (λ (l : List ℕ). a ∷ l) (joined_ranges (a + 1) m n
    ∙ ap (λ (k : ℕ). range_with_len (a + 1) m ++ range_with_len k n) there)

-- A stretch is that up to a row in it, and that from the row on.
split_rows : (a b c : ℕ) → a ≤ b → b ≤ c → rows_between a c ≡ rows_between a b ++ rows_between b c
split_rows a b c low high =
    let length_is : c - a ≡ (b - a) + (c - b) = omega (arith, low, high) in
    let there : a + (b - a) ≡ b = omega (arith, low) in
    ap (range_with_len a) length_is ∙ joined_ranges a (b - a) (c - b)
    ∙ ap (λ (k : ℕ). rows_between a b ++ range_with_len k (c - b)) there

same_kept : (p q : ℕ → Bool) (a n : ℕ) → ((x : ℕ) → a ≤ x → x < a + n → p x ≡ q x)
    → filter p (range_with_len a n) ≡ filter q (range_with_len a n)
same_kept p q a zero same = refl
same_kept p q a (suc n) same =
    let rest = same_kept p q (a + 1) n (λ x low high. same x (omega (arith, low)) (omega (arith, high))) in
    rw (same a (omega arith) (omega arith), rest) refl

none_kept : (p : ℕ → Bool) (a n : ℕ) → ((x : ℕ) → a ≤ x → x < a + n → p x ≡ false)
    → filter p (range_with_len a n) ≡ []
none_kept p a zero none = refl
none_kept p a (suc n) none =
    let rest = none_kept p (a + 1) n (λ x low high. none x (omega (arith, low)) (omega (arith, high))) in
    rw (none a (omega arith) (omega arith), rest) refl

-- A test that no immortal row passes, and any other row if it passes a second test.
module _ (layout : Layout) (p q : ℕ → Bool)
    (immortal : (x : ℕ) → is_immortal_row layout x ≡ true → p x ≡ false)
    (counted : (x : ℕ) → is_immortal_row layout x ≡ false → p x ≡ q x) where
  abbrev lists : ℕ
  lists = first_immortal_list layout

  abbrev numbers : ℕ
  numbers = first_number layout

  abbrev all : ℕ
  all = row_count layout

  -- The rows that pass it are those in front of the immortal lists, and those behind, that pass the second.
  pub kept_in_two : filter p (rows_below all) ≡ filter q (rows_below lists) ++ filter q (rows_between numbers all)
  kept_in_two =
      let split =
      split_rows root_row lists all (omega arith) (omega arith)
      ∙ ap (λ (l : List ℕ). rows_below lists ++ l) (split_rows lists numbers all (omega arith) (omega arith)) in
      let front = same_kept p q root_row (lists - root_row) (λ x low high.
      counted x (others_counted layout x (omega (arith, low)) (inl (omega (arith, high))))) in
      let between = none_kept p lists (numbers - lists) (λ x low high.
      immortal x (list_immortal layout x low (omega (arith, high)))) in
      let rear = same_kept p q numbers (all - numbers) (λ x low high.
      counted x (others_counted layout x (omega (arith, low)) (inr low))) in
      ap (filter p) split
      ∙ filter-append p (rows_below lists) (rows_between lists numbers ++ rows_between numbers all)
      ∙ ap (λ (l : List ℕ). filter p (rows_below lists) ++ l)
      (filter-append p (rows_between lists numbers) (rows_between numbers all))
      ∙ rw (front, between, rear) refl

  pub count_in_two : count_by p (rows_below all)
      ≡ count_by q (rows_below lists) + count_by q (rows_between numbers all)
  count_in_two =
      let whole = length-filter p (rows_below all) in
      let front = length-filter q (rows_below lists) in
      let rear = length-filter q (rows_between numbers all) in
      let both = ap length kept_in_two
      ∙ length-append (filter q (rows_below lists)) (filter q (rows_between numbers all)) in
      omega (arith, whole, front, rear, both)
