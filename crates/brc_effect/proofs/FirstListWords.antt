-- Once all lines are immortal lists, the words of rows and cells are the model's first words.
use Rattle.std.proofs.Common.{◌≡◌, ◌≢◌, ◌⊎◌, ℕ, zero, suc, ◌+◌, ◌*◌, ◌<◌, ◌≤◌, Bool, true, false, cond, List, length, get_or, inl, inr, refl, sym, ap, ◌∙◌, arith}
use Rattle.std.specs.Prelude.{nat_lt, ◌==◌}
use Rattle.std.proofs.Math.Path.{fun_ext}
use Rattle.std.proofs.lemmas.Bool.{eq-eqb, ne_eqb, lt-ltb, le-ltb}
use Rattle.std.proofs.lemmas.Bool.Decides.{eqb_tells, leb_tells}
use Rattle.brc_word.specs.declared.values.TheConstants.{EMPTY, NONE, NUM, LIST}
use Rattle.brc_word.specs.Words.{half, immortal_local, local_word}
use Rattle.brc_model.specs.declared.address.Address.{Address}
use Rattle.brc_model.specs.declared.address.Address.TheVariants.{Local, Shared, Gate, KindOf, Marks, Cell, Field, Resource, ThreadWord}
use Rattle.brc_model.specs.declared.layout.Layout.{Layout}
use Rattle.brc_model.specs.FirstRows.{HasLines, FirstRow, NoneRow, RootRow, ImmortalList, Number, UnbornRow, line_at, start, value_of, first_row, local_of_first, kind_word_of_first, cell_of_first}
use Rattle.brc_model.specs.Layout.{by_row, first_immortal_list, first_number}
use Rattle.brc_model.specs.Limits.{root_cells}
use Rattle.brc_model.specs.Machine.{same_address, written}
use Rattle.brc_model.proofs.Basics.Written.{written_apart}
use Rattle.brc_model.proofs.Keeping.FirstRows.{IsAt, by_first}
use Rattle.brc_effect.specs.FirstLists.{with_numbers, with_lists}
use Rattle.brc_effect.proofs.FirstLists.{placed, start_next, start_all, start_low}

-- ---- words by row

-- a word of each row, once n rows, of which the first has this number, have their values
abbrev rows_with : (ℕ → ℕ) → ℕ → (ℕ → ℕ) → ℕ → ℕ → ℕ
rows_with base first value zero x = base x
rows_with base first value (suc n) x = cond (first + n == x) (value n) (rows_with base first value n x)

rows_on : (base : ℕ → ℕ) (first : ℕ) (value : ℕ → ℕ) (n i : ℕ) → i < n
    → rows_with base first value n (first + i) ≡ value i
rows_on base first value zero i low = absurd (omega (arith, low))
rows_on base first value (suc n) i low =
    elim (eqb_tells (first + n) (first + i)) [
      | inl here ↦ let same : n ≡ i = omega (arith, here.1) in rw here.0 (ap value same)
      | inr apart ↦ rw apart.0 (rows_on base first value n i (omega (arith, low, apart.1)))
    ]

rows_off : (base : ℕ → ℕ) (first : ℕ) (value : ℕ → ℕ) (n x : ℕ) → (x < first) ⊎ (first + n ≤ x)
    → rows_with base first value n x ≡ base x
rows_off base first value zero x place = refl
rows_off base first value (suc n) x (inl before) =
    rw (ne_eqb (first + n) x (λ e. absurd (omega (arith, e, before)))) (rows_off base first value n x (inl before))
rows_off base first value (suc n) x (inr past) =
    rw (ne_eqb (first + n) x (λ e. absurd (omega (arith, e, past))))
    (rows_off base first value n x (inr (omega (arith, past))))

-- ---- addresses

-- No list and no number has its word here.
pub record IsOther (b : Address) : Type 0 where
  pub local : (x : ℕ) → same_address (Local x) b ≡ false
  pub kind : (x : ℕ) → same_address (KindOf x) b ≡ false
  pub cell : (x i : ℕ) → same_address (Cell x i) b ≡ false

pub shared_other : (x : ℕ) → IsOther (Shared x)
shared_other x = record { local = λ y. refl; kind = λ y. refl; cell = λ y i. refl }

pub gate_other : (x : ℕ) → IsOther (Gate x)
gate_other x = record { local = λ y. refl; kind = λ y. refl; cell = λ y i. refl }

pub marks_other : (t w : ℕ) → IsOther (Marks t w)
marks_other t w = record { local = λ y. refl; kind = λ y. refl; cell = λ y i. refl }

pub field_other : (x : ℕ) → IsOther (Field x)
field_other x = record { local = λ y. refl; kind = λ y. refl; cell = λ y i. refl }

pub resource_other : (x : ℕ) → IsOther (Resource x)
resource_other x = record { local = λ y. refl; kind = λ y. refl; cell = λ y i. refl }

pub thread_other : (t : ℕ) → IsOther (ThreadWord t)
thread_other t = record { local = λ y. refl; kind = λ y. refl; cell = λ y i. refl }

-- Rows behind none's and the root's have a word of their own.
further : (none root x : ℕ) → 2 ≤ x → by_row none root 0 x ≡ 0
further none root zero low = absurd (omega (arith, low))
further none root (suc zero) low = absurd (omega (arith, low))
further none root (suc (suc x)) low = refl

-- Whether an index is below a number doesn't change with another index that is counted.
same_below : (n i : ℕ) → n ≢ i → nat_lt i n ≡ nat_lt i (suc n)
same_below n i apart =
    elim (leb_tells (suc i) n) [
      | inl low ↦ low.0 ∙ sym (lt-ltb i (suc n) (omega (arith, low.1)))
      | inr past ↦ past.0 ∙ sym (le-ltb i (suc n) (omega (arith, past.1, apart)))
    ]

module _ (lines : List (List ℕ)) (layout : Layout) (has : HasLines lines layout) where
  -- a word of each row, once s of the lists and their numbers have their values
  abbrev lists_with : (ℕ → ℕ) → (ℕ → ℕ) → (ℕ → ℕ → ℕ) → ℕ → ℕ → ℕ
  lists_with base of_list of_number zero x = base x
  lists_with base of_list of_number (suc s) x =
      rows_with (λ y. cond (first_immortal_list layout + s == y) (of_list s) (lists_with base of_list of_number s y))
      (first_number layout + start lines s) (of_number s) (length (line_at lines s)) x

  -- A list has its value.
  lists_on : (base of_list : ℕ → ℕ) (of_number : ℕ → ℕ → ℕ) (s j : ℕ) → s ≤ length lines → j < s
      → lists_with base of_list of_number s (first_immortal_list layout + j) ≡ of_list j
  lists_on base of_list of_number zero j few low = absurd (omega (arith, low))
  lists_on base of_list of_number (suc s) j few low =
      let x = first_immortal_list layout + j in
      rows_off _ (first_number layout + start lines s) (of_number s) (length (line_at lines s)) x
      (inl (omega (arith, few, low, has.lists)))
      ∙ elim (eqb_tells (first_immortal_list layout + s) x) [
        | inl here ↦ let same : s ≡ j = omega (arith, here.1) in rw here.0 (ap of_list same)
        | inr apart ↦
            rw apart.0
            (lists_on base of_list of_number s j (omega (arith, few)) (omega (arith, low, apart.1)))
      ]

  -- A number has its value.
  numbers_on : (base of_list : ℕ → ℕ) (of_number : ℕ → ℕ → ℕ) (s j i : ℕ) → s ≤ length lines → j < s
      → i < length (line_at lines j)
      → lists_with base of_list of_number s (first_number layout + start lines j + i) ≡ of_number j i
  numbers_on base of_list of_number zero j i few low inside = absurd (omega (arith, low))
  numbers_on base of_list of_number (suc s) j i few low inside =
      let x = first_number layout + start lines j + i in
      elim (eqb_tells s j) [
        | inl here ↦
            rw here.1
            (rows_on _ (first_number layout + start lines j) (of_number j) (length (line_at lines j)) i inside)
        | inr apart ↦
            let before : j < s = omega (arith, low, apart.1) in
            rows_off _ (first_number layout + start lines s) (of_number s) (length (line_at lines s)) x
            (inl (omega (arith, inside, start_low lines s j before)))
            ∙ rw (ne_eqb (first_immortal_list layout + s) x (λ e. absurd (omega (arith, e, few, has.lists))))
            (numbers_on base of_list of_number s j i (omega (arith, few)) before inside)
      ]

  -- Another row keeps its word.
  others_off : (base of_list : ℕ → ℕ) (of_number : ℕ → ℕ → ℕ) (s x : ℕ) → s ≤ length lines
      → (x < first_immortal_list layout) ⊎ (first_number layout + start lines s ≤ x)
      → lists_with base of_list of_number s x ≡ base x
  others_off base of_list of_number zero x few place = refl
  others_off base of_list of_number (suc s) x few (inl before) =
      rows_off _ (first_number layout + start lines s) (of_number s) (length (line_at lines s)) x
      (inl (omega (arith, before)))
      ∙ rw (ne_eqb (first_immortal_list layout + s) x (λ e. absurd (omega (arith, e, before))))
      (others_off base of_list of_number s x (omega (arith, few)) (inl before))
  others_off base of_list of_number (suc s) x few (inr past) =
      rows_off _ (first_number layout + start lines s) (of_number s) (length (line_at lines s)) x
      (inr (omega (arith, past, start_next lines s)))
      ∙ rw (ne_eqb (first_immortal_list layout + s) x (λ e. absurd (omega (arith, e, past, few, has.lists))))
      (others_off base of_list of_number s x (omega (arith, few)) (inr (omega (arith, past, start_next lines s))))

  -- All rows, by what they have at the start.
  abbrev of_first : (ℕ → ℕ) → (ℕ → ℕ) → (ℕ → ℕ) → ℕ → FirstRow → ℕ
  of_first base of_list of_value x NoneRow = base 0
  of_first base of_list of_value x RootRow = base 1
  of_first base of_list of_value x (ImmortalList s) = of_list s
  of_first base of_list of_value x (Number k) = of_value (value_of lines k)
  of_first base of_list of_value x UnbornRow = base x

  row_is : (base of_list of_value : ℕ → ℕ) (x : ℕ) (r : FirstRow) → IsAt layout x r
      → lists_with base of_list (λ j i. of_value (get_or (line_at lines j) i 0)) (length lines) x
      ≡ of_first base of_list of_value x r
  row_is base of_list of_value x NoneRow at =
      others_off base of_list _ (length lines) x (omega arith) (inl (omega (arith, at))) ∙ ap base at
  row_is base of_list of_value x RootRow at =
      others_off base of_list _ (length lines) x (omega arith) (inl (omega (arith, at))) ∙ ap base at
  row_is base of_list of_value x (ImmortalList s) at =
      rw at.1 (lists_on base of_list _ (length lines) s (omega arith) (omega (arith, at.0, has.lists)))
  row_is base of_list of_value x (Number k) at =
      let p = placed lines k (omega (arith, at.0, has.numbers)) in
      let place : x ≡ first_number layout + start lines p.line + p.cell = omega (arith, at.1, p.is) in
      rw place
      (numbers_on base of_list _ (length lines) p.line p.cell (omega arith) p.low_line p.low_cell
      ∙ ap of_value (sym p.value))
  row_is base of_list of_value x UnbornRow (after, inl before) =
      others_off base of_list _ (length lines) x (omega arith) (inl before)
  row_is base of_list of_value x UnbornRow (after, inr past) =
      others_off base of_list _ (length lines) x (omega arith)
      (inr (omega (arith, past, start_all lines, has.numbers, has.lists)))

  -- ---- the words of lists

  local_numbers : (memory : Address → ℕ) (list first : ℕ) (line : List ℕ) (n x : ℕ)
      → with_numbers memory list first line n (Local x)
      ≡ rows_with (λ y. memory (Local y)) first (λ i. local_word 0 1) n x
  local_numbers memory list first line zero x = refl
  local_numbers memory list first line (suc n) x =
      ap (λ (w : ℕ). cond (first + n == x) (local_word 0 1) w) (local_numbers memory list first line n x)

  kind_numbers : (memory : Address → ℕ) (list first : ℕ) (line : List ℕ) (n x : ℕ)
      → with_numbers memory list first line n (KindOf x)
      ≡ rows_with (λ y. memory (KindOf y)) first (λ i. NUM * half + get_or line i 0) n x
  kind_numbers memory list first line zero x = refl
  kind_numbers memory list first line (suc n) x =
      ap (λ (w : ℕ). cond (first + n == x) (NUM * half + get_or line n 0) w)
      (kind_numbers memory list first line n x)

  same_base : (one other : ℕ → ℕ) (first : ℕ) (value : ℕ → ℕ) (n x : ℕ) → ((y : ℕ) → one y ≡ other y)
      → rows_with one first value n x ≡ rows_with other first value n x
  same_base one other first value n x same = ap (λ (base : ℕ → ℕ). rows_with base first value n x) (fun_ext same)

  local_lists : (memory : Address → ℕ) (s x : ℕ)
      → with_lists memory lines layout s (Local x)
      ≡ lists_with (λ y. memory (Local y)) (λ j. local_word 0 immortal_local) (λ j i. local_word 0 1) s x
  local_lists memory zero x = refl
  local_lists memory (suc s) x =
      local_numbers _ (first_immortal_list layout + s) (first_number layout + start lines s) (line_at lines s)
      (length (line_at lines s)) x
      ∙ same_base _ _ (first_number layout + start lines s) (λ i. local_word 0 1) (length (line_at lines s)) x
      (λ y. ap (λ (w : ℕ). cond (first_immortal_list layout + s == y) (local_word 0 immortal_local) w)
      (local_lists memory s y))

  kind_lists : (memory : Address → ℕ) (s x : ℕ)
      → with_lists memory lines layout s (KindOf x)
      ≡ lists_with (λ y. memory (KindOf y)) (λ j. LIST * half + length (line_at lines j))
      (λ j i. NUM * half + get_or (line_at lines j) i 0) s x
  kind_lists memory zero x = refl
  kind_lists memory (suc s) x =
      kind_numbers _ (first_immortal_list layout + s) (first_number layout + start lines s) (line_at lines s)
      (length (line_at lines s)) x
      ∙ same_base _ _ (first_number layout + start lines s) (λ i. NUM * half + get_or (line_at lines s) i 0)
      (length (line_at lines s)) x
      (λ y. ap (λ (w : ℕ). cond (first_immortal_list layout + s == y) (LIST * half + length (line_at lines s)) w)
      (kind_lists memory s y))

  -- ---- the cells of lists

  cell_on : (memory : Address → ℕ) (list first : ℕ) (line : List ℕ) (n i : ℕ)
      → with_numbers memory list first line n (Cell list i) ≡ cond (nat_lt i n) (first + i + 1) (memory (Cell list i))
  cell_on memory list first line zero i =
      ap (λ (b : Bool). cond b (first + i + 1) (memory (Cell list i))) (sym (le-ltb i 0 (omega arith)))
  cell_on memory list first line (suc n) i =
      rw (eq-eqb list list refl)
      (elim (eqb_tells n i) [
        | inl here ↦
            let low : nat_lt i (suc n) ≡ true = lt-ltb i (suc n) (omega (arith, here.1)) in
            let same : n ≡ i = here.1 in
            rw (here.0, low) (ap (λ (j : ℕ). first + j + 1) same)
        | inr apart ↦
            rw apart.0
            (cell_on memory list first line n i
            ∙ ap (λ (b : Bool). cond b (first + i + 1) (memory (Cell list i))) (same_below n i apart.1))
      ])

  cell_off : (memory : Address → ℕ) (list first : ℕ) (line : List ℕ) (n x i : ℕ) → list ≢ x
      → with_numbers memory list first line n (Cell x i) ≡ memory (Cell x i)
  cell_off memory list first line zero x i apart = refl
  cell_off memory list first line (suc n) x i apart =
      rw (ne_eqb list x apart) (cell_off memory list first line n x i apart)

  -- Another row keeps the words of its cells.
  cells_off : (memory : Address → ℕ) (s x i : ℕ)
      → (x < first_immortal_list layout) ⊎ (first_immortal_list layout + s ≤ x)
      → with_lists memory lines layout s (Cell x i) ≡ memory (Cell x i)
  cells_off memory zero x i place = refl
  cells_off memory (suc s) x i (inl before) =
      cell_off _ (first_immortal_list layout + s) (first_number layout + start lines s) (line_at lines s)
      (length (line_at lines s)) x i (λ e. absurd (omega (arith, e, before)))
      ∙ cells_off memory s x i (inl before)
  cells_off memory (suc s) x i (inr past) =
      cell_off _ (first_immortal_list layout + s) (first_number layout + start lines s) (line_at lines s)
      (length (line_at lines s)) x i (λ e. absurd (omega (arith, e, past)))
      ∙ cells_off memory s x i (inr (omega (arith, past)))

  cells_on : (memory : Address → ℕ) (s j i : ℕ) → j < s
      → with_lists memory lines layout s (Cell (first_immortal_list layout + j) i)
      ≡ cond (nat_lt i (length (line_at lines j))) (first_number layout + start lines j + i + 1)
      (memory (Cell (first_immortal_list layout + j) i))
  cells_on memory zero j i low = absurd (omega (arith, low))
  cells_on memory (suc s) j i low =
      elim (eqb_tells s j) [
        | inl here ↦
            rw here.1
            (cell_on _ (first_immortal_list layout + j) (first_number layout + start lines j) (line_at lines j)
            (length (line_at lines j)) i
            ∙ ap (λ (w : ℕ). cond (nat_lt i (length (line_at lines j))) (first_number layout + start lines j + i + 1) w)
            (cells_off memory j (first_immortal_list layout + j) i (inr (omega arith))))
        | inr apart ↦
            cell_off _ (first_immortal_list layout + s) (first_number layout + start lines s) (line_at lines s)
            (length (line_at lines s)) (first_immortal_list layout + j) i (λ e. apart.1 (omega (arith, e)))
            ∙ cells_on memory s j i (omega (arith, low, apart.1))
      ]

  -- ---- the other words

  others_numbers : (memory : Address → ℕ) (list first : ℕ) (line : List ℕ) (n : ℕ) (b : Address) → IsOther b
      → with_numbers memory list first line n b ≡ memory b
  others_numbers memory list first line zero b other = refl
  others_numbers memory list first line (suc n) b other =
      let before = with_numbers memory list first line n in
      let owned = written before (Local (first + n)) (local_word 0 1) in
      let named = written owned (KindOf (first + n)) (NUM * half + get_or line n 0) in
      written_apart named (Cell list n) b (first + n + 1) (other.cell list n)
      ∙ written_apart owned (KindOf (first + n)) b (NUM * half + get_or line n 0) (other.kind (first + n))
      ∙ written_apart before (Local (first + n)) b (local_word 0 1) (other.local (first + n))
      ∙ others_numbers memory list first line n b other

  -- Words that no list and no number has are as without lists.
  pub others_lists : (memory : Address → ℕ) (s : ℕ) (b : Address) → IsOther b
      → with_lists memory lines layout s b ≡ memory b
  others_lists memory zero b other = refl
  others_lists memory (suc s) b other =
      let list = first_immortal_list layout + s in
      let before = with_lists memory lines layout s in
      let immortal = written before (Local list) (local_word 0 immortal_local) in
      let named = written immortal (KindOf list) (LIST * half + length (line_at lines s)) in
      others_numbers named list (first_number layout + start lines s) (line_at lines s) (length (line_at lines s)) b
      other
      ∙ written_apart immortal (KindOf list) b (LIST * half + length (line_at lines s)) (other.kind list)
      ∙ written_apart before (Local list) b (local_word 0 immortal_local) (other.local list)
      ∙ others_lists memory s b other

-- ---- all words

-- The rows and cells of the memory have the first words of a table without immortal lists, whose root has this many
-- references: only none and the root are born, and all cells are empty.
pub record IsPlain (memory : Address → ℕ) (callers : ℕ) : Type 0 where
  pub local : (x : ℕ) → memory (Local x) ≡ by_row (local_word 0 immortal_local) (local_word 0 callers) 0 x
  pub kind : (x : ℕ) → memory (KindOf x) ≡ by_row (NONE * half) (LIST * half + root_cells) 0 x
  pub cell : (x i : ℕ) → memory (Cell x i) ≡ EMPTY

module _ (lines : List (List ℕ)) (layout : Layout) (has : HasLines lines layout) (memory : Address → ℕ) (callers : ℕ)
    (plain : IsPlain memory callers) where
  abbrev all_with : Address → ℕ
  all_with = with_lists memory lines layout (length lines)

  local_at : (x : ℕ) (r : FirstRow) → IsAt layout x r
      → of_first lines layout has (λ y. memory (Local y)) (λ j. local_word 0 immortal_local) (λ v. local_word 0 1) x r
      ≡ local_of_first callers r
  local_at x NoneRow at = plain.local 0
  local_at x RootRow at = plain.local 1
  local_at x (ImmortalList s) at = refl
  local_at x (Number k) at = refl
  local_at x UnbornRow at = plain.local x ∙ further (local_word 0 immortal_local) (local_word 0 callers) x at.0

  -- The local words.
  pub locals_are : (x : ℕ) → all_with (Local x) ≡ local_of_first callers (first_row layout x)
  locals_are x =
      by_first (λ r. all_with (Local x) ≡ local_of_first callers r) layout x
      (λ r at. local_lists lines layout has memory (length lines) x
      ∙ row_is lines layout has (λ y. memory (Local y)) (λ j. local_word 0 immortal_local) (λ v. local_word 0 1) x r at
      ∙ local_at x r at)

  kind_at : (x : ℕ) (r : FirstRow) → IsAt layout x r
      → of_first lines layout has (λ y. memory (KindOf y)) (λ j. LIST * half + length (line_at lines j))
      (λ v. NUM * half + v) x r
      ≡ kind_word_of_first lines r
  kind_at x NoneRow at = plain.kind 0
  kind_at x RootRow at = plain.kind 1
  kind_at x (ImmortalList s) at = refl
  kind_at x (Number k) at = refl
  kind_at x UnbornRow at = plain.kind x ∙ further (NONE * half) (LIST * half + root_cells) x at.0

  -- The kind words.
  pub kinds_are : (x : ℕ) → all_with (KindOf x) ≡ kind_word_of_first lines (first_row layout x)
  kinds_are x =
      by_first (λ r. all_with (KindOf x) ≡ kind_word_of_first lines r) layout x
      (λ r at. kind_lists lines layout has memory (length lines) x
      ∙ row_is lines layout has (λ y. memory (KindOf y)) (λ j. LIST * half + length (line_at lines j))
      (λ v. NUM * half + v) x r at
      ∙ kind_at x r at)

  -- Another row's cells are empty.
  empty_cell : (x i : ℕ) → (x < first_immortal_list layout) ⊎ (first_immortal_list layout + length lines ≤ x)
      → all_with (Cell x i) ≡ EMPTY
  empty_cell x i place = cells_off lines layout has memory (length lines) x i place ∙ plain.cell x i

  cell_at : (x i : ℕ) (r : FirstRow) → IsAt layout x r → all_with (Cell x i) ≡ cell_of_first lines layout i r
  cell_at x i NoneRow at = empty_cell x i (inl (omega (arith, at)))
  cell_at x i RootRow at = empty_cell x i (inl (omega (arith, at)))
  cell_at x i (ImmortalList s) at =
      rw at.1
      (cells_on lines layout has memory (length lines) s i (omega (arith, at.0, has.lists))
      ∙ ap (λ (w : ℕ). cond (nat_lt i (length (line_at lines s))) (first_number layout + start lines s + i + 1) w)
      (plain.cell (first_immortal_list layout + s) i))
  cell_at x i (Number k) at = empty_cell x i (inr (omega (arith, at.1, has.lists)))
  cell_at x i UnbornRow (after, inl before) = empty_cell x i (inl before)
  cell_at x i UnbornRow (after, inr past) = empty_cell x i (inr (omega (arith, past, has.lists)))

  -- The cells' words.
  pub cells_are : (x i : ℕ) → all_with (Cell x i) ≡ cell_of_first lines layout i (first_row layout x)
  cells_are x i = by_first (λ r. all_with (Cell x i) ≡ cell_of_first lines layout i r) layout x (cell_at x i)
