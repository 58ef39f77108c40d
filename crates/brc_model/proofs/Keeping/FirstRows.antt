-- The rows that are there from the start: where they are, and what their lines say of their words.
use Rattle.std.proofs.Common.{◌≡◌, ◌≢◌, ◌⊎◌, ℕ, zero, suc, ◌+◌, ◌-◌, ◌*◌, ◌<◌, ◌≤◌, Bool, true, false, cond, List, [], ◌∷◌, length, get_or, inl, inr, refl, ap, ◌∙◌, arith}
use Rattle.std.specs.Prelude.{nat_lt}
use Rattle.std.specs.List.{AllByRecursion}
use Rattle.std.proofs.lemmas.Bool.{ltb-true, ltb-false}
use Rattle.std.proofs.lemmas.List.Sums.{sum_by-cons}
use Rattle.brc_word.specs.Words.{half}
use Rattle.brc_model.specs.declared.layout.Layout.{Layout}
use Rattle.brc_model.specs.Machine.{Unborn, Live}
use Rattle.brc_model.specs.Layout.{none_row, root_row, front_rows, row_count, first_immortal_list, first_number, is_immortal_row}
use Rattle.brc_model.specs.FirstRows.{line_at, value_count, value_of, IsLine, FirstRow, NoneRow, RootRow, ImmortalList, Number, UnbornRow, later_row, first_row, life_of_first, first_life}
use Rattle.brc_model.proofs.Basics.Blocks.{list_immortal, others_counted, root_counted}

-- ---- where the rows are

-- What is known of a row by what it has at the start.
abbrev pub IsAt : Layout → ℕ → FirstRow → Type 0
IsAt layout x NoneRow = x ≡ none_row
IsAt layout x RootRow = x ≡ root_row
IsAt layout x (ImmortalList s) = (s < layout.immortal_lists) × (x ≡ first_immortal_list layout + s)
IsAt layout x (Number k) = (k < layout.numbers) × (x ≡ first_number layout + k)
IsAt layout x UnbornRow = (front_rows ≤ x) × ((x < first_immortal_list layout) ⊎ (row_count layout ≤ x))

later_at : (layout : Layout) (x : ℕ) → front_rows ≤ x → IsAt layout x (later_row layout x)
later_at layout x low =
    let lists = first_immortal_list layout in
    let numbers = first_number layout in
    let all = row_count layout in
    elim (nat_lt x lists) as (λ b. nat_lt x lists ≡ b
    → IsAt layout x (cond b UnbornRow (cond (nat_lt x numbers) (ImmortalList (x - lists))
    (cond (nat_lt x all) (Number (x - numbers)) UnbornRow)))) [
      | true ↦ λ before. (low, inl (ltb-true x lists before))
      | false ↦ λ behind.
          elim (nat_lt x numbers) as (λ b. nat_lt x numbers ≡ b
          → IsAt layout x (cond b (ImmortalList (x - lists))
          (cond (nat_lt x all) (Number (x - numbers)) UnbornRow))) [
            | true ↦ λ list. (
              omega (arith, ltb-true x numbers list, ltb-false x lists behind),
              omega (arith, ltb-false x lists behind),
            )
            | false ↦ λ past.
                elim (nat_lt x all) as (λ b. nat_lt x all ≡ b
                → IsAt layout x (cond b (Number (x - numbers)) UnbornRow)) [
                  | true ↦ λ number. (
                    omega (arith, ltb-true x all number, ltb-false x numbers past),
                    omega (arith, ltb-false x numbers past),
                  )
                  | false ↦ λ beyond. (low, inr (ltb-false x all beyond))
                ] refl
          ] refl
    ] refl

pub first_at : (layout : Layout) (x : ℕ) → IsAt layout x (first_row layout x)
first_at layout zero = refl
first_at layout (suc zero) = refl
first_at layout (suc (suc x)) = later_at layout (suc (suc x)) (omega arith)

-- What holds of each row by what it has at the start.
pub by_first : (P : FirstRow → Type 0) (layout : Layout) (x : ℕ) → ((r : FirstRow) → IsAt layout x r → P r)
    → P (first_row layout x)
by_first P layout x each = each (first_row layout x) (first_at layout x)

-- ---- which rows are immortal, and which are born

-- Says whether the row is immortal.
abbrev pub is_immortal_first : FirstRow → Bool
is_immortal_first NoneRow = true
is_immortal_first RootRow = false
is_immortal_first (ImmortalList s) = true
is_immortal_first (Number k) = false
is_immortal_first UnbornRow = false

immortal_at : (layout : Layout) (x : ℕ) (r : FirstRow) → IsAt layout x r
    → is_immortal_row layout x ≡ is_immortal_first r
immortal_at layout x NoneRow at = ap (is_immortal_row layout) at
immortal_at layout x RootRow at = ap (is_immortal_row layout) at ∙ root_counted layout
immortal_at layout x (ImmortalList s) at =
    list_immortal layout x (omega (arith, at.1)) (omega (arith, at.0, at.1))
immortal_at layout x (Number k) at =
    others_counted layout x (omega (arith, at.1)) (inr (omega (arith, at.1)))
immortal_at layout x UnbornRow (low, inl before) = others_counted layout x (omega (arith, low)) (inl before)
immortal_at layout x UnbornRow (low, inr past) =
    others_counted layout x (omega (arith, low)) (inr (omega (arith, past)))

pub immortal_first : (layout : Layout) (x : ℕ) → is_immortal_row layout x ≡ is_immortal_first (first_row layout x)
immortal_first layout x = by_first (λ r. is_immortal_row layout x ≡ is_immortal_first r) layout x (immortal_at layout x)

born_at : (layout : Layout) (x : ℕ) → (x < front_rows) ⊎ (first_immortal_list layout ≤ x) → x < row_count layout
    → (r : FirstRow) → IsAt layout x r → life_of_first r ≢ Unborn
born_at layout x place low NoneRow at = λ e. let wrong : Live ≡ Unborn = e in cc
born_at layout x place low RootRow at = λ e. let wrong : Live ≡ Unborn = e in cc
born_at layout x place low (ImmortalList s) at = λ e. let wrong : Live ≡ Unborn = e in cc
born_at layout x place low (Number k) at = λ e. let wrong : Live ≡ Unborn = e in cc
born_at layout x (inl front) low UnbornRow at = absurd (omega (arith, at.0, front))
born_at layout x (inr rear) low UnbornRow (after, inl before) = absurd (omega (arith, rear, before))
born_at layout x (inr rear) low UnbornRow (after, inr past) = absurd (omega (arith, low, past))

-- All rows of main's are born, and no row of a worker's.
pub born_first : (layout : Layout) (x : ℕ) → (x < front_rows) ⊎ (first_immortal_list layout ≤ x)
    → x < row_count layout → first_life layout x ≢ Unborn
born_first layout x place low =
    by_first (λ r. life_of_first r ≢ Unborn) layout x (born_at layout x place low)

unborn_at : (layout : Layout) (x : ℕ) → front_rows ≤ x → (x < first_immortal_list layout) ⊎ (row_count layout ≤ x)
    → (r : FirstRow) → IsAt layout x r → r ≡ UnbornRow
unborn_at layout x low (inl before) NoneRow at = absurd (omega (arith, low, at))
unborn_at layout x low (inl before) RootRow at = absurd (omega (arith, low, at))
unborn_at layout x low (inl before) (ImmortalList s) at = absurd (omega (arith, before, at.1))
unborn_at layout x low (inl before) (Number k) at = absurd (omega (arith, before, at.1))
unborn_at layout x low (inl before) UnbornRow at = refl
unborn_at layout x low (inr past) NoneRow at = absurd (omega (arith, low, at))
unborn_at layout x low (inr past) RootRow at = absurd (omega (arith, low, at))
unborn_at layout x low (inr past) (ImmortalList s) at = absurd (omega (arith, past, at.0, at.1))
unborn_at layout x low (inr past) (Number k) at = absurd (omega (arith, past, at.0, at.1))
unborn_at layout x low (inr past) UnbornRow at = refl

pub unborn_first : (layout : Layout) (x : ℕ) → front_rows ≤ x
    → (x < first_immortal_list layout) ⊎ (row_count layout ≤ x) → first_row layout x ≡ UnbornRow
unborn_first layout x low place = unborn_at layout x low place (first_row layout x) (first_at layout x)

is_list : (layout : Layout) (x s : ℕ) → s < layout.immortal_lists → x ≡ first_immortal_list layout + s
    → (r : FirstRow) → IsAt layout x r → r ≡ ImmortalList s
is_list layout x s low is NoneRow at = absurd (omega (arith, is, at))
is_list layout x s low is RootRow at = absurd (omega (arith, is, at))
is_list layout x s low is (ImmortalList i) at = ap ImmortalList (omega (arith, is, at.1))
is_list layout x s low is (Number k) at = absurd (omega (arith, low, is, at.1))
is_list layout x s low is UnbornRow (after, inl before) = absurd (omega (arith, is, before))
is_list layout x s low is UnbornRow (after, inr past) = absurd (omega (arith, low, is, past))

-- The rows of the immortal lists, in order.
pub list_first : (layout : Layout) (s : ℕ) → s < layout.immortal_lists
    → first_row layout (first_immortal_list layout + s) ≡ ImmortalList s
list_first layout s low =
    let x = first_immortal_list layout + s in is_list layout x s low refl (first_row layout x) (first_at layout x)

-- ---- lines

-- A list is no longer than its line may be.
pub line_short : (most : ℕ) (lines : List (List ℕ)) (s : ℕ) → AllByRecursion (IsLine most) lines
    → length (line_at lines s) ≤ most
line_short most [] s each = omega arith
line_short most (line ∷ lines) zero each = each.0.0
line_short most (line ∷ lines) (suc s) each = line_short most lines s each.1

small_in : (line : List ℕ) (k : ℕ) → AllByRecursion (λ value. value < half) line → get_or line k 0 < half
small_in [] k each = omega arith
small_in (value ∷ line) zero each = each.0
small_in (value ∷ line) (suc k) each = small_in line k each.1

-- A number's value has half a word.
pub value_small : (most : ℕ) (lines : List (List ℕ)) (k : ℕ) → AllByRecursion (IsLine most) lines
    → value_of lines k < half
value_small most [] k each = omega arith
value_small most (line ∷ lines) k each =
    elim (nat_lt k (length line)) as
    (λ b. cond b (get_or line k 0) (value_of lines (k - length line)) < half) [
      | true ↦ small_in line k each.0.1
      | false ↦ value_small most lines (k - length line) each.1
    ]

-- There are at most as many values as that many lines may have.
pub few_values : (most : ℕ) (lines : List (List ℕ)) → AllByRecursion (IsLine most) lines
    → value_count lines ≤ length lines * most
few_values most [] each = omega arith
few_values most (line ∷ lines) each =
    omega (arith, sum_by-cons length line lines, few_values most lines each.1, each.0.0)
