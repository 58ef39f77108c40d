-- The references of the first machine that the cells of immortal lists hold: each cell holds the number that its word
-- names, and each number is in one cell.
use Rattle.std.proofs.Common.{◌≡◌, ◌≢◌, ◌⊎◌, ℕ, zero, suc, ◌+◌, ◌<◌, ◌≤◌, Bool, true, false, cond, List, [], ◌∷◌, ◌++◌, length, inl, inr, refl, sym, ap, ◌∙◌, subst, arith}
use Rattle.std.specs.Prelude.{◌==◌, ◌&&◌, ◌||◌, nat_lt, count_by}
use Rattle.std.proofs.lemmas.Bool.{cases_lt, eq-eqb, ne_eqb, lt-ltb, le-ltb, eqb-true}
use Rattle.std.proofs.lemmas.Bool.Decides.{eqb_tells}
use Rattle.std.proofs.lemmas.List.Sums.{sum_by-cons, sum_by-append}
use Rattle.brc_model.specs.declared.duty.Holding.{Holding}
use Rattle.brc_model.specs.AbstractState.{Reference, same, references_to, is_among}
use Rattle.brc_model.specs.References.{held, one_if, word_holds, reference_of, cell_reference}
use Rattle.brc_model.specs.FirstRows.{line_at, start, value_count, word_in_list, rows_from, line_references, list_references}
use Rattle.brc_model.proofs.Basics.Bag.{eqb_swapped, same-other_holder, held-cons, references_to-cons, one_if_low}
use Rattle.brc_model.proofs.Basics.Lists.{or_second, either_true}

-- ---- the bag in two parts

pub held-append : (r : Reference) (one other : List Reference) → held r (one ++ other) ≡ held r one + held r other
held-append r one other = sum_by-append (λ (q : Reference). cond (same r q) 1 0) one other

pub references_to-append : (x : ℕ) (one other : List Reference)
    → references_to x (one ++ other) ≡ references_to x one + references_to x other
references_to-append x one other = sum_by-append (λ (q : Reference). cond (q.object == x) 1 0) one other

-- ---- what a cell holds

other_list : (x y i j o q : ℕ) → x ≢ y → same (cell_reference x i o) (cell_reference y j q) ≡ false
other_list x y i j o q apart =
    same-other_holder (cell_reference x i o) (cell_reference y j q)
    (ap (λ (b : Bool). b && (i == j)) (ne_eqb x y apart))

other_cell : (x i j o q : ℕ) → i ≢ j → same (cell_reference x i o) (cell_reference x j q) ≡ false
other_cell x i j o q apart =
    same-other_holder (cell_reference x i o) (cell_reference x j q)
    (ap (λ (b : Bool). b && (i == j)) (eq-eqb x x refl) ∙ ne_eqb i j apart)

one_cell : (x i o q : ℕ) → same (cell_reference x i o) (cell_reference x i q) ≡ (o == q)
one_cell x i o q = rw (eq-eqb x x refl, eq-eqb i i refl) refl

-- Another list's cells hold nothing of these.
line_off : (list first n x i o : ℕ) → x ≢ list → held (cell_reference x i o) (line_references list first n) ≡ 0
line_off list first zero x i o apart = refl
line_off list first (suc n) x i o apart =
    let r = cell_reference x i o in
    let q = cell_reference list n (first + n) in
    let other : one_if (same r q) ≡ 0 = ap one_if (other_list x list i n o (first + n) apart) in
    omega (arith, held-cons r q (line_references list first n), other, line_off list first n x i o apart)

-- Cells after the line's hold nothing.
line_past : (list first n i o : ℕ) → n ≤ i → held (cell_reference list i o) (line_references list first n) ≡ 0
line_past list first zero i o past = refl
line_past list first (suc n) i o past =
    let r = cell_reference list i o in
    let q = cell_reference list n (first + n) in
    let apart : i ≢ n = λ e. absurd (omega (arith, e, past)) in
    let other : one_if (same r q) ≡ 0 = ap one_if (other_cell list i n o (first + n) apart) in
    omega (arith, held-cons r q (line_references list first n), other, line_past list first n i o (omega (arith, past)))

-- Each cell of the line holds its number.
line_on : (list first n i o : ℕ) → i < n
    → held (cell_reference list i o) (line_references list first n) ≡ one_if (first + i == o)
line_on list first zero i o low = absurd (omega (arith, low))
line_on list first (suc n) i o low =
    let r = cell_reference list i o in
    let q = cell_reference list n (first + n) in
    elim (eqb_tells i n) [
      | inl this ↦
          let here : one_if (same r q) ≡ one_if (first + i == o) =
          ap one_if (ap (λ (j : ℕ). same r (cell_reference list j (first + j))) (sym this.1)
          ∙ one_cell list i o (first + i) ∙ eqb_swapped o (first + i)) in
          let rest = line_past list first n i o (omega (arith, this.1)) in
          omega (arith, held-cons r q (line_references list first n), here, rest)
      | inr apart ↦
          let other : one_if (same r q) ≡ 0 = ap one_if (other_cell list i n o (first + n) apart.1) in
          let rest = line_on list first n i o (omega (arith, low, apart.1)) in
          omega (arith, held-cons r q (line_references list first n), other, rest)
    ]

-- Rows outside the lists hold nothing of theirs.
pub lists_off : (list first : ℕ) (lines : List (List ℕ)) (x i o : ℕ) → (x < list) ⊎ (list + length lines ≤ x)
    → held (cell_reference x i o) (list_references list first lines) ≡ 0
lists_off list first [] x i o outside = refl
lists_off list first (line ∷ lines) x i o outside =
    let r = cell_reference x i o in
    let apart : x ≢ list = elim outside as (λ c. x ≢ list) [
      | inl before ↦ λ e. absurd (omega (arith, before, e))
      | inr past ↦ λ e. absurd (omega (arith, past, e))
    ] in
    let further : (x < suc list) ⊎ (suc list + length lines ≤ x) =
    elim outside [
      | inl before ↦ inl (omega (arith, before))
      | inr past ↦ inr (omega (arith, past))
    ] in
    omega (
      arith,
      held-append r (line_references list first (length line))
          (list_references (suc list) (first + length line) lines),
      line_off list first (length line) x i o apart,
      lists_off (suc list) (first + length line) lines x i o further,
    )

names_next : (y o : ℕ) → word_holds (y + 1) o ≡ one_if (y == o)
names_next y o = let next : y + 1 ≡ suc y = omega arith in ap (λ (w : ℕ). word_holds w o) next

line_holds : (list first i o : ℕ) (line : List ℕ)
    → held (cell_reference list i o) (line_references list first (length line))
    ≡ word_holds (cond (nat_lt i (length line)) (first + i + 1) 0) o
line_holds list first i o line =
    elim (cases_lt i (length line)) [
      | inl low ↦
          line_on list first (length line) i o low ∙ sym (names_next (first + i) o)
          ∙ ap (λ (b : Bool). word_holds (cond b (first + i + 1) 0) o) (sym (lt-ltb i (length line) low))
      | inr past ↦
          line_past list first (length line) i o past
          ∙ ap (λ (b : Bool). word_holds (cond b (first + i + 1) 0) o) (sym (le-ltb i (length line) past))
    ]

-- The word of a cell of a later line, counted from the next line.
later_word : (line : List ℕ) (lines : List (List ℕ)) (first s i : ℕ)
    → word_in_list lines (first + length line) s i ≡ word_in_list (line ∷ lines) first (suc s) i
later_word line lines first s i =
    let sums : first + length line + start lines s ≡ first + (length line + start lines s) = omega arith in
    ap (λ (n : ℕ). cond (nat_lt i (length (line_at lines s))) (n + i + 1) 0) sums

-- Each cell of a list holds what its word names.
pub lists_hold : (list first : ℕ) (lines : List (List ℕ)) (s i o : ℕ)
    → held (cell_reference (list + s) i o) (list_references list first lines)
    ≡ word_holds (word_in_list lines first s i) o
lists_hold list first [] s i o =
    ap (λ (b : Bool). word_holds (cond b (first + start [] s + i + 1) 0) o) (sym (le-ltb i 0 (omega arith)))
lists_hold list first (line ∷ lines) zero i o =
    let same_list : list + 0 ≡ list = omega arith in
    let same_first : first + 0 ≡ first = omega arith in
    let bag = list_references list first (line ∷ lines) in
    let here : held (cell_reference (list + 0) i o) bag ≡ held (cell_reference list i o) bag =
    ap (λ (x : ℕ). held (cell_reference x i o) bag) same_list in
    let word : word_holds (word_in_list (line ∷ lines) first 0 i) o
    ≡ word_holds (cond (nat_lt i (length line)) (first + i + 1) 0) o =
    ap (λ (n : ℕ). word_holds (cond (nat_lt i (length line)) (n + i + 1) 0) o) same_first in
    omega (
      arith,
      here,
      word,
      held-append (cell_reference list i o) (line_references list first (length line))
          (list_references (suc list) (first + length line) lines),
      line_holds list first i o line,
      lists_off (suc list) (first + length line) lines list i o (inl (omega arith)),
    )
lists_hold list first (line ∷ lines) (suc s) i o =
    let r = cell_reference (list + suc s) i o in
    let next : suc list + s ≡ list + suc s = omega arith in
    let behind : held r (list_references (suc list) (first + length line) lines)
    ≡ word_holds (word_in_list (line ∷ lines) first (suc s) i) o =
    subst (λ (x : ℕ). held (cell_reference x i o) (list_references (suc list) (first + length line) lines)
    ≡ word_holds (word_in_list (line ∷ lines) first (suc s) i) o) next
    (lists_hold (suc list) (first + length line) lines s i o
    ∙ ap (λ (w : ℕ). word_holds w o) (later_word line lines first s i)) in
    omega (
      arith,
      held-append r (line_references list first (length line))
          (list_references (suc list) (first + length line) lines),
      line_off list first (length line) (list + suc s) i o (λ e. absurd (omega (arith, e))),
      behind,
    )

-- No thread holds anything by a cell.
line_cells : (list first n t : ℕ) (k : Holding) (o : ℕ)
    → held (reference_of t k o) (line_references list first n) ≡ 0
line_cells list first zero t k o = refl
line_cells list first (suc n) t k o =
    omega (
      arith,
      held-cons (reference_of t k o) (cell_reference list n (first + n)) (line_references list first n),
      line_cells list first n t k o,
    )

pub lists_cells : (list first : ℕ) (lines : List (List ℕ)) (t : ℕ) (k : Holding) (o : ℕ)
    → held (reference_of t k o) (list_references list first lines) ≡ 0
lists_cells list first [] t k o = refl
lists_cells list first (line ∷ lines) t k o =
    omega (
      arith,
      held-append (reference_of t k o) (line_references list first (length line))
          (list_references (suc list) (first + length line) lines),
      line_cells list first (length line) t k o,
      lists_cells (suc list) (first + length line) lines t k o,
    )

-- ---- what names a number

line_names_none : (list first n x : ℕ) → (x < first) ⊎ (first + n ≤ x)
    → references_to x (line_references list first n) ≡ 0
line_names_none list first zero x outside = refl
line_names_none list first (suc n) x outside =
    let q = cell_reference list n (first + n) in
    let apart : first + n ≢ x = elim outside as (λ c. first + n ≢ x) [
      | inl before ↦ λ e. absurd (omega (arith, before, e))
      | inr past ↦ λ e. absurd (omega (arith, past, e))
    ] in
    let further : (x < first) ⊎ (first + n ≤ x) = elim outside [
      | inl before ↦ inl before
      | inr past ↦ inr (omega (arith, past))
    ] in
    let none : one_if (first + n == x) ≡ 0 = ap one_if (ne_eqb (first + n) x apart) in
    omega (
      arith,
      references_to-cons x q (line_references list first n),
      none,
      line_names_none list first n x further,
    )

line_names_one : (list first n x : ℕ) → first ≤ x → x < first + n
    → references_to x (line_references list first n) ≡ 1
line_names_one list first zero x low high = absurd (omega (arith, low, high))
line_names_one list first (suc n) x low high =
    let q = cell_reference list n (first + n) in
    elim (eqb_tells (first + n) x) [
      | inl this ↦
          let one : one_if (first + n == x) ≡ 1 = ap one_if this.0 in
          omega (
            arith,
            references_to-cons x q (line_references list first n),
            one,
            line_names_none list first n x (inr (omega (arith, this.1))),
          )
      | inr apart ↦
          let none : one_if (first + n == x) ≡ 0 = ap one_if apart.0 in
          omega (
            arith,
            references_to-cons x q (line_references list first n),
            none,
            line_names_one list first n x low (omega (arith, high, apart.1)),
          )
    ]

-- The cells name no row but those of the numbers.
pub lists_name_none : (list first : ℕ) (lines : List (List ℕ)) (x : ℕ)
    → (x < first) ⊎ (first + value_count lines ≤ x) → references_to x (list_references list first lines) ≡ 0
lists_name_none list first [] x outside = refl
lists_name_none list first (line ∷ lines) x outside =
    let count = sum_by-cons length line lines in
    let here : (x < first) ⊎ (first + length line ≤ x) = elim outside [
      | inl before ↦ inl before
      | inr past ↦ inr (omega (arith, past, count))
    ] in
    let further : (x < first + length line) ⊎ (first + length line + value_count lines ≤ x) = elim outside [
      | inl before ↦ inl (omega (arith, before))
      | inr past ↦ inr (omega (arith, past, count))
    ] in
    omega (
      arith,
      references_to-append x (line_references list first (length line))
          (list_references (suc list) (first + length line) lines),
      line_names_none list first (length line) x here,
      lists_name_none (suc list) (first + length line) lines x further,
    )

-- Each number is named once.
pub lists_name_one : (list first : ℕ) (lines : List (List ℕ)) (x : ℕ) → first ≤ x → x < first + value_count lines
    → references_to x (list_references list first lines) ≡ 1
lists_name_one list first [] x low high = absurd (omega (arith, low, high))
lists_name_one list first (line ∷ lines) x low high =
    let count = sum_by-cons length line lines in
    let whole =
    references_to-append x (line_references list first (length line))
    (list_references (suc list) (first + length line) lines) in
    elim (cases_lt x (first + length line)) [
      | inl here ↦
          omega (
            arith,
            whole,
            line_names_one list first (length line) x low here,
            lists_name_none (suc list) (first + length line) lines x (inl here),
          )
      | inr behind ↦
          omega (
            arith,
            whole,
            line_names_none list first (length line) x (inr behind),
            lists_name_one (suc list) (first + length line) lines x behind (omega (arith, high, count)),
          )
    ]

-- ---- the born numbers

pub from_among : (first n x : ℕ) → is_among x (rows_from first n) ≡ true → (first ≤ x) × (x < first + n)
from_among first zero x among = absurd cc
from_among first (suc n) x among =
    elim (either_true (first == x) _ among) [
      | inl this ↦ let same = eqb-true first x this in (omega (arith, same), omega (arith, same))
      | inr later ↦ let rest = from_among (suc first) n x later in (omega (arith, rest.0), omega (arith, rest.1))
    ]

pub among_from : (first n x : ℕ) → first ≤ x → x < first + n → is_among x (rows_from first n) ≡ true
among_from first zero x low high = absurd (omega (arith, low, high))
among_from first (suc n) x low high =
    elim (eqb_tells first x) [
      | inl this ↦ ap (λ (b : Bool). b || is_among x (rows_from (suc first) n)) this.0
      | inr apart ↦
          or_second (first == x) (is_among x (rows_from (suc first) n))
          (among_from (suc first) n x (omega (arith, low, apart.1)) (omega (arith, high)))
    ]

pub none_from : (first n x : ℕ) → x < first → count_by (λ y. y == x) (rows_from first n) ≡ 0
none_from first zero x before = refl
none_from first (suc n) x before =
    let none : one_if (first == x) ≡ 0 = ap one_if (ne_eqb first x (λ e. absurd (omega (arith, e, before)))) in
    omega (
      arith,
      sum_by-cons (λ (y : ℕ). cond (y == x) 1 0) first (rows_from (suc first) n),
      none,
      none_from (suc first) n x (omega (arith, before)),
    )

pub once_from : (first n x : ℕ) → count_by (λ y. y == x) (rows_from first n) ≤ 1
once_from first zero x = omega arith
once_from first (suc n) x =
    let all = sum_by-cons (λ (y : ℕ). cond (y == x) 1 0) first (rows_from (suc first) n) in
    elim (eqb_tells first x) [
      | inl this ↦
          omega (arith, all, one_if_low (first == x), none_from (suc first) n x (omega (arith, this.1)))
      | inr apart ↦
          let none : one_if (first == x) ≡ 0 = ap one_if apart.0 in
          omega (arith, all, none, once_from (suc first) n x)
    ]
