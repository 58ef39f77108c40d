-- Ledgers that tell what their hands hold.
use Rattle.std.proofs.Common.{◌≡◌, ◌≢◌, ◌≤◌, ◌<◌, ◌+◌, ◌-◌, ℕ, zero, suc, Bool, false, List, [], ◌∷◌, Option, Some, None, inl, inr, refl, sym, ap, ◌∙◌, subst, length, arith}
use Rattle.std.specs.Prelude.{cond, count_by, ◌==◌, if◌then◌else◌, slice_index_or, slice_set, replicate}
use Rattle.std.proofs.lemmas.Bool.{cases_Bool, cases_lt, ne_eqb, eq-eqb, eqb-true, eqb-false}
use Rattle.std.proofs.lemmas.List.Sums.{sum_by-cons, count_by-le-length}
use Rattle.std.proofs.Math.ListN.{get_or-eq_default}
use Rattle.std.proofs.lemmas.Grind.{common_steps, get_or-set_at}
use Rattle.std.proofs.lemmas.List.{get_or-set_other, length-set}
use Rattle.brc_model.proofs.Basics.Lists.{get_or-replicate_default}
use Rattle.brc_model.specs.declared.layout.Layout.{Layout}
use Rattle.brc_model.specs.Layout.{root_row}
use Rattle.brc_table.specs.Swaps.{with_item}
use Rattle.brc_list.specs.Calls.{row_in}
use Rattle.brc_table.specs.Views.{holds, without_one, without_reference}
use Rattle.brc_table.specs.Hands.{HandState}
use Rattle.brc_soak_tests.specs.Ledgers.{LedgerState, counted, Tells, IsWhole, with_found}
use Rattle.brc_fixtures.proofs.Resting.{some_counted, lists_one_more, lists_one_less}

-- how often x is one of the rows
abbrev pub times : ℕ → List ℕ → ℕ
times x rows = count_by (λ y. y == x) rows

pub times_same : (x y : ℕ) (rows : List ℕ) → y ≡ x → times x (y ∷ rows) ≡ times x rows + 1
times_same x y rows e = grind (arith, common_steps, sum_by-cons (λ (z : ℕ). cond (z == x) 1 0) y rows, eq-eqb y x e)

pub times_other : (x y : ℕ) (rows : List ℕ) → y ≢ x → times x (y ∷ rows) ≡ times x rows
times_other x y rows e = grind (arith, common_steps, sum_by-cons (λ (z : ℕ). cond (z == x) 1 0) y rows)

-- the first of the rows is taken off, or stays
pub off_first : (x y : ℕ) (rows : List ℕ) → y ≡ x → without_one x (y ∷ rows) ≡ rows
off_first x y rows e = ap (λ (b : Bool). if b then rows else y ∷ without_one x rows) (eq-eqb y x e)

pub off_later : (x y : ℕ) (rows : List ℕ) → (y == x) ≡ false → without_one x (y ∷ rows) ≡ y ∷ without_one x rows
off_later x y rows e = ap (λ (b : Bool). if b then rows else y ∷ without_one x rows) e

-- One reference less to the row x: those to x are one less,
pub times_less : (x : ℕ) (rows : List ℕ) → 1 ≤ times x rows → times x (without_one x rows) + 1 ≡ times x rows
times_less x [] some = absurd (omega (arith, some))
times_less x (y ∷ rows) some = elim (cases_Bool (y == x)) [
  | inl same ↦
      ap (λ (ys : List ℕ). times x ys + 1) (off_first x y rows (eqb-true y x same))
      ∙ sym (times_same x y rows (eqb-true y x same))
  | inr apart ↦
      let others = times_other x y rows (eqb-false y x apart) in
      ap (λ (ys : List ℕ). times x ys + 1) (off_later x y rows apart)
      ∙ (ap (λ (n : ℕ). n + 1) (times_other x y (without_one x rows) (eqb-false y x apart))
      ∙ (times_less x rows (omega (arith, some, others)) ∙ sym others))
]

-- those to other rows stay,
pub times_kept : (x z : ℕ) (rows : List ℕ) → x ≢ z → times z (without_one x rows) ≡ times z rows
times_kept x z [] other = refl
times_kept x z (y ∷ rows) other = elim (cases_Bool (y == x)) [
  | inl same ↦
      ap (times z) (off_first x y rows (eqb-true y x same))
      ∙ sym (times_other z y rows (λ e. absurd (other (sym (eqb-true y x same) ∙ e))))
  | inr apart ↦
      ap (times z) (off_later x y rows apart)
      ∙ grind (
        arith,
        common_steps,
        times_kept x z rows other,
        sum_by-cons (λ (w : ℕ). cond (w == z) 1 0) y rows,
        sum_by-cons (λ (w : ℕ). cond (w == z) 1 0) y (without_one x rows),
      )
]

-- and in all there is one less.
pub length_less : (x : ℕ) (rows : List ℕ) → 1 ≤ times x rows → length (without_one x rows) + 1 ≡ length rows
length_less x [] some = absurd (omega (arith, some))
length_less x (y ∷ rows) some = elim (cases_Bool (y == x)) [
  | inl same ↦ grind (arith, common_steps, ap (λ (ys : List ℕ). length ys) (off_first x y rows (eqb-true y x same)))
  | inr apart ↦
      let others = times_other x y rows (eqb-false y x apart) in
      grind (
        arith,
        common_steps,
        ap (λ (ys : List ℕ). length ys) (off_later x y rows apart),
        length_less x rows (omega (arith, some, others)),
      )
]

-- ---- ledgers

-- A row for which something is counted is one of the ledger's.
pub counts_within : (xs : List ℕ) (i : ℕ) → 1 ≤ slice_index_or xs i 0 → i < length xs
counts_within [] i some = absurd (omega (arith, some))
counts_within (x ∷ xs) zero some = omega arith
counts_within (x ∷ xs) (suc i) some = omega (arith, counts_within xs i some)

-- One more for the row x, or one less: its own count changes, and no other one.
pub set_to : (xs : List ℕ) (x v z : ℕ) (ns : List ℕ) (n : ℕ) → ns ≡ slice_set xs x v → n ≡ slice_index_or xs z 0
    → ((x ≡ z → z < length xs → slice_index_or ns z 0 ≡ v) × (x ≢ z → slice_index_or ns z 0 ≡ n))
    × (length ns ≡ length xs)
set_to xs x v z ns n is was = (
  (
    λ e low. ap (λ (ys : List ℕ). slice_index_or ys z 0) is ∙ get_or-set_at xs x z v 0 (sym e)
        (subst (λ (k : ℕ). k < length xs) (sym e) low),
    λ apart. ap (λ (ys : List ℕ). slice_index_or ys z 0) is ∙ (get_or-set_other xs x z v 0 (λ e. apart (sym e))
        ∙ sym was),
  ),
  ap length is ∙ length-set xs x v,
)

-- The counts are those of the references.
abbrev pub Agree : List ℕ → List ℕ → Type 0
Agree counts rows = (z : ℕ) → z < length counts → slice_index_or counts z 0 ≡ times z rows

pub agree_more : (counts after rows : List ℕ) (x : ℕ) → Agree counts rows
    → after ≡ slice_set counts x (slice_index_or counts x 0 + 1) → Agree after (x ∷ rows)
agree_more counts after rows x agree is z low =
    let sets = set_to counts x (slice_index_or counts x 0 + 1) z after (slice_index_or counts z 0) is refl in
    let within : z < length counts = omega (arith, low, sets.1) in
    elim (cases_Bool (x == z)) [
      | inl same ↦
          let e = eqb-true x z same in
          sets.0.0 e within ∙ (ap (λ (k : ℕ). slice_index_or counts k 0 + 1) e
          ∙ (ap (λ (n : ℕ). n + 1) (agree z within) ∙ sym (times_same z x rows e)))
      | inr apart ↦
          let e = eqb-false x z apart in
          sets.0.1 e ∙ (agree z within ∙ sym (times_other z x rows e))
    ]

pub agree_less : (counts after rows : List ℕ) (x : ℕ) → Agree counts rows → 1 ≤ slice_index_or counts x 0
    → after ≡ slice_set counts x (slice_index_or counts x 0 - 1) → Agree after (without_one x rows)
agree_less counts after rows x agree some is z low =
    let sets = set_to counts x (slice_index_or counts x 0 - 1) z after (slice_index_or counts z 0) is refl in
    let within : z < length counts = omega (arith, low, sets.1) in
    let held = agree x (counts_within counts x some) in
    elim (cases_Bool (x == z)) [
      | inl same ↦
          let e = eqb-true x z same in
          let less = times_less x rows (omega (arith, some, held)) in
          sets.0.0 e within ∙ (let n : slice_index_or counts x 0 - 1 ≡ times x (without_one x rows) = omega
          (arith, less, held, some) in
          n ∙ ap (λ (k : ℕ). times k (without_one x rows)) e)
      | inr apart ↦
          let e = eqb-false x z apart in
          sets.0.1 e ∙ (agree z within ∙ sym (times_kept x z rows e))
    ]

-- One reference in all, and one to x: it is that one.
pub only_one : (rows : List ℕ) (x : ℕ) → length rows ≡ 1 → 1 ≤ times x rows → rows ≡ x ∷ []
only_one [] x one some = absurd (omega (arith, some))
only_one (y ∷ []) x one some = elim (cases_Bool (y == x)) [
  | inl same ↦ ap (λ (k : ℕ). k ∷ []) (eqb-true y x same)
  | inr apart ↦ absurd (omega (arith, some, times_other x y [] (eqb-false y x apart)))
]
only_one (y ∷ z ∷ rows) x one some = absurd (omega (arith, one))

-- ---- what ledgers count

-- A ledger counts for one row no more than in all.
pub tells_whole : (ledger : LedgerState) (rows : List ℕ) → Tells ledger rows → IsWhole ledger
tells_whole ledger rows tells x = elim (cases_lt x (length ledger.counts)) [
  | inl low ↦ omega (arith, tells.counts x low, tells.total, count_by-le-length (λ (y : ℕ). y == x) rows)
  | inr out ↦ omega (arith, get_or-eq_default ledger.counts 0 out)
]

-- The hand holds the references that its ledger counts.
pub tells_held : (ledger : LedgerState) (hand : HandState) (x n : ℕ) → Tells ledger hand.view.references → 1 ≤ n
    → n ≤ counted ledger x → n ≤ holds hand.view x
tells_held ledger hand x n tells some counts =
    omega (arith, counts, tells.counts x (counts_within ledger.counts x (omega (arith, some, counts))))

-- A new ledger counts no reference.
pub tells_none : (ledger : LedgerState) (n : ℕ) → ledger.counts ≡ replicate n 0 → ledger.total ≡ 0 → Tells ledger []
tells_none ledger n counts total = record {
  counts = λ x low. ap (λ (ns : List ℕ). slice_index_or ns x 0) counts ∙ get_or-replicate_default n x 0;
  total = total;
}

-- A reference more,
pub tells_more : (ledger after : LedgerState) (rows : List ℕ) (x : ℕ) → Tells ledger rows
    → after.counts ≡ slice_set ledger.counts x (counted ledger x + 1) → after.total ≡ ledger.total + 1
    → Tells after (x ∷ rows)
tells_more ledger after rows x tells counts total = record {
  counts = agree_more ledger.counts after.counts rows x tells.counts counts;
  total = omega (arith, total, tells.total);
}

-- and one less.
pub tells_less : (ledger after : LedgerState) (rows : List ℕ) (x : ℕ) → Tells ledger rows → 1 ≤ counted ledger x
    → after.counts ≡ slice_set ledger.counts x (counted ledger x - 1) → after.total ≡ ledger.total - 1
    → Tells after (without_one x rows)
tells_less ledger after rows x tells some counts total = record {
  counts = agree_less ledger.counts after.counts rows x tells.counts some counts;
  total =
      let held = tells.counts x (counts_within ledger.counts x some) in
      omega (arith, total, tells.total, length_less x rows (omega (arith, held, some)));
}

-- It tells the same of equal references.
pub tells_equal : (ledger : LedgerState) (rows later : List ℕ) → Tells ledger rows → later ≡ rows → Tells ledger later
tells_equal ledger rows later tells same = subst (λ (ys : List ℕ). Tells ledger ys) (sym same) tells

-- The hand holds the root and nothing else.
pub tells_root : (ledger : LedgerState) (rows : List ℕ) → Tells ledger rows → ledger.total ≡ 1
    → counted ledger root_row ≢ 0 → rows ≡ root_row ∷ []
tells_root ledger rows tells one some =
    let more : 1 ≤ counted ledger root_row = omega (arith, some) in
    only_one rows root_row (sym tells.total ∙ one)
    (omega (arith, more, tells.counts root_row (counts_within ledger.counts root_row more)))

-- A hand that has locked the list still holds it when it has put another item, or one of several references to the
-- list, into a cell.
pub held_after : (x y : ℕ) (rows : List ℕ) → 1 ≤ times x rows → (y ≡ x → 2 ≤ times y rows)
    → 1 ≤ times x (without_one y rows)
held_after x y rows some several = elim (cases_Bool (y == x)) [
  | inl same ↦
      let e = eqb-true y x same in
      subst (λ (k : ℕ). 1 ≤ times x (without_one k rows)) (sym e)
      (omega (arith, times_less x rows some, subst (λ (k : ℕ). 2 ≤ times k rows) e (several e)))
  | inr apart ↦ omega (arith, some, times_kept y x rows (eqb-false y x apart))
]

-- It holds it with what came out of the cell, too,
pub held_with : (x : ℕ) (found : Option ℕ) (rows : List ℕ) → 1 ≤ times x rows → 1 ≤ times x (with_found found rows)
held_with x None rows some = some
held_with x (Some zero) rows some = some
held_with x (Some (suc y)) rows some = elim (cases_Bool (suc y == x)) [
  | inl same ↦ omega (arith, some, times_same x (suc y) rows (eqb-true (suc y) x same))
  | inr apart ↦ omega (arith, some, times_other x (suc y) rows (eqb-false (suc y) x apart))
]

-- since in a layout with no immortal list every object but that of row 0 is counted.
pub found_is : (layout : Layout) (found : ℕ) (rows : List ℕ) → layout.immortal_lists ≡ 0
    → with_item layout found rows ≡ with_found (row_in found) rows
found_is layout zero rows none = refl
found_is layout (suc zero) rows none = refl
found_is layout (suc (suc y)) rows none =
    lists_one_more {layout = layout} {other = layout} (suc y) rows
    (some_counted layout (suc y) none (ne_eqb (suc y) 0 (λ e. absurd cc))) refl

-- So these references are left when the hand has put an item into a cell.
pub put_leaves : (layout other : Layout) (found item : ℕ) (answer : Option ℕ) (rows later : List ℕ)
    → layout.immortal_lists ≡ 0 → other ≡ layout → item ≢ 0
    → later ≡ with_item other found (without_reference other item rows) → answer ≡ row_in found
    → later ≡ with_found answer (without_one item rows)
put_leaves layout other found item answer rows later none same some is was =
    let counted = some_counted layout item none (ne_eqb item 0 some) in
    is ∙ (ap (with_item other found) (lists_one_less {layout = layout} {other = other} item rows counted same)
    ∙ (found_is other found (without_one item rows) (ap (λ (l : Layout). l.immortal_lists) same ∙ none)
    ∙ ap (λ (f : Option ℕ). with_found f (without_one item rows)) (sym was)))
