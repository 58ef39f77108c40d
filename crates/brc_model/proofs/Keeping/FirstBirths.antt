-- In the rooted machine (`FirstThreads`) the rows that threads have used are born, each once; the others are blank, and
-- none is dying or closed.
use Rattle.std.proofs.Common.{◌≡◌, ◌≢◌, ◌⊎◌, ℕ, suc, ◌<◌, ◌≤◌, Bool, true, false, cond, List, [], ◌∷◌, inl, inr, refl, sym, ap, subst, arith}
use Rattle.std.specs.Prelude.{count_by, ◌==◌, ◌||◌}
use Rattle.std.proofs.lemmas.Bool.{eqb-true, eq-eqb}
use Rattle.std.proofs.lemmas.Bool.Decides.{eqb_tells}
use Rattle.std.proofs.lemmas.List.Sums.{sum_by-cons}
use Rattle.brc_word.specs.Words.{free_word}
use Rattle.brc_model.specs.declared.actor.Actor.{Actor}
use Rattle.brc_model.specs.declared.layout.Layout.{Layout}
use Rattle.brc_model.specs.Layout.{root_row, block_of, block_size, index_of, first_number, IsCounted}
use Rattle.brc_model.specs.AbstractState.{is_among}
use Rattle.brc_model.specs.References.{one_if}
use Rattle.brc_model.specs.Machine.{Unborn, Closed, Live}
use Rattle.brc_model.specs.FirstRows.{FirstRow, NoneRow, RootRow, ImmortalList, Number, UnbornRow, first_row, kind_word_of_first, life_of_first, first_life, rows_from}
use Rattle.brc_model.specs.StepMachine.{rooted_memory}
use Rattle.brc_model.specs.Invariant.{UsesFit, BlankFits}
use Rattle.brc_model.specs.OpenWork.{dies_by}
use Rattle.brc_model.specs.Gates.{IsFree, GateFits}
use Rattle.brc_model.proofs.Basics.Lists.{either_true, or_second}
use Rattle.brc_model.proofs.Basics.Bag.{one_if_low}
use Rattle.brc_model.proofs.Basics.Blocks.{root_counted, others_counted, mains_rows, mains_within, mains_past, workers_rows}
use Rattle.brc_model.proofs.Keeping.FirstRows.{IsAt, is_immortal_first, born_first, unborn_first}
use Rattle.brc_model.proofs.Keeping.FirstReferences.{from_among, among_from, none_from, once_from}

-- ---- lives

dies_never : (r : FirstRow) (t : ℕ) → dies_by (life_of_first r) t ≡ false
dies_never NoneRow t = refl
dies_never RootRow t = refl
dies_never (ImmortalList s) t = refl
dies_never (Number k) t = refl
dies_never UnbornRow t = refl

pub none_dies : (layout : Layout) (x t : ℕ) → dies_by (first_life layout x) t ≡ false
none_dies layout x t = dies_never (first_row layout x) t

pub closed_never : (r : FirstRow) → life_of_first r ≡ Closed → ⊥
closed_never NoneRow e = cc
closed_never RootRow e = cc
closed_never (ImmortalList s) e = cc
closed_never (Number k) e = cc
closed_never UnbornRow e = cc

-- ---- used and blank rows

main_unborn : (layout : Layout) (x : ℕ) → 0 < layout.rows → block_of layout x ≡ 0
    → block_size layout 0 ≤ index_of layout 0 x → first_row layout x ≡ UnbornRow
main_unborn layout x some block past =
    let beyond = mains_past layout x some block past in
    unborn_first layout x (omega (arith, beyond)) (inr beyond)

worker_unborn : (layout : Layout) (t x : ℕ) → block_of layout x ≡ suc t → first_row layout x ≡ UnbornRow
worker_unborn layout t x block =
    let place = workers_rows layout t x block in unborn_first layout x place.0 (inl place.1)

pub main_uses : (layout : Layout) → 0 < layout.rows → UsesFit layout (first_life layout) 0 (block_size layout 0)
main_uses layout some = record {
  main = λ e. refl;
  few = omega arith;
  born = λ x block low. born_first layout x (mains_rows layout x block) (mains_within layout x block low);
  unborn = λ x block past. ap life_of_first (main_unborn layout x some block past);
}

pub worker_uses : (layout : Layout) (t : ℕ) → UsesFit layout (first_life layout) (suc t) 0
worker_uses layout t = record {
  main = λ e. absurd (omega (arith, e));
  few = omega arith;
  born = λ x block low. absurd (omega (arith, low));
  unborn = λ x block past. ap life_of_first (worker_unborn layout t x block);
}

-- The unused rows are blank.
pub main_blanks : (lines : List (List ℕ)) (layout : Layout) (callers : ℕ) → 0 < layout.rows
    → BlankFits layout (rooted_memory lines layout callers) 0 (block_size layout 0) []
main_blanks lines layout callers some = record {
  kinds = λ x block past none. ap (kind_word_of_first lines) (main_unborn layout x some block past);
  fields = λ x block past none. refl;
}

pub worker_blanks : (lines : List (List ℕ)) (layout : Layout) (callers t : ℕ)
    → BlankFits layout (rooted_memory lines layout callers) (suc t) 0 []
worker_blanks lines layout callers t = record {
  kinds = λ x block past none. ap (kind_word_of_first lines) (worker_unborn layout t x block);
  fields = λ x block past none. refl;
}

-- All gates are free, and no row is dying or closed.
pub gate_free : (actors : List Actor) (x : ℕ) (r : FirstRow) → GateFits actors x (life_of_first r) free_word
gate_free actors x NoneRow = IsFree refl
gate_free actors x RootRow = IsFree refl
gate_free actors x (ImmortalList s) = IsFree refl
gate_free actors x (Number k) = IsFree refl
gate_free actors x UnbornRow = refl

-- ---- born rows

-- Just the root and the numbers are born.
root_or : (x : ℕ) (rows : List ℕ) → is_among x (root_row ∷ rows) ≡ true → (x ≡ root_row) ⊎ (is_among x rows ≡ true)
root_or x rows among =
    elim (either_true (root_row == x) (is_among x rows) among) [
      | inl root ↦ inl (sym (eqb-true root_row x root))
      | inr later ↦ inr later
    ]

number_counted : (layout : Layout) (x : ℕ) → first_number layout ≤ x → IsCounted layout x
number_counted layout x low = others_counted layout x (omega (arith, low)) (inr low)

pub first_born_is : (layout : Layout) (x : ℕ)
    → is_among x (root_row ∷ rows_from (first_number layout) layout.numbers) ≡ true
    → IsCounted layout x × (first_life layout x ≢ Unborn)
first_born_is layout x among =
    elim (root_or x (rows_from (first_number layout) layout.numbers) among) [
      | inl root ↦ (
        subst (IsCounted layout) (sym root) (root_counted layout),
        born_first layout x (inl (omega (arith, root))) (omega (arith, root)),
      )
      | inr number ↦
          let place = from_among (first_number layout) layout.numbers x number in (
            number_counted layout x place.0,
            born_first layout x (inr (omega (arith, place.0))) (omega (arith, place.1)),
          )
    ]

pub born_among : (layout : Layout) (x : ℕ) (r : FirstRow) → IsAt layout x r → is_immortal_first r ≡ false
    → life_of_first r ≢ Unborn → is_among x (root_row ∷ rows_from (first_number layout) layout.numbers) ≡ true
born_among layout x NoneRow at counted born = absurd cc
born_among layout x RootRow at counted born =
    ap (λ (b : Bool). b || is_among x (rows_from (first_number layout) layout.numbers)) (eq-eqb root_row x (sym at))
born_among layout x (ImmortalList s) at counted born = absurd cc
born_among layout x (Number k) at counted born =
    or_second (root_row == x) (is_among x (rows_from (first_number layout) layout.numbers))
    (among_from (first_number layout) layout.numbers x (omega (arith, at.1)) (omega (arith, at.0, at.1)))
born_among layout x UnbornRow at counted born = absurd (born refl)

pub born_once : (layout : Layout) (x : ℕ)
    → count_by (λ y. y == x) (root_row ∷ rows_from (first_number layout) layout.numbers) ≤ 1
born_once layout x =
    let rows = rows_from (first_number layout) layout.numbers in
    let all = sum_by-cons (λ (y : ℕ). cond (y == x) 1 0) root_row rows in
    elim (eqb_tells root_row x) [
      | inl root ↦
          let none = none_from (first_number layout) layout.numbers x (omega (arith, root.1)) in
          omega (arith, all, one_if_low (root_row == x), none)
      | inr other ↦
          let none : one_if (root_row == x) ≡ 0 = ap one_if other.0 in
          omega (arith, all, none, once_from (first_number layout) layout.numbers x)
    ]

pub immortal_lives : (r : FirstRow) → is_immortal_first r ≡ true → life_of_first r ≡ Live
immortal_lives NoneRow immortal = refl
immortal_lives RootRow immortal = refl
immortal_lives (ImmortalList s) immortal = refl
immortal_lives (Number k) immortal = refl
immortal_lives UnbornRow immortal = absurd cc
