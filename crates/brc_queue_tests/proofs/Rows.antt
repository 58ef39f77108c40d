-- References to the object of a row that isn't immortal.
use Rattle.std.proofs.Common.{◌≡◌, ◌≢◌, ◌≤◌, ℕ, suc, Bool, List, [], ◌∷◌, Some, inr, refl, sym, ap, ◌∙◌, arith}
use Rattle.std.specs.Prelude.{◌==◌, cond, count_by, if◌then◌else◌}
use Rattle.std.specs.List.{filter}
use Rattle.std.proofs.lemmas.Bool.{eq-eqb}
use Rattle.std.proofs.lemmas.List.Sums.{sum_by-cons}
use Rattle.brc_model.specs.declared.layout.Layout.{Layout}
use Rattle.brc_model.specs.Layout.{root_row, IsCounted}
use Rattle.brc_model.specs.OpenWork.{is_about}
use Rattle.brc_table.specs.declared.view.View.{View}
use Rattle.brc_table.specs.Views.{open_work, holds, with_reference, without_reference, without_one}
use Rattle.brc_table.specs.Swaps.{MayPut}

-- The hand's first reference is to the object.
pub holds_first : (v : View) (x : ℕ) (rest : List ℕ) → v.references ≡ x ∷ rest → 1 ≤ holds v x
holds_first v x rest is =
    omega (
      arith,
      ap (count_by (λ y. y == x)) is,
      sum_by-cons (λ (y : ℕ). cond (y == x) 1 0) x rest,
      ap {B = ℕ} (λ (b : Bool). cond b 1 0) (eq-eqb x x refl),
    )

-- It may put the object into a cell of the root, which it has locked,
pub may_put : (v : View) (x : ℕ) (rest : List ℕ) → v.references ≡ x ∷ rest → open_work v ≡ []
    → v.actor.locked ≡ Some root_row → x ≢ root_row → MayPut v (suc x)
may_put v x rest is rests locked apart = (
  inr (holds_first v x rest is),
  ap (filter (is_about x)) rests,
  λ e. absurd (apart (let same : Some root_row ≡ Some x = sym locked ∙ e in let r : x ≡ root_row = cc in r)),
)

-- or give it up,
pub without_row : (layout : Layout) (x : ℕ) (rest : List ℕ) → IsCounted layout x
    → without_reference layout x (x ∷ rest) ≡ rest
without_row layout x rest counted =
    ap (λ (b : Bool). if b then x ∷ rest else without_one x (x ∷ rest)) counted
    ∙ ap (λ (b : Bool). if b then rest else x ∷ without_one x rest) (eq-eqb x x refl)

-- and has one more once it has taken it out.
pub with_row : (layout : Layout) (x : ℕ) (rest : List ℕ) → IsCounted layout x
    → with_reference layout x rest ≡ x ∷ rest
with_row layout x rest counted = ap (λ (b : Bool). if b then rest else x ∷ rest) counted
