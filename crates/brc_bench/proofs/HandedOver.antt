-- A hand that holds a batch of objects, and the root behind them.
use Rattle.std.proofs.Common.{◌≡◌, ◌≤◌, ℕ, suc, Bool, Option, Some, List, [], ◌∷◌, ◌++◌, refl, ap, ◌∙◌, subst, arith}
use Rattle.std.specs.Prelude.{All, cond, count_by, if◌then◌else◌, length, ◌==◌}
use Rattle.std.proofs.lemmas.Bool.{eq-eqb}
use Rattle.std.proofs.lemmas.List.Sums.{sum_by-cons}
use Rattle.std.proofs.lemmas.List.Elements.{All-tail}
use Rattle.brc_model.specs.declared.layout.Layout.{Layout}
use Rattle.brc_model.specs.Layout.{IsCounted}
use Rattle.brc_table.specs.declared.view.View.{View}
use Rattle.brc_table.specs.Views.{holds, without_one}
use Rattle.brc_table.specs.Hands.{HandState}
use Rattle.brc_table.specs.Swaps.{with_item}
use Rattle.brc_list.specs.Calls.{word_of}
use Rattle.brc_bench.specs.Swaps.{HoldsBeside}
use Rattle.brc_bench.proofs.AtRest.{without_first}

-- One of its references is to that object.
pub counts_last : (x : ℕ) (rows : List ℕ) → 1 ≤ count_by (λ y. y == x) (rows ++ x ∷ [])
counts_last x [] =
    omega (
      arith,
      sum_by-cons (λ (y : ℕ). cond (y == x) 1 0) x [],
      ap {B = ℕ} (λ (b : Bool). cond b 1 0) (eq-eqb x x refl),
    )
counts_last x (y ∷ rows) =
    omega (arith, counts_last x rows, sum_by-cons (λ (z : ℕ). cond (z == x) 1 0) y (rows ++ x ∷ []))

-- A hand holds the object of its earliest reference.
pub holds_last : (v : View) (x : ℕ) (rows : List ℕ) → v.references ≡ rows ++ x ∷ [] → 1 ≤ holds v x
holds_last v x rows is = omega (arith, ap (count_by (λ y. y == x)) is, counts_last x rows)

pub length_with_root : (x : ℕ) (rows : List ℕ) → length (rows ++ x ∷ []) ≡ suc (length rows)
length_with_root x [] = refl
length_with_root x (y ∷ rows) = ap suc (length_with_root x rows)

-- A hand that took a counted object holds it beside what it held before.
pub took_item : (hand : HandState) (row x : ℕ) (held : Option ℕ) (others : List ℕ) → HoldsBeside hand x held others
    → held ≡ Some row → IsCounted hand.view.layout row → hand.view.references ≡ row ∷ others
took_item hand row x held others has is counted =
    has.references
    ∙ (ap (λ (o : Option ℕ). with_item hand.view.layout (word_of o) others) is
    ∙ ap (λ (b : Bool). if b then others else row ∷ others) counted)

-- A hand that has one more reference holds what it held,
pub holds_behind : (u v : View) (x y : ℕ) → v.references ≡ y ∷ u.references → 1 ≤ holds u x → 1 ≤ holds v x
holds_behind u v x y is held =
    omega (arith, ap (count_by (λ z. z == x)) is, held, sum_by-cons (λ (z : ℕ). cond (z == x) 1 0) y u.references)

-- and so does one that has the same references.
pub holds_same : (u v : View) (x : ℕ) → v.references ≡ u.references → 1 ≤ holds u x → 1 ≤ holds v x
holds_same u v x is held = omega (arith, ap (count_by (λ z. z == x)) is, held)

-- ---- the first of a batch is given up

-- The others are left,
pub holds_rest : (u v : View) {all : List ℕ} (x y : ℕ) (rows : List ℕ) → u.references ≡ all ++ y ∷ []
    → all ≡ x ∷ rows → v.references ≡ without_one x u.references → v.references ≡ rows ++ y ∷ []
holds_rest u v x y rows held is gives =
    gives
    ∙ (ap (without_one x) (held ∙ ap (λ (others : List ℕ). others ++ y ∷ []) is)
    ∙ without_first x (rows ++ y ∷ []))

-- and are counted.
pub counted_rest : (layout : Layout) {all : List ℕ} (x : ℕ) (rows : List ℕ) → All (λ row. IsCounted layout row) all
    → all ≡ x ∷ rows → All (λ row. IsCounted layout row) rows
counted_rest layout x rows counted is =
    All-tail (λ row. IsCounted layout row) x rows (subst (All (λ row. IsCounted layout row)) is counted)
