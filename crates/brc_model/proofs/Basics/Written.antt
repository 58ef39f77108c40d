-- Writing one word of memory leaves all other words unchanged.
use Rattle.std.proofs.Common.{◌≡◌, ℕ, Bool, true, false, cond, refl, ap, ◌∙◌}
use Rattle.std.specs.Prelude.{◌==◌, ◌&&◌}
use Rattle.std.proofs.lemmas.Bool.{eqb-true, eq-eqb, ne_eqb}
use Rattle.brc_model.specs.declared.address.Address.{Address}
use Rattle.brc_model.specs.declared.address.Address.TheVariants.{Local, Shared, Gate, KindOf, Marks, Cell, Field, Resource, ThreadWord}
use Rattle.brc_model.specs.declared.duty.Duty.{Duty}
use Rattle.brc_model.specs.declared.duty.Duty.TheVariants.{RetainLoad, RetainAdd}
use Rattle.brc_model.specs.declared.layout.Layout.{Layout}
use Rattle.brc_model.specs.Duties.{address_of}
use Rattle.brc_model.specs.OpenWork.{is_about}
use Rattle.brc_model.specs.Machine.{same_address, written}
use Rattle.brc_model.proofs.Basics.Lists.{and_first, and_second}

-- One mark word has one place.
pub same_marks : (t w u v : ℕ) → same_address (Marks t w) (Marks u v) ≡ true → (t ≡ u) × (w ≡ v)
same_marks t w u v e =
    (eqb-true t u (and_first (t == u) (w == v) e), eqb-true w v (and_second (t == u) (w == v) e))

same_address-true : (a b : Address) → same_address a b ≡ true → a ≡ b
same_address-true (Local x) (Local y) e = ap Local (eqb-true x y e)
same_address-true (Shared x) (Shared y) e = ap Shared (eqb-true x y e)
same_address-true (Gate x) (Gate y) e = ap Gate (eqb-true x y e)
same_address-true (KindOf x) (KindOf y) e = ap KindOf (eqb-true x y e)
same_address-true (Marks t w) (Marks u v) e = λ k. Marks ((same_marks t w u v e).0 k) ((same_marks t w u v e).1 k)
same_address-true (Cell x i) (Cell y j) e =
    λ k. Cell (eqb-true x y (and_first (x == y) (i == j) e) k) (eqb-true i j (and_second (x == y) (i == j) e) k)
same_address-true (Field x) (Field y) e = ap Field (eqb-true x y e)
same_address-true (Resource x) (Resource y) e = ap Resource (eqb-true x y e)
same_address-true (ThreadWord x) (ThreadWord y) e = ap ThreadWord (eqb-true x y e)
same_address-true _ _ e = absurd cc

same_address-refl : (a : Address) → same_address a a ≡ true
same_address-refl (Local x) = eq-eqb x x refl
same_address-refl (Shared x) = eq-eqb x x refl
same_address-refl (Gate x) = eq-eqb x x refl
same_address-refl (KindOf x) = eq-eqb x x refl
same_address-refl (Marks t w) = ap (λ (b : Bool). b && (w == w)) (eq-eqb t t refl) ∙ eq-eqb w w refl
same_address-refl (Cell x i) = ap (λ (b : Bool). b && (i == i)) (eq-eqb x x refl) ∙ eq-eqb i i refl
same_address-refl (Field x) = eq-eqb x x refl
same_address-refl (Resource x) = eq-eqb x x refl
same_address-refl (ThreadWord x) = eq-eqb x x refl

-- A word that is 0 stays 0 if the step stores 0 in it or another word.
pub zero_written : (b : Bool) (v : ℕ) → v ≡ 0 → cond b 0 v ≡ 0
zero_written true v e = refl
zero_written false v e = e

pub written_here : (memory : Address → ℕ) (a : Address) (v : ℕ) → written memory a v a ≡ v
written_here memory a v = ap (λ (b : Bool). cond b v (memory a)) (same_address-refl a)

pub written_apart : (memory : Address → ℕ) (a b : Address) (v : ℕ) → same_address a b ≡ false
    → written memory a v b ≡ memory b
written_apart memory a b v apart = ap (λ (t : Bool). cond t v (memory b)) apart

-- A load writes the word that it found, so memory is unchanged.
pub written_load : (memory : Address → ℕ) (a b : Address) → written memory a (memory a) b ≡ memory b
written_load memory a b =
    elim (same_address a b) as (λ t. same_address a b ≡ t → cond t (memory a) (memory b) ≡ memory b) [
      | true ↦ λ e. ap memory (same_address-true a b e)
      | false ↦ λ e. refl
    ] refl

pub apart_local : (x y : ℕ) → (x ≡ y → ⊥) → same_address (Local x) (Local y) ≡ false
apart_local x y ne = ne_eqb x y ne

pub apart_shared : (x y : ℕ) → (x ≡ y → ⊥) → same_address (Shared x) (Shared y) ≡ false
apart_shared x y ne = ne_eqb x y ne

pub apart_gate : (x y : ℕ) → (x ≡ y → ⊥) → same_address (Gate x) (Gate y) ≡ false
apart_gate x y ne = ne_eqb x y ne

pub apart_thread : (x y : ℕ) → (x ≡ y → ⊥) → same_address (ThreadWord x) (ThreadWord y) ≡ false
apart_thread x y ne = ne_eqb x y ne

-- ---- a duty about another row asks for another local word, and for another shared one

pub other_local : (layout : Layout) (t head : ℕ) (d : Duty) (x : ℕ) → is_about x d ≡ false
    → same_address (address_of layout t head d) (Local x) ≡ false
other_local layout t head (RetainLoad y h) x e = e
other_local layout t head _ x e = cc

pub other_shared : (layout : Layout) (t head : ℕ) (d : Duty) (x : ℕ) → is_about x d ≡ false
    → same_address (address_of layout t head d) (Shared x) ≡ false
other_shared layout t head (RetainAdd y h) x e = e
other_shared layout t head _ x e = cc
