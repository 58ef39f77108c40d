-- How a step changes the bag, for steps that move nothing, gain one reference or lose one.
use Rattle.std.proofs.Common.{◌≡◌, ℕ, Bool, true, false, List, ◌∷◌, refl, sym, ap, ◌∙◌, arith}
use Rattle.std.specs.Prelude.{◌==◌, ◌&&◌}
use Rattle.std.specs.List.{list_any}
use Rattle.std.proofs.lemmas.Bool.{eqb-true, eqb-false, eq-eqb, ne_eqb}
use Rattle.brc_model.specs.declared.duty.Holding.{Holding}
use Rattle.brc_model.specs.declared.duty.Holding.TheVariants.{ByVariable, AsCaller, InFlight}
use Rattle.brc_model.specs.AbstractState.{Reference, same_holding, same, without}
use Rattle.brc_word.specs.Words.{is_immortal_word}
use Rattle.brc_model.specs.declared.duty.Duty.{Duty}
use Rattle.brc_model.specs.declared.duty.Duty.TheVariants.{RetainLoad}
use Rattle.brc_model.specs.declared.address.Address.TheVariants.{Local}
use Rattle.brc_model.specs.declared.actor.Actor.{Actor}
use Rattle.brc_model.specs.Machine.{Machine}
use Rattle.brc_model.proofs.Basics.Bag.{held-cons, held-without}
use Rattle.brc_model.specs.References.{one_if, reference_of}
use Rattle.brc_model.specs.Accounts.{Accounts, extra_of, lacks_of}
use Rattle.brc_model.proofs.Frame.Alive.{alive_backed}
use Rattle.brc_model.proofs.Frame.Leaves.{head_of}
use Rattle.brc_model.proofs.Stepping.Own.{HeldStep}
use Rattle.brc_model.specs.Invariant.{AtDuty, numbers_of}
use Rattle.brc_model.specs.Layout.{IsCounted, block_of}
use Rattle.brc_model.proofs.Objects.RowsAfterOwn.{counted_word}

-- ---- the bag

-- The test for equality is symmetric.
pub flip_eqb : (x y : ℕ) → (x == y) ≡ (y == x)
flip_eqb x y = elim (y == x) as (λ b. (y == x) ≡ b → (x == y) ≡ b) [
  | true ↦ λ e. eq-eqb x y (sym (eqb-true y x e))
  | false ↦ λ e. ne_eqb x y (λ s. eqb-false y x e (sym s))
] refl

flip_holding : (h k : Holding) → same_holding k h ≡ same_holding h k
flip_holding (ByVariable depth v) (ByVariable other w) =
    ap (λ (b : Bool). b && (w == v)) (flip_eqb other depth) ∙ ap (λ (b : Bool). (depth == other) && b) (flip_eqb w v)
flip_holding (ByVariable depth v) AsCaller = refl
flip_holding (ByVariable depth v) InFlight = refl
flip_holding AsCaller (ByVariable other w) = refl
flip_holding AsCaller AsCaller = refl
flip_holding AsCaller InFlight = refl
flip_holding InFlight (ByVariable other w) = refl
flip_holding InFlight AsCaller = refl
flip_holding InFlight InFlight = refl

both_ways : (k h : Holding) (object x : ℕ) → (same_holding k h && (object == x)) ≡ (same_holding h k && (x == object))
both_ways k h object x =
    ap (λ (b : Bool). b && (object == x)) (flip_holding h k)
    ∙ ap (λ (b : Bool). same_holding h k && b) (flip_eqb object x)

-- Two references of one thread are the same if their ways of holding and their objects are.
pub same_is : (t x : ℕ) (h k : Holding) (object : ℕ)
    → same (reference_of t k object) (reference_of t h x) ≡ (same_holding h k && (x == object))
same_is t x h k object =
    let threads : (t == t) ≡ true = eq-eqb t t refl in
    let front : same (reference_of t k object) (reference_of t h x) ≡ (same_holding k h && (object == x)) =
    ap (λ (b : Bool). b && same_holding k h && (object == x)) threads in
    front ∙ both_ways k h object x

-- The bag is unchanged, and the agenda makes and gives up the same references as before.
pub held_same : (bag : List Reference) (t : ℕ) (agenda later : List Duty)
    → ((k : Holding) (object : ℕ) → extra_of later k object ≡ extra_of agenda k object)
    → ((k : Holding) (object : ℕ) → lacks_of later k object ≡ lacks_of agenda k object)
    → HeldStep bag bag t agenda later
held_same bag t agenda later more less = record {
  each =
      λ k object. let a : one_if (extra_of later k object) ≡ one_if (extra_of agenda k object) =
      ap one_if (more k object) in
      let b : one_if (lacks_of later k object) ≡ one_if (lacks_of agenda k object) = ap one_if (less k object) in
      omega (arith, a, b);
}

-- The step gains the reference that its duty makes.
pub held_gained : (bag : List Reference) (t x : ℕ) (h : Holding) (agenda later : List Duty)
    → ((k : Holding) (object : ℕ) → lacks_of agenda k object ≡ (same_holding h k && (x == object)))
    → ((k : Holding) (object : ℕ) → extra_of agenda k object ≡ false)
    → ((k : Holding) (object : ℕ) → extra_of later k object ≡ false)
    → ((k : Holding) (object : ℕ) → lacks_of later k object ≡ false)
    → HeldStep bag (reference_of t h x ∷ bag) t agenda later
held_gained bag t x h agenda later lacked no_more more less = record {
  each = λ k object.
      let r = reference_of t k object in
      let one : one_if (same r (reference_of t h x)) ≡ one_if (lacks_of agenda k object) =
      ap one_if (same_is t x h k object ∙ sym (lacked k object)) in
      let a : one_if (extra_of agenda k object) ≡ 0 = ap one_if (no_more k object) in
      let b : one_if (extra_of later k object) ≡ 0 = ap one_if (more k object) in
      let c : one_if (lacks_of later k object) ≡ 0 = ap one_if (less k object) in
      omega (arith, held-cons r (reference_of t h x) bag, one, a, b, c);
}

-- The step loses the reference that its duty gives up.
pub held_lost : (bag : List Reference) (t x : ℕ) (h : Holding) (agenda later : List Duty)
    → list_any (same (reference_of t h x)) bag ≡ true
    → ((k : Holding) (object : ℕ) → extra_of agenda k object ≡ (same_holding h k && (x == object)))
    → ((k : Holding) (object : ℕ) → lacks_of agenda k object ≡ false)
    → ((k : Holding) (object : ℕ) → extra_of later k object ≡ false)
    → ((k : Holding) (object : ℕ) → lacks_of later k object ≡ false)
    → HeldStep bag (without (reference_of t h x) bag) t agenda later
held_lost bag t x h agenda later has extra no_less more less = record {
  each = λ k object.
      let r = reference_of t k object in
      let one : one_if (same r (reference_of t h x)) ≡ one_if (extra_of agenda k object) =
      ap one_if (same_is t x h k object ∙ sym (extra k object)) in
      let a : one_if (lacks_of agenda k object) ≡ 0 = ap one_if (no_less k object) in
      let b : one_if (extra_of later k object) ≡ 0 = ap one_if (more k object) in
      let c : one_if (lacks_of later k object) ≡ 0 = ap one_if (less k object) in
      omega (arith, held-without r (reference_of t h x) bag has, one, a, b, c);
}

-- ---- retains

module _ {p : Accounts} {n : ℕ} {m : Machine} {t : ℕ} {a : Actor} {rest : List Duty} where
  -- A counted object that a thread may retain isn't immortal.
  pub backed_not_immortal : (x : ℕ) (h : Holding) → IsCounted m.layout x → AtDuty p n m t a (RetainLoad x h) rest
      → is_immortal_word (m.memory (Local x)) ≡ false
  backed_not_immortal x h pos here =
      counted_word (block_of m.layout x) (numbers_of m x) (alive_backed t a x here.core pos (head_of here)).live
