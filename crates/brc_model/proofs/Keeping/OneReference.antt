-- One reference less or more, in the bag and in the account of its thread.
use Rattle.std.proofs.Common.{◌≡◌, ℕ, ◌<◌, ◌≤◌, Bool, true, false, List, [], ◌∷◌, inl, inr, refl, ap, ◌∙◌, subst, arith}
use Rattle.std.specs.Prelude.{◌==◌, ◌&&◌}
use Rattle.std.specs.List.{list_any}
use Rattle.std.proofs.lemmas.Bool.{eq-eqb, eqb-true, ne_eqb}
use Rattle.std.proofs.lemmas.Bool.Decides.{eqb_tells}
use Rattle.brc_model.specs.declared.duty.Holding.{Holding}
use Rattle.brc_model.specs.declared.duty.Holding.TheVariants.{AsCaller}
use Rattle.brc_model.specs.declared.duty.Duty.{Duty}
use Rattle.brc_model.specs.declared.layout.Layout.{Layout}
use Rattle.brc_model.specs.AbstractState.{Reference, ByThread, same, same_holder, same_holding, without}
use Rattle.brc_model.specs.References.{held, one_if, reference_of}
use Rattle.brc_model.specs.declared.actor.Actor.{Actor}
use Rattle.brc_model.specs.Accounts.{Account, HoldsAt, IsBounded, most_lent, lacks_of}
use Rattle.brc_model.specs.OpenWork.{about_of}
use Rattle.brc_model.specs.Counting.{HasNoneAbout, with_one_less, with_one_more}
use Rattle.brc_model.proofs.Basics.Bag.{eqb_swapped, same_holding-true, same_holding-swapped, held_has, held-cons, held-without, one_if_low}
use Rattle.brc_model.proofs.Basics.Lists.{and_first, and_second}
use Rattle.brc_model.proofs.Frame.Aside.{lacks_about, lacks_counted}
use Rattle.brc_model.specs.Layout.{IsCounted}

-- Two references of one thread are the same if their ways of holding and their objects are.
same_own : (t : ℕ) (h k : Holding) (x object : ℕ)
    → same (reference_of t k object) (reference_of t h x) ≡ (same_holding h k && (x == object))
same_own t h k x object = rw (eq-eqb t t refl, same_holding-swapped k h, eqb_swapped object x) refl

and_false : (b : Bool) → (b && false) ≡ false
and_false true = refl
and_false false = refl

-- The account has the reference that it is to have less.
one_less_low : (account : Account) (h k : Holding) (x object : ℕ) → 1 ≤ account h x
    → one_if (same_holding h k && (x == object)) ≤ account k object
one_less_low account h k x object some =
    elim (same_holding h k && (x == object)) as
    (λ b. (same_holding h k && (x == object)) ≡ b → one_if b ≤ account k object) [
      | true ↦ λ e.
          let holding : h ≡ k = same_holding-true h k (and_first _ _ e) in
          let row : x ≡ object = eqb-true x object (and_second (same_holding h k) _ e) in
          subst (λ (y : ℕ). 1 ≤ account k y) row (subst (λ (w : Holding). 1 ≤ account w x) holding some)
      | false ↦ λ e. omega arith
    ] refl

-- An agenda whose first duty makes a reference to an object is about the object's row.
lacks_of_about : (agenda : List Duty) (k : Holding) (x : ℕ) → one_if (lacks_of agenda k x) ≤ one_if (about_of x agenda)
lacks_of_about [] k x = omega arith
lacks_of_about (d ∷ rest) k x = lacks_about d k x

-- The bag has a reference of the thread's account, if none of its open work is about the object.
pub account_held : (bag : List Reference) (t : ℕ) (account : Account) (a : Actor) (h : Holding) (x : ℕ)
    → HoldsAt bag t account a.agenda a.aside → HasNoneAbout a x → 1 ≤ account h x
    → list_any (same (reference_of t h x)) bag ≡ true
account_held bag t account a h x holds none some =
    held_has (reference_of t h x) bag (omega (
      arith,
      holds.each h x,
      none,
      some,
      lacks_of_about a.agenda h x,
      lacks_counted a.aside h x,
    ))

-- References to two objects are two references.
other_object : (t : ℕ) (h k : Holding) (x y : ℕ) → (y ≡ x → ⊥)
    → one_if (same (reference_of t k y) (reference_of t h x)) ≡ 0
other_object t h k x y ne =
    let holders = same_holder (ByThread t k) (ByThread t h) in
    ap (λ (b : Bool). one_if (holders && b)) (ne_eqb y x ne) ∙ ap one_if (and_false holders)

-- With one reference less or more, the bag has as many references to another object as before.
pub held_elsewhere : (bag : List Reference) (t : ℕ) (h : Holding) (x : ℕ) (k : Holding) (y : ℕ)
    → list_any (same (reference_of t h x)) bag ≡ true → (y ≡ x → ⊥)
    → held (reference_of t k y) (without (reference_of t h x) bag) ≡ held (reference_of t k y) bag
held_elsewhere bag t h x k y has ne =
    omega (arith, held-without (reference_of t k y) (reference_of t h x) bag has, other_object t h k x y ne)

pub held_besides : (bag : List Reference) (t : ℕ) (h : Holding) (x : ℕ) (k : Holding) (y : ℕ) → (y ≡ x → ⊥)
    → held (reference_of t k y) (reference_of t h x ∷ bag) ≡ held (reference_of t k y) bag
held_besides bag t h x k y ne =
    omega (arith, held-cons (reference_of t k y) (reference_of t h x) bag, other_object t h k x y ne)

-- Bag and account still agree if both lose the reference,
pub holds_less : (bag : List Reference) (t : ℕ) (account : Account) (agenda aside : List Duty) (h : Holding) (x : ℕ)
    → HoldsAt bag t account agenda aside → list_any (same (reference_of t h x)) bag ≡ true → 1 ≤ account h x
    → HoldsAt (without (reference_of t h x) bag) t (with_one_less account h x) agenda aside
holds_less bag t account agenda aside h x holds has some = record {
  each = λ k object.
      omega (
        arith,
        holds.each k object,
        held-without (reference_of t k object) (reference_of t h x) bag has,
        ap one_if (same_own t h k x object),
        one_less_low account h k x object some,
      );
}

-- or both gain it.
pub holds_more : (bag : List Reference) (t : ℕ) (account : Account) (agenda aside : List Duty) (h : Holding) (x : ℕ)
    → HoldsAt bag t account agenda aside
    → HoldsAt (reference_of t h x ∷ bag) t (with_one_more account h x) agenda aside
holds_more bag t account agenda aside h x holds = record {
  each = λ k object.
      omega (
        arith,
        holds.each k object,
        held-cons (reference_of t k object) (reference_of t h x) bag,
        ap one_if (same_own t h k x object),
      );
}

-- An account stays within its bounds with one reference less, and with one more if there is room for it.
pub bounded_less : (layout : Layout) (account : Account) (x : ℕ) → IsBounded layout account
    → IsBounded layout (with_one_less account AsCaller x)
bounded_less layout account x bounded = record {
  by_variable = λ depth v object. omega (arith, bounded.by_variable depth v object);
  sixteen = λ depth v object past. omega (arith, bounded.sixteen depth v object past);
  shallow = λ depth v object deep. omega (arith, bounded.shallow depth v object deep);
  lent = λ object counted. omega (arith, bounded.lent object counted);
  in_flight = λ object. omega (arith, bounded.in_flight object);
}

-- With one reference more, a thread still holds at most `most_lent` to a counted object.
pub bounded_more : (layout : Layout) (account : Account) (x : ℕ) → IsBounded layout account
    → (IsCounted layout x → account AsCaller x < most_lent) → IsBounded layout (with_one_more account AsCaller x)
bounded_more layout account x bounded few = record {
  by_variable = λ depth v object. omega (arith, bounded.by_variable depth v object);
  sixteen = λ depth v object past. omega (arith, bounded.sixteen depth v object past);
  shallow = λ depth v object deep. omega (arith, bounded.shallow depth v object deep);
  lent = λ object counted. elim (eqb_tells x object) [
    | inl same ↦
        let low = subst (λ (y : ℕ). IsCounted layout y → account AsCaller y < most_lent) same.1 few counted in
        omega (arith, low, one_if_low (x == object))
    | inr other ↦
        let none : one_if (x == object) ≡ 0 = ap one_if other.0 in
        omega (arith, bounded.lent object counted, none)
  ];
  in_flight = λ object. omega (arith, bounded.in_flight object);
}
