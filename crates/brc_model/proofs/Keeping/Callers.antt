-- The references of the first machine: each thread holds the root as the caller that lends it, and nothing else.
use Rattle.std.proofs.Common.{◌≡◌, ◌≢◌, ℕ, zero, suc, ◌<◌, ◌≤◌, refl, sym, ap, subst, arith, inl, inr}
use Rattle.std.specs.Prelude.{◌==◌}
use Rattle.std.proofs.lemmas.Bool.{eq-eqb}
use Rattle.std.proofs.lemmas.Bool.Decides.{eqb_tells}
use Rattle.brc_model.specs.declared.duty.Holding.{Holding}
use Rattle.brc_model.specs.declared.duty.Holding.TheVariants.{ByVariable, AsCaller, InFlight}
use Rattle.brc_model.specs.AbstractState.{same, references_to}
use Rattle.brc_model.specs.StepMachine.{caller_reference, callers_below}
use Rattle.brc_model.proofs.Basics.Bag.{other_thread, same-other_holder, held-cons, references_to-cons}
use Rattle.brc_model.specs.References.{held, one_if, cell_reference, reference_of}
use Rattle.brc_model.proofs.Dispatch.Holds.{the_root}
use Rattle.brc_model.specs.Layout.{root_row}

-- Two references that one thread holds as the caller are the same if their objects are.
same-one_caller : (t object row : ℕ)
    → same (reference_of t AsCaller object) (reference_of t AsCaller row) ≡ (object == row)
same-one_caller t object row = rw (eq-eqb t t refl) refl

pub callers_beyond : (n t : ℕ) (h : Holding) (object : ℕ) → n ≤ t → held (reference_of t h object) (callers_below n) ≡ 0
callers_beyond zero t h object past = refl
callers_beyond (suc n) t h object past =
    let x = reference_of t h object in
    let apart : t ≢ n = λ e. absurd (omega (arith, e)) in
    let other : one_if (same x (caller_reference n)) ≡ 0 =
    ap one_if (same-other_holder x (caller_reference n) (other_thread t n h AsCaller apart)) in
    omega (arith, held-cons x (caller_reference n) (callers_below n), other, callers_beyond n t h object (omega arith))

pub callers_off_cells : (n x i object : ℕ) → held (cell_reference x i object) (callers_below n) ≡ 0
callers_off_cells zero x i object = refl
callers_off_cells (suc n) x i object =
    omega (
      arith,
      held-cons (cell_reference x i object) (caller_reference n) (callers_below n),
      callers_off_cells n x i object,
    )

its_caller : (n : ℕ) (h : Holding) (object : ℕ)
    → one_if (same (reference_of n h object) (caller_reference n)) ≡ one_if (the_root h object)
its_caller n (ByVariable depth v) object =
    ap one_if (same-other_holder (reference_of n (ByVariable depth v) object) (caller_reference n)
    (rw (eq-eqb n n refl) refl))
its_caller n InFlight object =
    ap one_if (same-other_holder (reference_of n InFlight object) (caller_reference n) (rw (eq-eqb n n refl) refl))
its_caller n AsCaller object = ap one_if (same-one_caller n object root_row)

pub callers_hold : (n t : ℕ) (h : Holding) (object : ℕ) → t < n
    → held (reference_of t h object) (callers_below n) ≡ one_if (the_root h object)
callers_hold zero t h object below = absurd (omega arith)
callers_hold (suc n) t h object below =
    elim (eqb_tells t n) [
      | inl this ↦
          let P : ℕ
          → Type 0 = λ u. held (reference_of u h object) (callers_below (suc n)) ≡ one_if (the_root h object) in
          subst P (sym this.1) (omega (
            arith,
            held-cons (reference_of n h object) (caller_reference n) (callers_below n),
            its_caller n h object,
            callers_beyond n n h object (omega arith),
          ))
      | inr apart ↦
          let x = reference_of t h object in
          let other : one_if (same x (caller_reference n)) ≡ 0 =
          ap one_if (same-other_holder x (caller_reference n) (other_thread t n h AsCaller apart.1)) in
          let lower : t < n = omega (arith, below, apart.1) in
          omega (arith, held-cons x (caller_reference n) (callers_below n), other, callers_hold n t h object lower)
    ]

pub root_references : (n : ℕ) → references_to root_row (callers_below n) ≡ n
root_references zero = refl
root_references (suc n) =
    omega (arith, references_to-cons root_row (caller_reference n) (callers_below n), root_references n)

pub other_references : (n object : ℕ) → root_row ≢ object → references_to object (callers_below n) ≡ 0
other_references zero object apart = refl
other_references (suc n) object apart =
    elim (eqb_tells root_row object) [
      | inl this ↦ absurd (apart this.1)
      | inr other ↦
          let none : one_if (root_row == object) ≡ 0 = ap one_if other.0 in
          omega (
            arith,
            references_to-cons object (caller_reference n) (callers_below n),
            none,
            other_references n object apart,
          )
    ]
