-- The references to an object are those of the threads, and those that cells hold: each reference in the bag is counted
-- for one thread or for one cell, once.
use Rattle.std.proofs.Common.{◌≡◌, ℕ, zero, suc, ◌+◌, ◌<◌, ◌≤◌, Bool, true, false, List, [], ◌∷◌, inl, inr, refl, sym, ap, ◌∙◌, subst, arith}
use Rattle.std.specs.Prelude.{◌==◌, ◌&&◌}
use Rattle.std.proofs.lemmas.Bool.{eq-eqb, ne_eqb, cases_lt}
use Rattle.std.proofs.lemmas.Bool.Decides.{eqb_tells}
use Rattle.brc_model.specs.declared.duty.Holding.{Holding}
use Rattle.brc_model.specs.declared.duty.Holding.TheVariants.{ByVariable, AsCaller, InFlight}
use Rattle.brc_model.specs.AbstractState.{Holder, ByThread, ByCell, Reference, same, same_holder, references_to}
use Rattle.brc_model.specs.References.{held, one_if, reference_of, cell_reference}
use Rattle.brc_model.specs.CountingLaws.{over_threads, is_in_cell, in_cells, SharesOfThreads}
use Rattle.brc_model.proofs.Basics.Bag.{held-cons, held_itself, references_to-cons}
use Rattle.brc_model.proofs.Limits.CellShares.{over_each, over_sum, this_object, no_object, in_cells-cons, cells_hold}

-- ---- sums over the threads

over_none : (n : ℕ) → over_threads (λ t. 0) n ≡ 0
over_none zero = refl
over_none (suc t) = omega (arith, over_none t)

-- A thread is counted once if it is below the number, and else not at all.
over_past : (u n : ℕ) → n ≤ u → over_threads (λ t. one_if (t == u)) n ≡ 0
over_past u zero past = refl
over_past u (suc t) past =
    let none : one_if (t == u) ≡ 0 = ap one_if (ne_eqb t u (λ e. absurd (omega (arith, e, past)))) in
    omega (arith, none, over_past u t (omega (arith, past)))

over_one : (u n : ℕ) → u < n → over_threads (λ t. one_if (t == u)) n ≡ 1
over_one u zero low = absurd (omega (arith, low))
over_one u (suc t) low =
    elim (eqb_tells t u) [
      | inl this ↦
          let one : one_if (t == u) ≡ 1 = ap one_if this.0 in
          omega (arith, one, over_past u t (omega (arith, this.1)))
      | inr apart ↦
          let none : one_if (t == u) ≡ 0 = ap one_if apart.0 in
          omega (arith, none, over_one u t (omega (arith, low, apart.1)))
    ]

-- ---- one reference

-- how often a reference is the thread's reference to the object, as the caller or in flight
abbrev share : ℕ → Reference → ℕ → ℕ
share x q t = one_if (same (reference_of t AsCaller x) q) + one_if (same (reference_of t InFlight x) q)

-- the same of a bag
abbrev shares : ℕ → List Reference → ℕ → ℕ
shares x bag t = held (reference_of t AsCaller x) bag + held (reference_of t InFlight x) bag

-- Of the threads, nothing but those below the number holds the object, each as the caller or in flight.
record IsOfThreads (x n : ℕ) (bag : List Reference) : Type 0 where
  variables : (t depth v : ℕ) → held (reference_of t (ByVariable depth v) x) bag ≡ 0
  beyond : (t : ℕ) → n ≤ t → (k : Holding) → held (reference_of t k x) bag ≡ 0

other_row : (holders : Bool) (a b : ℕ) → (a ≡ b → ⊥) → one_if (holders && (a == b)) ≡ 0
other_row true a b ne = ap one_if (ne_eqb a b ne)
other_row false a b ne = refl

-- A reference to another object is no thread's reference to this one.
share_elsewhere : (x n : ℕ) (q : Reference) → (x ≡ q.object → ⊥) → over_threads (share x q) n ≡ 0
share_elsewhere x n q ne =
    over_each (share x q) (λ t. 0) n (λ t.
    omega (
      arith,
      other_row (same_holder (ByThread t AsCaller) q.holder) x q.object ne,
      other_row (same_holder (ByThread t InFlight) q.holder) x q.object ne,
    ))
    ∙ over_none n

as_caller : (b c : Bool) → c ≡ true → one_if ((b && true) && c) + one_if ((b && false) && c) ≡ one_if b
as_caller true c e = omega (arith, ap one_if e)
as_caller false c e = refl

in_flight : (b c : Bool) → c ≡ true → one_if ((b && false) && c) + one_if ((b && true) && c) ≡ one_if b
in_flight true c e = omega (arith, ap one_if e)
in_flight false c e = refl

-- A reference of a thread below the number, as the caller or in flight, is one thread's reference, once.
caller_share : (x n u : ℕ) → u < n → over_threads (share x (reference_of u AsCaller x)) n ≡ 1
caller_share x n u low =
    over_each (share x (reference_of u AsCaller x)) (λ t. one_if (t == u)) n
    (λ t. as_caller (t == u) (x == x) (eq-eqb x x refl))
    ∙ over_one u n low

flight_share : (x n u : ℕ) → u < n → over_threads (share x (reference_of u InFlight x)) n ≡ 1
flight_share x n u low =
    over_each (share x (reference_of u InFlight x)) (λ t. one_if (t == u)) n
    (λ t. in_flight (t == u) (x == x) (eq-eqb x x refl))
    ∙ over_one u n low

-- A thread that holds the object is below the number.
holder_low : (x n u : ℕ) (k : Holding) (bag : List Reference) → IsOfThreads x n (reference_of u k x ∷ bag) → u < n
holder_low x n u k bag of = elim (cases_lt u n) [
  | inl low ↦ low
  | inr past ↦ absurd (omega (arith, of.beyond u past k, held_itself (reference_of u k x) bag))
]

-- A reference is one thread's, once, or a cell's.
share_here : (x n : ℕ) (h : Holder) (bag : List Reference)
    → IsOfThreads x n (record { holder = h; object = x } ∷ bag)
    → over_threads (share x (record { holder = h; object = x })) n + one_if (is_in_cell h) ≡ 1
share_here x n (ByCell y i) bag of =
    let none : over_threads (share x (cell_reference y i x)) n ≡ 0 =
    over_each (share x (cell_reference y i x)) (λ t. 0) n (λ t. refl) ∙ over_none n in
    omega (arith, none)
share_here x n (ByThread u (ByVariable depth v)) bag of =
    absurd (omega (arith, of.variables u depth v, held_itself (reference_of u (ByVariable depth v) x) bag))
share_here x n (ByThread u AsCaller) bag of =
    let one = caller_share x n u (holder_low x n u AsCaller bag of) in omega (arith, one)
share_here x n (ByThread u InFlight) bag of =
    let one = flight_share x n u (holder_low x n u InFlight bag of) in omega (arith, one)

-- ---- all references

-- What holds of a bag holds of the bag without its first reference.
of_rest : (x n : ℕ) (q : Reference) (bag : List Reference) → IsOfThreads x n (q ∷ bag) → IsOfThreads x n bag
of_rest x n q bag of = record {
  variables = λ t depth v.
      omega (arith, of.variables t depth v, held-cons (reference_of t (ByVariable depth v) x) q bag);
  beyond = λ t past k. omega (arith, of.beyond t past k, held-cons (reference_of t k x) q bag);
}

-- With one reference more in the bag, the threads have it more.
shares_more : (x n : ℕ) (q : Reference) (bag : List Reference)
    → over_threads (shares x (q ∷ bag)) n ≡ over_threads (share x q) n + over_threads (shares x bag) n
shares_more x n q bag =
    over_each (shares x (q ∷ bag)) (λ t. share x q t + shares x bag t) n
    (λ t. omega (arith, held-cons (reference_of t AsCaller x) q bag, held-cons (reference_of t InFlight x) q bag))
    ∙ over_sum (share x q) (shares x bag) n

shares_in : (x n : ℕ) (bag : List Reference) → IsOfThreads x n bag
    → references_to x bag ≡ over_threads (shares x bag) n + in_cells x bag
shares_in x n [] of = omega (arith, over_none n)
shares_in x n (q ∷ bag) of =
    let rest = shares_in x n bag (of_rest x n q bag of) in
    elim (eqb_tells q.object x) [
      | inl this ↦
          let here : IsOfThreads x n (record { holder = q.holder; object = x } ∷ bag) =
          subst (λ (y : ℕ). IsOfThreads x n (record { holder = q.holder; object = y } ∷ bag)) this.1 of in
          let one : over_threads (share x q) n + one_if (is_in_cell q.holder) ≡ 1 =
          subst (λ (y : ℕ). over_threads (share x (record { holder = q.holder; object = y })) n
          + one_if (is_in_cell q.holder) ≡ 1) (sym this.1) (share_here x n q.holder bag here) in
          omega (
            arith,
            references_to-cons x q bag,
            ap one_if this.0,
            one,
            shares_more x n q bag,
            rest,
            in_cells-cons x q bag,
            this_object (is_in_cell q.holder) (q.object == x) this.0,
          )
      | inr apart ↦
          omega (
            arith,
            references_to-cons x q bag,
            ap one_if apart.0,
            share_elsewhere x n q (λ e. apart.1 (sym e)),
            shares_more x n q bag,
            rest,
            in_cells-cons x q bag,
            no_object (is_in_cell q.holder) (q.object == x) apart.0,
          )
    ]

-- The references to an object are those of the threads, and those that cells hold, if no thread holds the object by a
-- variable.
pub shares_of_threads : SharesOfThreads
shares_of_threads p n m x counts none =
    let all = shares_in x n m.abstract.references (record {
      variables = none;
      beyond = λ t past k. counts.kept.core.beyond t past k x;
    }) in
    omega (arith, all, cells_hold p n m x counts)
