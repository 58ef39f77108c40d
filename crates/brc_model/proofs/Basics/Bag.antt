-- How often a reference is in the bag of references, before and after a move.
use Rattle.std.proofs.Common.{◌≡◌, ◌≢◌, ℕ, ◌+◌, ◌<◌, ◌≤◌, Bool, true, false, cond, List, [], ◌∷◌, inl, inr, refl, sym, ap, ◌∙◌, subst, arith}
use Rattle.std.specs.Prelude.{◌==◌, ◌&&◌, ◌||◌, count_by}
use Rattle.std.specs.List.{list_any}
use Rattle.std.proofs.lemmas.Bool.{eqb-true, eq-eqb, ne_eqb}
use Rattle.std.proofs.lemmas.Bool.Decides.{eqb_tells}
use Rattle.std.proofs.lemmas.List.Sums.{sum_by-cons}
use Rattle.brc_model.proofs.Basics.Lists.{and_first, and_second}
use Rattle.brc_model.specs.declared.duty.Holding.{Holding}
use Rattle.brc_model.specs.declared.duty.Holding.TheVariants.{ByVariable, AsCaller, InFlight}
use Rattle.brc_model.specs.AbstractState.{Holder, ByThread, ByCell, Reference, same_holding, same_holder, same, without, references_to, is_cell_of, holds_by_cells}
use Rattle.brc_model.specs.References.{held, one_if, cell_reference}

pub one_if_low : (b : Bool) → one_if b ≤ 1
one_if_low true = omega arith
one_if_low false = omega arith

pub one_if_true : (b : Bool) → 0 < one_if b → b ≡ true
one_if_true true some = refl
one_if_true false some = absurd (omega (arith, some))

-- Equality of numbers is the same either way round.
pub eqb_swapped : (a b : ℕ) → (a == b) ≡ (b == a)
eqb_swapped a b = elim (eqb_tells a b) [
  | inl this ↦ this.0 ∙ sym (eq-eqb b a (sym this.1))
  | inr apart ↦ apart.0 ∙ sym (ne_eqb b a (λ e. apart.1 (sym e)))
]

pub same_holding-true : (h k : Holding) → same_holding h k ≡ true → h ≡ k
same_holding-true (ByVariable depth v) (ByVariable other w) e =
    let depths : depth ≡ other = eqb-true depth other (and_first (depth == other) (v == w) e) in
    let variables : v ≡ w = eqb-true v w (and_second (depth == other) (v == w) e) in
    λ i. ByVariable (depths i) (variables i)
same_holding-true (ByVariable depth v) AsCaller e = absurd cc
same_holding-true AsCaller (ByVariable other w) e = absurd cc
same_holding-true AsCaller AsCaller e = refl
same_holding-true (ByVariable depth v) InFlight e = absurd cc
same_holding-true AsCaller InFlight e = absurd cc
same_holding-true InFlight (ByVariable other w) e = absurd cc
same_holding-true InFlight AsCaller e = absurd cc
same_holding-true InFlight InFlight e = refl

pub same_holding-refl : (h : Holding) → same_holding h h ≡ true
same_holding-refl (ByVariable depth v) =
    ap (λ (b : Bool). b && (v == v)) (eq-eqb depth depth refl) ∙ eq-eqb v v refl
same_holding-refl AsCaller = refl
same_holding-refl InFlight = refl

pub same_holding-swapped : (h k : Holding) → same_holding h k ≡ same_holding k h
same_holding-swapped (ByVariable depth v) (ByVariable other w) =
    ap (λ (b : Bool). b && (v == w)) (eqb_swapped depth other) ∙ ap (λ (b : Bool). (other == depth) && b)
    (eqb_swapped v w)
same_holding-swapped (ByVariable depth v) AsCaller = refl
same_holding-swapped (ByVariable depth v) InFlight = refl
same_holding-swapped AsCaller (ByVariable other w) = refl
same_holding-swapped AsCaller AsCaller = refl
same_holding-swapped AsCaller InFlight = refl
same_holding-swapped InFlight (ByVariable other w) = refl
same_holding-swapped InFlight AsCaller = refl
same_holding-swapped InFlight InFlight = refl

pub same_holder-true : (h k : Holder) → same_holder h k ≡ true → h ≡ k
same_holder-true (ByThread t h) (ByThread u k) e =
    let threads : t ≡ u = eqb-true t u (and_first (t == u) (same_holding h k) e) in
    let holdings : h ≡ k = same_holding-true h k (and_second (t == u) (same_holding h k) e) in
    λ i. ByThread (threads i) (holdings i)
same_holder-true (ByCell x i) (ByCell y j) e =
    let lists : x ≡ y = eqb-true x y (and_first (x == y) (i == j) e) in
    let cells : i ≡ j = eqb-true i j (and_second (x == y) (i == j) e) in
    λ w. ByCell (lists w) (cells w)
same_holder-true (ByThread t h) (ByCell y j) e = absurd cc
same_holder-true (ByCell x i) (ByThread u k) e = absurd cc

pub same_holder-refl : (h : Holder) → same_holder h h ≡ true
same_holder-refl (ByThread t h) = rw (eq-eqb t t refl, same_holding-refl h) refl
same_holder-refl (ByCell x i) = rw (eq-eqb x x refl, eq-eqb i i refl) refl

-- Different threads are different holders.
pub other_thread : (t u : ℕ) (h k : Holding) → t ≢ u → same_holder (ByThread t h) (ByThread u k) ≡ false
other_thread t u h k ne = ap (λ (b : Bool). b && same_holding h k) (ne_eqb t u ne)

pub same-true : (r q : Reference) → same r q ≡ true → r ≡ q
same-true r q e =
    let holders : r.holder ≡ q.holder =
    same_holder-true _ _ (and_first (same_holder r.holder q.holder) (r.object == q.object) e) in
    let objects : r.object ≡ q.object =
    eqb-true _ _ (and_second (same_holder r.holder q.holder) (r.object == q.object) e) in
    λ i. record { holder = holders i; object = objects i }

pub same-refl : (r : Reference) → same r r ≡ true
same-refl r = rw (same_holder-refl r.holder, eq-eqb r.object r.object refl) refl

-- References with different holders are different.
pub same-other_holder : (r q : Reference) → same_holder r.holder q.holder ≡ false → same r q ≡ false
same-other_holder r q other = ap (λ (b : Bool). b && (r.object == q.object)) other

-- ---- counting in the bag

pub count_by-cons : (p : Reference → Bool) (q : Reference) (bag : List Reference)
    → count_by p (q ∷ bag) ≡ one_if (p q) + count_by p bag
count_by-cons p q bag = sum_by-cons (λ (x : Reference). cond (p x) 1 0) q bag

pub held-cons : (r q : Reference) (bag : List Reference) → held r (q ∷ bag) ≡ one_if (same r q) + held r bag
held-cons r q bag = count_by-cons (same r) q bag

pub references_to-cons : (object : ℕ) (q : Reference) (bag : List Reference)
    → references_to object (q ∷ bag) ≡ one_if (q.object == object) + references_to object bag
references_to-cons object q bag = count_by-cons (λ (r : Reference). r.object == object) q bag

pub held_has : (r : Reference) (bag : List Reference) → 0 < held r bag → list_any (same r) bag ≡ true
held_has r [] h = absurd (omega arith)
held_has r (q ∷ qs) h =
    elim (same r q) as (λ b. same r q ≡ b → list_any (same r) (q ∷ qs) ≡ true) [
      | true ↦ λ e. rw e refl
      | false ↦ λ e.
          let counts : held r (q ∷ qs) ≡ 0 + held r qs = held-cons r q qs ∙ ap (λ (b : Bool). one_if b + held r qs) e in
          rw e (held_has r qs (omega (arith, counts)))
    ] refl

pub held-le-references_to : (r : Reference) (bag : List Reference) → held r bag ≤ references_to r.object bag
held-le-references_to r [] = omega arith
held-le-references_to r (q ∷ qs) =
    elim (same r q) as (λ b. same r q ≡ b → held r (q ∷ qs) ≤ references_to r.object (q ∷ qs)) [
      | true ↦ λ e.
          let object : (q.object == r.object) ≡ true =
          eq-eqb _ _ (sym (ap (λ (x : Reference). x.object) (same-true r q e))) in
          let left : held r (q ∷ qs) ≡ 1 + held r qs = held-cons r q qs ∙ ap (λ (b : Bool). one_if b + held r qs) e in
          let right : references_to r.object (q ∷ qs) ≡ 1 + references_to r.object qs =
          references_to-cons r.object q qs ∙ ap (λ (b : Bool). one_if b + references_to r.object qs) object in
          omega (arith, left, right, held-le-references_to r qs)
      | false ↦ λ e.
          let left : held r (q ∷ qs) ≡ 0 + held r qs = held-cons r q qs ∙ ap (λ (b : Bool). one_if b + held r qs) e in
          omega (arith, left, references_to-cons r.object q qs, held-le-references_to r qs)
    ] refl

-- ---- one reference less

-- Removing one reference from the bag lowers the count of any test that the reference passes by one.
count-without : (p : Reference → Bool) (q : Reference) (bag : List Reference) → list_any (same q) bag ≡ true
    → count_by p (without q bag) + one_if (p q) ≡ count_by p bag
count-without p q [] has = absurd cc
count-without p q (x ∷ xs) has =
    elim (same q x) as (λ b. same q x ≡ b → count_by p (without q (x ∷ xs)) + one_if (p q) ≡ count_by p (x ∷ xs)) [
      | true ↦ λ e.
          let gone : without q (x ∷ xs) ≡ xs = ap (λ (b : Bool). cond b xs (x ∷ without q xs)) e in
          let this : p q ≡ p x = ap p (same-true q x e) in
          let left : count_by p (without q (x ∷ xs)) ≡ count_by p xs = ap (count_by p) gone in
          let right : count_by p (x ∷ xs) ≡ one_if (p x) + count_by p xs = count_by-cons p x xs in
          let ones : one_if (p q) ≡ one_if (p x) = ap one_if this in
          omega (arith, left, right, ones)
      | false ↦ λ e.
          let kept : without q (x ∷ xs) ≡ x ∷ without q xs = ap (λ (b : Bool). cond b xs (x ∷ without q xs)) e in
          let rest : list_any (same q) xs ≡ true = rw e at has in
          let left : count_by p (without q (x ∷ xs)) ≡ one_if (p x) + count_by p (without q xs) =
          ap (count_by p) kept ∙ count_by-cons p x (without q xs) in
          let right : count_by p (x ∷ xs) ≡ one_if (p x) + count_by p xs = count_by-cons p x xs in
          omega (arith, left, right, count-without p q xs rest)
    ] refl

pub held-without : (r q : Reference) (bag : List Reference) → list_any (same q) bag ≡ true
    → held r (without q bag) + one_if (same r q) ≡ held r bag
held-without r q bag has = count-without (same r) q bag has

pub references_to-without : (object : ℕ) (q : Reference) (bag : List Reference) → list_any (same q) bag ≡ true
    → references_to object (without q bag) + one_if (q.object == object) ≡ references_to object bag
references_to-without object q bag has = count-without (λ (r : Reference). r.object == object) q bag has

-- ---- the empty bag

pub held_itself : (q : Reference) (bag : List Reference) → held q (q ∷ bag) ≡ 1 + held q bag
held_itself q bag = held-cons q q bag ∙ ap (λ (b : Bool). one_if b + held q bag) (same-refl q)

pub empty_bag : (bag : List Reference) → ((r : Reference) → held r bag ≡ 0) → bag ≡ []
empty_bag [] none = refl
empty_bag (q ∷ qs) none = absurd (omega (arith, held_itself q qs, none q))

-- ---- cells of lists

not_by_cell : (x : ℕ) (h : Holder) (object : ℕ) (bag : List Reference)
    → ((i y : ℕ) → held (cell_reference x i y) bag ≡ 0) → 0 < held (record { holder = h; object = object }) bag
    → is_cell_of x h ≡ false
not_by_cell x (ByThread t h) object bag none some = refl
not_by_cell x (ByCell y i) object bag none some =
    ne_eqb y x (λ (e : y ≡ x).
    let there : 0 < held (cell_reference x i object) bag =
    subst (λ (z : ℕ). 0 < held (cell_reference z i object) bag) e some in
    omega (arith, there, none i object))

pub no_cell_holds : (x : ℕ) (bag : List Reference) → ((i object : ℕ) → held (cell_reference x i object) bag ≡ 0)
    → holds_by_cells x bag ≡ false
no_cell_holds x [] none = refl
no_cell_holds x (q ∷ qs) none =
    let first : is_cell_of x q.holder ≡ false =
    not_by_cell x q.holder q.object (q ∷ qs) none (omega (arith, held_itself q qs)) in
    ap (λ (b : Bool). b || holds_by_cells x qs) first
    ∙ no_cell_holds x qs (λ i object. omega (arith, none i object, held-cons (cell_reference x i object) q qs))
