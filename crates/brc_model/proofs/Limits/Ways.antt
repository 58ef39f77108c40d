-- The ways in which an object may be held: by each thread in few ways, each within a bound, and by the cells of lists.
use Rattle.std.proofs.Common.{◌≡◌, ℕ, zero, suc, ◌+◌, ◌*◌, ◌<◌, ◌≤◌, Bool, true, false, List, [], ◌∷◌, inl, inr, refl, sym, ap, ◌∙◌, subst, arith}
use Rattle.std.specs.Prelude.{◌==◌, ◌||◌, sum_by}
use Rattle.std.specs.List.{list_any}
use Rattle.std.proofs.lemmas.Bool.{cases_lt}
use Rattle.std.proofs.lemmas.Bool.Decides.{eqb_tells}
use Rattle.std.proofs.lemmas.List.Sums.{sum_by-cons}
use Rattle.brc_model.specs.declared.duty.Holding.{Holding}
use Rattle.brc_model.specs.declared.duty.Holding.TheVariants.{ByVariable, AsCaller, InFlight}
use Rattle.brc_model.specs.AbstractState.{Holder, ByThread, ByCell, Reference, same, references_to}
use Rattle.brc_model.proofs.Basics.Bag.{same-true, same-refl, held-cons, references_to-cons}
use Rattle.brc_model.specs.References.{held, one_if, reference_of, cell_reference}
use Rattle.brc_model.specs.Accounts.{most_lent}
use Rattle.brc_model.specs.Limits.{cell_limit, depth_limit}

-- ---- counting references by a list of keys

pub record Covers (keys bag : List Reference) (x : ℕ) : Type 0 where
  pub each : (r : Reference) → r.object ≡ x → 0 < held r bag → list_any (same r) keys ≡ true

pub or_second : (a b : Bool) → b ≡ true → (a || b) ≡ true
or_second true b e = refl
or_second false b e = e

pub or_first : (a b : Bool) → a ≡ true → (a || b) ≡ true
or_first true b e = refl
or_first false b e = absurd cc

-- With one reference more in the bag, the keys count one more for each key that is the same reference.
pub sum_more : (keys bag : List Reference) (q : Reference)
    → sum_by (λ (k : Reference). held k (q ∷ bag)) keys ≡ sum_by (λ (k : Reference). one_if (same k q)) keys
    + sum_by (λ (k : Reference). held k bag) keys
sum_more [] bag q = refl
sum_more (k ∷ keys) bag q =
    let all = sum_by-cons (λ (k : Reference). held k (q ∷ bag)) k keys in
    let one = sum_by-cons (λ (k : Reference). one_if (same k q)) k keys in
    let old = sum_by-cons (λ (k : Reference). held k bag) k keys in
    omega (arith, all, one, old, held-cons k q bag, sum_more keys bag q)

pub some_same : (keys : List Reference) (q : Reference) → list_any (same q) keys ≡ true
    → 1 ≤ sum_by (λ (k : Reference). one_if (same k q)) keys
some_same [] q e = absurd cc
some_same (k ∷ keys) q e =
    let all = sum_by-cons (λ (k : Reference). one_if (same k q)) k keys in
    elim (same q k) as (λ b. same q k ≡ b → 1 ≤ sum_by (λ (k : Reference). one_if (same k q)) (k ∷ keys)) [
      | true ↦ λ is.
          let back : same k q ≡ true = subst (λ (r : Reference). same r q ≡ true) (same-true q k is) (same-refl q) in
          let one : one_if (same k q) ≡ 1 = ap one_if back in
          omega (arith, all, one)
      | false ↦
          λ is. let later =
          some_same keys q (sym (ap (λ (b : Bool). b || list_any (same q) keys) is) ∙ e) in omega
          (arith, all, later)
    ] refl

pub covered : (keys bag : List Reference) (x : ℕ) → Covers keys bag x
    → references_to x bag ≤ sum_by (λ (k : Reference). held k bag) keys
covered keys [] x covers = omega arith
covered keys (q ∷ bag) x covers =
    let smaller : Covers keys bag x =
    record { each = λ r is some. covers.each r is (omega (arith, held-cons r q bag, some)) } in
    let rest = covered keys bag x smaller in
    elim (eqb_tells q.object x) [
      | inl this ↦
          let is_held : held q (q ∷ bag) ≡ 1 + held q bag =
          held-cons q q bag ∙ ap (λ (b : Bool). one_if b + held q bag) (same-refl q) in
          let one = some_same keys q (covers.each q this.1 (omega (arith, is_held))) in
          let is_one : one_if (q.object == x) ≡ 1 = ap one_if this.0 in
          omega (arith, references_to-cons x q bag, sum_more keys bag q, rest, one, is_one)
      | inr other ↦
          let none : one_if (q.object == x) ≡ 0 = ap one_if other.0 in
          omega (arith, references_to-cons x q bag, sum_more keys bag q, rest, none)
    ]

-- A bound on how often one reference is in the bag: as the caller, the most that a thread may lend and one; in any
-- other way of a thread, two. The one more is a reference that a duty is just giving up. A cell holds one.
abbrev pub most_by : Holder → ℕ
most_by (ByThread t AsCaller) = most_lent + 1
most_by (ByThread t (ByVariable depth v)) = 2
most_by (ByThread t InFlight) = 2
most_by (ByCell x i) = 1

abbrev pub most_held : Reference → ℕ
most_held r = most_by r.holder

-- All keys are references to the object.
abbrev pub AreOf : ℕ → List Reference → Type 0
AreOf x [] = Unit {0}
AreOf x (k ∷ keys) = (k.object ≡ x) × AreOf x keys

pub sum_below : (f g : Reference → ℕ) (x : ℕ) (keys : List Reference) → AreOf x keys
    → ((k : Reference) → k.object ≡ x → f k ≤ g k) → sum_by f keys ≤ sum_by g keys
sum_below f g x [] of_x below = omega arith
sum_below f g x (k ∷ keys) of_x below =
    omega (
      arith,
      sum_by-cons f k keys,
      sum_by-cons g k keys,
      below k of_x.0,
      sum_below f g x keys of_x.1 below,
    )

-- ---- the ways to hold an object

-- References by the variables below a number of the call at a depth, in front of a list.
abbrev pub variables_of : ℕ → ℕ → ℕ → ℕ → List Reference → List Reference
variables_of t depth x zero tail = tail
variables_of t depth x (suc v) tail = reference_of t (ByVariable depth v) x ∷ variables_of t depth x v tail

-- References by the sixteen variables of each call below a depth, in front of a list.
abbrev pub calls_of : ℕ → ℕ → ℕ → List Reference → List Reference
calls_of t x zero tail = tail
calls_of t x (suc depth) tail = variables_of t depth x 16 (calls_of t x depth tail)

-- The references to an object that the threads below a number can have: one way of each thread's own, in flight, as the
-- caller, and by the sixteen variables of each open call.
abbrev pub ways : (ℕ → Holding) → ℕ → ℕ → List Reference
ways own x zero = []
ways own x (suc t) =
    reference_of t (own t) x ∷ reference_of t InFlight x ∷ reference_of t AsCaller x ∷ calls_of t x depth_limit
    (ways own x t)

-- The most references to one object that one thread may have.
abbrev pub most_each : ℕ
most_each = 2 * most_lent + 2 * 16 * depth_limit + 4

-- All ways to hold an object are references to it.
pub variables_are_of : (t depth x v : ℕ) (tail : List Reference) → AreOf x tail
    → AreOf x (variables_of t depth x v tail)
variables_are_of t depth x zero tail of_x = of_x
variables_are_of t depth x (suc v) tail of_x = (refl, variables_are_of t depth x v tail of_x)

pub calls_are_of : (t x depth : ℕ) (tail : List Reference) → AreOf x tail → AreOf x (calls_of t x depth tail)
calls_are_of t x zero tail of_x = of_x
calls_are_of t x (suc depth) tail of_x =
    variables_are_of t depth x 16 (calls_of t x depth tail) (calls_are_of t x depth tail of_x)

pub ways_are_of : (own : ℕ → Holding) (x n : ℕ) → AreOf x (ways own x n)
ways_are_of own x zero = tt
ways_are_of own x (suc t) =
    (refl, (refl, (refl, calls_are_of t x depth_limit (ways own x t) (ways_are_of own x t))))

pub most_of_one : (t : ℕ) (h : Holding) → most_by (ByThread t h) ≤ most_lent + 1
most_of_one t (ByVariable depth v) = omega arith
most_of_one t AsCaller = omega arith
most_of_one t InFlight = omega arith

pub most_of_variables : (t depth x v : ℕ) (tail : List Reference)
    → sum_by most_held (variables_of t depth x v tail) ≡ 2 * v + sum_by most_held tail
most_of_variables t depth x zero tail = omega arith
most_of_variables t depth x (suc v) tail =
    let rest = variables_of t depth x v tail in
    omega (
      arith,
      sum_by-cons most_held (reference_of t (ByVariable depth v) x) rest,
      most_of_variables t depth x v tail,
    )

pub most_of_calls : (t x depth : ℕ) (tail : List Reference)
    → sum_by most_held (calls_of t x depth tail) ≡ 32 * depth + sum_by most_held tail
most_of_calls t x zero tail = omega arith
most_of_calls t x (suc depth) tail =
    omega (arith, most_of_variables t depth x 16 (calls_of t x depth tail), most_of_calls t x depth tail)

pub most_of_ways : (own : ℕ → Holding) (x n : ℕ) → sum_by most_held (ways own x n) ≤ most_each * n
most_of_ways own x zero = omega arith
most_of_ways own x (suc t) =
    let later = ways own x t in
    let variables = calls_of t x depth_limit later in
    let called = reference_of t AsCaller x ∷ variables in
    let in_flight = reference_of t InFlight x ∷ called in
    omega (
      arith,
      sum_by-cons most_held (reference_of t (own t) x) in_flight,
      sum_by-cons most_held (reference_of t InFlight x) called,
      sum_by-cons most_held (reference_of t AsCaller x) variables,
      most_of_one t (own t),
      most_of_calls t x depth_limit later,
      most_of_ways own x t,
    )

pub among_tail : (r : Reference) (t depth x v : ℕ) (tail : List Reference) → list_any (same r) tail ≡ true
    → list_any (same r) (variables_of t depth x v tail) ≡ true
among_tail r t depth x zero tail e = e
among_tail r t depth x (suc v) tail e =
    or_second (same r (reference_of t (ByVariable depth v) x)) _ (among_tail r t depth x v tail e)

pub among_calls_tail : (r : Reference) (t x depth : ℕ) (tail : List Reference) → list_any (same r) tail ≡ true
    → list_any (same r) (calls_of t x depth tail) ≡ true
among_calls_tail r t x zero tail e = e
among_calls_tail r t x (suc depth) tail e =
    among_tail r t depth x 16 (calls_of t x depth tail) (among_calls_tail r t x depth tail e)

pub among_variables : (t depth x k v : ℕ) (tail : List Reference) → v < k
    → list_any (same (reference_of t (ByVariable depth v) x)) (variables_of t depth x k tail) ≡ true
among_variables t depth x zero v tail low = absurd (omega (arith, low))
among_variables t depth x (suc k) v tail low =
    let r = reference_of t (ByVariable depth v) x in
    elim (eqb_tells v k) [
      | inl this ↦
          let is : same r (reference_of t (ByVariable depth k) x) ≡ true =
          subst (λ (w : ℕ). same r (reference_of t (ByVariable depth w) x) ≡ true) this.1 (same-refl r) in
          or_first (same r (reference_of t (ByVariable depth k) x)) _ is
      | inr other ↦
          let below : v < k = elim (cases_lt v k) [
            | inl lt ↦ lt
            | inr past ↦ absurd (other.1 (omega (arith, past, low)))
          ] in
          or_second (same r (reference_of t (ByVariable depth k) x)) _ (among_variables t depth x k v tail below)
    ]

pub among_calls : (t x k depth v : ℕ) (tail : List Reference) → depth < k → v < 16
    → list_any (same (reference_of t (ByVariable depth v) x)) (calls_of t x k tail) ≡ true
among_calls t x zero depth v tail low few = absurd (omega (arith, low))
among_calls t x (suc k) depth v tail low few =
    let r = reference_of t (ByVariable depth v) x in
    elim (eqb_tells depth k) [
      | inl this ↦
          subst (λ (d : ℕ). list_any (same r) (variables_of t d x 16 (calls_of t x k tail)) ≡ true) this.1
          (among_variables t depth x 16 v (calls_of t x k tail) few)
      | inr other ↦
          among_tail r t k x 16 (calls_of t x k tail) (among_calls t x k depth v tail (omega (arith, low, other.1)) few)
    ]

pub among_later : (own : ℕ → Holding) (r : Reference) (x t : ℕ) → list_any (same r) (ways own x t) ≡ true
    → list_any (same r) (ways own x (suc t)) ≡ true
among_later own r x t e =
    let rest = among_calls_tail r t x depth_limit (ways own x t) e in
    or_second (same r (reference_of t (own t) x)) _
    (or_second (same r (reference_of t InFlight x)) _ (or_second (same r (reference_of t AsCaller x)) _ rest))

pub among_own : (own : ℕ → Holding) (x t : ℕ) (h : Holding) → h ≡ own t
    → list_any (same (reference_of t h x)) (ways own x (suc t)) ≡ true
among_own own x t h e =
    let r = reference_of t h x in
    or_first (same r (reference_of t (own t) x)) _
    (subst (λ (k : Holding). same r (reference_of t k x) ≡ true) e (same-refl r))

abbrev pub is_low : Holding → Type 0
is_low (ByVariable depth v) = (depth < depth_limit) × (v < 16)
is_low AsCaller = Unit {0}
is_low InFlight = Unit {0}

pub among_low : (own : ℕ → Holding) (x t : ℕ) (h : Holding) → is_low h
    → list_any (same (reference_of t h x)) (ways own x (suc t)) ≡ true
among_low own x t (ByVariable depth v) low =
    let r = reference_of t (ByVariable depth v) x in
    or_second (same r (reference_of t (own t) x)) _
    (or_second (same r (reference_of t InFlight x)) _
    (or_second (same r (reference_of t AsCaller x)) _
    (among_calls t x depth_limit depth v (ways own x t) low.0 low.1)))
among_low own x t AsCaller low =
    let r = reference_of t AsCaller x in
    or_second (same r (reference_of t (own t) x)) _
    (or_second (same r (reference_of t InFlight x)) _ (or_first (same r (reference_of t AsCaller x)) _ (same-refl r)))
among_low own x t InFlight low =
    let r = reference_of t InFlight x in
    or_second (same r (reference_of t (own t) x)) _ (or_first (same r (reference_of t InFlight x)) _ (same-refl r))

pub among_all : (own : ℕ → Holding) (r : Reference) (x t n : ℕ) → t < n → list_any (same r) (ways own x (suc t)) ≡ true
    → list_any (same r) (ways own x n) ≡ true
among_all own r x t zero low e = absurd (omega (arith, low))
among_all own r x t (suc n) low e =
    elim (eqb_tells t n) [
      | inl this ↦ subst (λ (u : ℕ). list_any (same r) (ways own x (suc u)) ≡ true) this.1 e
      | inr other ↦
          let below : t < n = elim (cases_lt t n) [
            | inl lt ↦ lt
            | inr past ↦ absurd (other.1 (omega (arith, past, low)))
          ] in
          among_later own r x n (among_all own r x t n below e)
    ]

-- ---- the cells that may hold an object

-- References by a row's cells below a number, in front of a list.
abbrev pub row_cells : ℕ → ℕ → ℕ → List Reference → List Reference
row_cells y x zero tail = tail
row_cells y x (suc i) tail = cell_reference y i x ∷ row_cells y x i tail

-- References by the cells of the rows below a number, in front of a list.
abbrev pub cell_ways : ℕ → ℕ → List Reference → List Reference
cell_ways x zero tail = tail
cell_ways x (suc y) tail = row_cells y x cell_limit (cell_ways x y tail)

pub row_cells_are_of : (y x i : ℕ) (tail : List Reference) → AreOf x tail → AreOf x (row_cells y x i tail)
row_cells_are_of y x zero tail of_x = of_x
row_cells_are_of y x (suc i) tail of_x = (refl, row_cells_are_of y x i tail of_x)

pub cell_ways_are_of : (x y : ℕ) (tail : List Reference) → AreOf x tail → AreOf x (cell_ways x y tail)
cell_ways_are_of x zero tail of_x = of_x
cell_ways_are_of x (suc y) tail of_x =
    row_cells_are_of y x cell_limit (cell_ways x y tail) (cell_ways_are_of x y tail of_x)

pub most_of_row : (y x i : ℕ) (tail : List Reference)
    → sum_by most_held (row_cells y x i tail) ≡ i + sum_by most_held tail
most_of_row y x zero tail = omega arith
most_of_row y x (suc i) tail =
    omega (
      arith,
      sum_by-cons most_held (cell_reference y i x) (row_cells y x i tail),
      most_of_row y x i tail,
    )

pub most_of_cells : (x y : ℕ) (tail : List Reference)
    → sum_by most_held (cell_ways x y tail) ≡ cell_limit * y + sum_by most_held tail
most_of_cells x zero tail = omega arith
most_of_cells x (suc y) tail =
    omega (arith, most_of_row y x cell_limit (cell_ways x y tail), most_of_cells x y tail)

pub among_row_tail : (r : Reference) (y x i : ℕ) (tail : List Reference) → list_any (same r) tail ≡ true
    → list_any (same r) (row_cells y x i tail) ≡ true
among_row_tail r y x zero tail e = e
among_row_tail r y x (suc i) tail e = or_second (same r (cell_reference y i x)) _ (among_row_tail r y x i tail e)

pub among_row : (y x k i : ℕ) (tail : List Reference) → i < k
    → list_any (same (cell_reference y i x)) (row_cells y x k tail) ≡ true
among_row y x zero i tail low = absurd (omega (arith, low))
among_row y x (suc k) i tail low =
    let r = cell_reference y i x in
    elim (eqb_tells i k) [
      | inl this ↦
          or_first (same r (cell_reference y k x)) _
          (subst (λ (j : ℕ). same r (cell_reference y j x) ≡ true) this.1 (same-refl r))
      | inr other ↦
          or_second (same r (cell_reference y k x)) _ (among_row y x k i tail (omega (arith, low, other.1)))
    ]

pub among_cells_tail : (r : Reference) (x y : ℕ) (tail : List Reference) → list_any (same r) tail ≡ true
    → list_any (same r) (cell_ways x y tail) ≡ true
among_cells_tail r x zero tail e = e
among_cells_tail r x (suc y) tail e =
    among_row_tail r y x cell_limit (cell_ways x y tail) (among_cells_tail r x y tail e)

pub among_cells : (x y i rows : ℕ) (tail : List Reference) → y < rows → i < cell_limit
    → list_any (same (cell_reference y i x)) (cell_ways x rows tail) ≡ true
among_cells x y i zero tail low few = absurd (omega (arith, low))
among_cells x y i (suc rows) tail low few =
    elim (eqb_tells y rows) [
      | inl this ↦
          subst (λ (z : ℕ). list_any (same (cell_reference y i x))
          (row_cells z x cell_limit (cell_ways x rows tail)) ≡ true) this.1
          (among_row y x cell_limit i (cell_ways x rows tail) few)
      | inr other ↦
          among_row_tail (cell_reference y i x) rows x cell_limit (cell_ways x rows tail)
          (among_cells x y i rows tail (omega (arith, low, other.1)) few)
    ]
