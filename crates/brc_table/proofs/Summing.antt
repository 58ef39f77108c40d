-- A sum over the threads is a sum over the hands: each hand is of one thread, and a thread without a hand adds nothing.
use Rattle.std.proofs.Common.{◌≡◌, ◌≢◌, ℕ, zero, suc, ◌+◌, ◌<◌, Bool, true, cond, List, [], ◌∷◌, length, Option, None, Some, inl, inr, refl, sym, ap, ◌∙◌, arith}
use Rattle.std.specs.Prelude.{◌==◌, slice_get, sum_by}
use Rattle.std.proofs.lemmas.Bool.Decides.{eqb_tells}
use Rattle.std.proofs.lemmas.List.Sums.{sum_by-cons}
use mathlib.Core.Option.{some, some-ne-none, some-injective}
use lib.ListN.{get_elem?}
use Rattle.brc_model.specs.CountingLaws.{over_threads}
use Rattle.brc_table.specs.declared.view.View.{View}

-- ---- sums over the threads

pub over_each : (f g : ℕ → ℕ) (n : ℕ) → ((t : ℕ) → t < n → f t ≡ g t) → over_threads f n ≡ over_threads g n
over_each f g zero each = refl
over_each f g (suc t) each =
    omega (arith, over_each f g t (λ u low. each u (omega (arith, low))), each t (omega arith))

pub over_sum : (f g : ℕ → ℕ) (n : ℕ) → over_threads (λ t. f t + g t) n ≡ over_threads f n + over_threads g n
over_sum f g zero = refl
over_sum f g (suc t) = omega (arith, over_sum f g t)

pub over_none : (n : ℕ) → over_threads (λ t. 0) n ≡ 0
over_none zero = refl
over_none (suc t) = omega (arith, over_none t)

-- The first thread's number can be taken out of the sum.
over_first : (f : ℕ → ℕ) (n : ℕ) → over_threads f (suc n) ≡ f 0 + over_threads (λ t. f (suc t)) n
over_first f zero = omega arith
over_first f (suc t) = omega (arith, over_first f t)

-- the numbers, with that of one thread replaced by 0
abbrev without : (ℕ → ℕ) → ℕ → ℕ → ℕ
without f t u = cond (u == t) 0 (f u)

without_same : (f : ℕ → ℕ) (t u : ℕ) → (u == t) ≡ true → without f t u ≡ 0
without_same f t u same = ap (λ (b : Bool). cond b 0 (f u)) same

without_other : (f : ℕ → ℕ) (t u : ℕ) → u ≢ t → without f t u ≡ f u
without_other f t u ne = elim (eqb_tells u t) [
  | inl this ↦ absurd (ne this.1)
  | inr apart ↦ ap (λ (b : Bool). cond b 0 (f u)) apart.0
]

-- Any thread's number can be taken out of the sum.
pub over_without : (f : ℕ → ℕ) (t n : ℕ) → t < n → over_threads f n ≡ f t + over_threads (without f t) n
over_without f t zero low = absurd (omega (arith, low))
over_without f t (suc k) low =
    elim (eqb_tells k t) [
      | inl this ↦
          let before =
          over_each (without f t) f k
          (λ u under. without_other f t u (λ e. absurd (omega (arith, e, under, this.1)))) in
          omega (arith, before, without_same f t k this.0, ap f this.1)
      | inr apart ↦
          omega (arith, over_without f t k (omega (arith, low, apart.1)), without_other f t k apart.1)
    ]

-- Where all numbers but one are 0, the sum is that one.
pub over_one : (f : ℕ → ℕ) (t n : ℕ) → t < n → ((u : ℕ) → u ≢ t → f u ≡ 0) → over_threads f n ≡ f t
over_one f t n low others =
    let none = over_each (without f t) (λ u. 0) n (λ u under. elim (eqb_tells u t) [
      | inl this ↦ without_same f t u this.0
      | inr apart ↦ without_other f t u apart.1 ∙ others u apart.1
    ]) in
    omega (arith, over_without f t n low, none, over_none n)

-- ---- lists of actors

-- the weight of the list's element with the number, if there is one
abbrev of_some : {A : Type 0} → (A → ℕ) → Option A → ℕ
of_some h None = 0
of_some h (Some a) = h a

abbrev pub weight_at : {A : Type 0} → (A → ℕ) → List A → ℕ → ℕ
weight_at h xs t = of_some h (slice_get xs t)

pub weight_there : {A : Type 0} (h : A → ℕ) (xs : List A) (t : ℕ) (a : A) → slice_get xs t ≡ Some a
    → weight_at h xs t ≡ h a
weight_there h xs t a is = ap (of_some h) is

-- A sum over a list is a sum over the numbers of its elements.
pub over_list : {A : Type 0} (h : A → ℕ) (xs : List A) → sum_by h xs ≡ over_threads (weight_at h xs) (length xs)
over_list h [] = refl
over_list h (a ∷ rest) =
    let first : over_threads (weight_at h (a ∷ rest)) (suc (length rest))
    ≡ h a + over_threads (weight_at h rest) (length rest) =
    over_first (weight_at h (a ∷ rest)) (length rest) in
    omega (arith, sum_by-cons h a rest, over_list h rest, first)

-- ---- hands

-- Each hand has its thread's number, no thread has two hands, and the number of a thread without a hand is 0.
pub record AreOfThreads (n : ℕ) (f : ℕ → ℕ) (g : View → ℕ) (views : List View) : Type 0 where
  pub low : (id : ℕ) (v : View) → get_elem? views id ≡ some v → v.thread < n
  pub each : (id : ℕ) (v : View) → get_elem? views id ≡ some v → f v.thread ≡ g v
  pub apart : (id other : ℕ) (v w : View) → get_elem? views id ≡ some v → get_elem? views other ≡ some w
      → v.thread ≡ w.thread → id ≡ other
  pub idle : (t : ℕ) → t < n → ((id : ℕ) (v : View) → get_elem? views id ≡ some v → v.thread ≡ t → ⊥) → f t ≡ 0

-- A thread that none of the other hands has, and that isn't the first hand's, has no hand.
none_more : (v : View) (rest : List View) (t : ℕ) → t ≢ v.thread
    → ((id : ℕ) (w : View) → get_elem? rest id ≡ some w → w.thread ≡ t → ⊥)
    → (id : ℕ) (w : View) → get_elem? (v ∷ rest) id ≡ some w → w.thread ≡ t → ⊥
none_more v rest t ne none zero w is same = ne (sym same ∙ ap (λ (u : View). u.thread) (sym (some-injective v w is)))
none_more v rest t ne none (suc id) w is same = none id w is same

-- Without the first hand, and without its thread's number.
rest_of : (n : ℕ) (f : ℕ → ℕ) (g : View → ℕ) (v : View) (rest : List View) → AreOfThreads n f g (v ∷ rest)
    → AreOfThreads n (without f v.thread) g rest
rest_of n f g v rest are = record {
  low = λ id w is. are.low (suc id) w is;
  each = λ id w is.
      without_other f v.thread w.thread
      (λ e. let wrong = are.apart (suc id) 0 w v is refl e in absurd (omega (arith, wrong)))
      ∙ are.each (suc id) w is;
  apart = λ id other w z is that same.
      let next = are.apart (suc id) (suc other) w z is that same in omega (arith, next);
  idle = λ t low none. elim (eqb_tells t v.thread) [
    | inl this ↦ without_same f v.thread t this.0
    | inr apart ↦ without_other f v.thread t apart.1 ∙ are.idle t low (none_more v rest t apart.1 none)
  ];
}

-- The sum over the threads is the sum over the hands.
pub over_hands : (n : ℕ) (f : ℕ → ℕ) (g : View → ℕ) (views : List View) → AreOfThreads n f g views
    → over_threads f n ≡ sum_by g views
over_hands n f g [] are =
    over_each f (λ t. 0) n (λ t low. are.idle t low (λ id v is same. some-ne-none v (sym is))) ∙ over_none n
over_hands n f g (v ∷ rest) are =
    let here = are.each 0 v refl in
    let others = over_hands n (without f v.thread) g rest (rest_of n f g v rest are) in
    omega (arith, over_without f v.thread n (are.low 0 v refl), here, others, sum_by-cons g v rest)
