-- Lists of which a test passes one element at most, and lists that lose one element.
use Rattle.std.proofs.Common.{◌≡◌, ◌⊎◌, ℕ, ◌+◌, ◌-◌, ◌≤◌, Bool, true, false, cond, List, [], ◌∷◌, ◌++◌, inl, inr, refl, sym, ap, ◌∙◌, arith}
use Rattle.std.specs.Prelude.{◌==◌, not, count_by}
use Rattle.std.specs.List.{filter}
use Rattle.std.proofs.lemmas.Bool.{eqb-true, eqb-false, ne_eqb, cases_Bool}
use Rattle.std.proofs.lemmas.Bool.Decides.{eqb_tells}
use Rattle.std.proofs.lemmas.List.Sums.{sum_by-cons}
use Rattle.brc_model.specs.References.{one_if}
use Rattle.brc_table.specs.Views.{without_one}

-- ---- what a test passes

-- The test passes no element.
pub record PassesNone {A : Type 0} (p : A → Bool) (xs : List A) : Type 0 where
  pub passed : filter p xs ≡ []
  pub left : filter (λ y. not (p y)) xs ≡ xs

-- The test passes one element, which is between these two parts of the list.
pub record PassesOne {A : Type 0} (p : A → Bool) (xs : List A) : Type 0 where
  pub found : A
  pub before : List A
  pub after : List A
  pub whole : xs ≡ before ++ found ∷ after
  pub passed : filter p xs ≡ found ∷ []
  pub left : filter (λ y. not (p y)) xs ≡ before ++ after

-- A filter keeps or drops the first element by the test.
filter_kept : {A : Type 0} (p : A → Bool) (x : A) (xs : List A) → p x ≡ true → filter p (x ∷ xs) ≡ x ∷ filter p xs
filter_kept p x xs e = ap (λ (b : Bool). cond b (x ∷ filter p xs) (filter p xs)) e

filter_dropped : {A : Type 0} (p : A → Bool) (x : A) (xs : List A) → p x ≡ false → filter p (x ∷ xs) ≡ filter p xs
filter_dropped p x xs e = ap (λ (b : Bool). cond b (x ∷ filter p xs) (filter p xs)) e

-- A test that counts no element passes none.
pub passes_none : {A : Type 0} (p : A → Bool) (xs : List A) → count_by p xs ≡ 0 → PassesNone p xs
passes_none p [] none = record { passed = refl; left = refl }
passes_none p (x ∷ xs) none =
    let all = sum_by-cons (λ y. cond (p y) 1 0) x xs in
    elim (cases_Bool (p x)) [
      | inl this ↦ let one : one_if (p x) ≡ 1 = ap one_if this in absurd (omega (arith, all, one, none))
      | inr other ↦
          let rest = passes_none p xs (omega (arith, all, none)) in
          record {
            passed = filter_dropped p x xs other ∙ rest.passed;
            left = filter_kept (λ y. not (p y)) x xs (ap not other) ∙ ap (λ ys. x ∷ ys) rest.left;
          }
    ]

-- A test that counts one element at most passes none or one.
pub passes_one : {A : Type 0} (p : A → Bool) (xs : List A) → count_by p xs ≤ 1 → PassesNone p xs ⊎ PassesOne p xs
passes_one p [] few = inl (record { passed = refl; left = refl })
passes_one p (x ∷ xs) few =
    let all = sum_by-cons (λ y. cond (p y) 1 0) x xs in
    elim (cases_Bool (p x)) [
      | inl this ↦
          let one : one_if (p x) ≡ 1 = ap one_if this in
          let rest = passes_none p xs (omega (arith, all, one, few)) in
          inr (record {
            found = x;
            before = [];
            after = xs;
            whole = refl;
            passed = filter_kept p x xs this ∙ ap (λ ys. x ∷ ys) rest.passed;
            left = filter_dropped (λ y. not (p y)) x xs (ap not this) ∙ rest.left;
          })
      | inr other ↦
          elim (passes_one p xs (omega (arith, all, few))) [
            | inl rest ↦ inl (record {
              passed = filter_dropped p x xs other ∙ rest.passed;
              left = filter_kept (λ y. not (p y)) x xs (ap not other) ∙ ap (λ ys. x ∷ ys) rest.left;
            })
            | inr rest ↦ inr (record {
              found = rest.found;
              before = x ∷ rest.before;
              after = rest.after;
              whole = ap (λ ys. x ∷ ys) rest.whole;
              passed = filter_dropped p x xs other ∙ rest.passed;
              left = filter_kept (λ y. not (p y)) x xs (ap not other) ∙ ap (λ ys. x ∷ ys) rest.left;
            })
          ]
    ]

-- ---- one row more, and one less

-- With one row more, a row is counted once more if it is that row.
pub count_more : (x y : ℕ) (rows : List ℕ)
    → count_by (λ z. z == y) (x ∷ rows) ≡ count_by (λ z. z == y) rows + one_if (x == y)
count_more x y rows = omega (arith, sum_by-cons (λ (z : ℕ). cond (z == y) 1 0) x rows)

one_if_low : (b : Bool) → one_if b ≤ 1
one_if_low true = omega arith
one_if_low false = omega arith

-- A row isn't two rows that differ.
not_both : (z x y : ℕ) → (z == x) ≡ false → one_if (z == y) + one_if (x == y) ≤ 1
not_both z x y apart =
    elim (eqb_tells z y) [
      | inl this ↦
          let none : one_if (x == y) ≡ 0 = ap one_if (ne_eqb x y (λ e. eqb-false z x apart (this.1 ∙ sym e))) in
          let one : one_if (z == y) ≡ 1 = ap one_if this.0 in
          omega (arith, none, one)
      | inr other ↦
          let none : one_if (z == y) ≡ 0 = ap one_if other.0 in
          omega (arith, none, one_if_low (x == y))
    ]

-- Without one of the rows, a row is counted once less if it is that row.
pub count_less : (x y : ℕ) (rows : List ℕ)
    → count_by (λ z. z == y) (without_one x rows) ≡ count_by (λ z. z == y) rows - one_if (x == y)
count_less x y [] = omega arith
count_less x y (z ∷ rows) =
    let all = count_more z y rows in
    elim (cases_Bool (z == x)) [
      | inl this ↦
          let same : one_if (z == y) ≡ one_if (x == y) = ap (λ (w : ℕ). one_if (w == y)) (eqb-true z x this) in
          ap (λ (b : Bool). count_by (λ w. w == y) (cond b rows (z ∷ without_one x rows))) this
          ∙ omega (arith, all, same)
      | inr other ↦
          ap (λ (b : Bool). count_by (λ w. w == y) (cond b rows (z ∷ without_one x rows))) other
          ∙ omega (arith, count_more z y (without_one x rows), count_less x y rows, all, not_both z x y other)
    ]
