-- Cutting a list at the first element that passes a test.
use Rattle.std.proofs.Common.{◌≡◌, ℕ, ◌<◌, ◌≤◌, Bool, true, false, ltb, List, [], ◌∷◌, ◌++◌, length, take, Some, None}
use Rattle.std.proofs.Common.{refl, sym, ap, ◌∙◌, arith, inl, inr}
use Rattle.std.specs.List.{list_any, slice_split, position, position_or_len, before_first, All, AllByRecursion}
use Rattle.std.proofs.lemmas.Bool.{cases_Bool, ltb-true, ltb-false, or_parts, or_left, or_right}
use Rattle.std.proofs.lemmas.List.{get_or-take, get_or_append_left, get_or_at, take_at, length-append, length-take}
use Rattle.std.proofs.lemmas.List.Sums.{fails_before_first, position_or_len_is}
use Rattle.std.proofs.lemmas.List.Splits.{slice_split_none, slice_split_at}
use Rattle.std.proofs.lemmas.List.Recursion.{or_from_places}
use Rattle.std.proofs.lemmas.List.Elements.{All-from_recursion}

-- ---- what a search found

pub found_at : {X : Type 0} (p : X → Bool) (xs : List X) (i : ℕ) → position p xs ≡ Some i
    → (position_or_len p xs < length xs) × (position_or_len p xs ≡ i)
found_at p xs i e =
    elim (cases_Bool (ltb (position_or_len p xs) (length xs))) [
      | inl passes ↦
          (ltb-true _ _ passes, let s : Some (position_or_len p xs) ≡ Some i = sym (rw passes refl) ∙ e in cc)
      | inr fails ↦ let n : None ≡ Some i = sym (rw fails refl) ∙ e in absurd cc
    ]

pub found_none : {X : Type 0} (p : X → Bool) (xs : List X) → position p xs ≡ None → length xs ≤ position_or_len p xs
found_none p xs e =
    elim (cases_Bool (ltb (position_or_len p xs) (length xs))) [
      | inl passes ↦ let n : Some (position_or_len p xs) ≡ None = sym (rw passes refl) ∙ e in absurd cc
      | inr fails ↦ ltb-false _ _ fails
    ]

pub lacks_all : (p : ℕ → Bool) (xs : List ℕ) → length xs ≤ position_or_len p xs → list_any p xs ≡ false
lacks_all p xs le =
    or_from_places (list_any p) p refl (λ _ _. refl) xs 0 (λ k lt. fails_before_first p xs k 0 (omega arith))

pub lacks_before : (p : ℕ → Bool) (xs : List ℕ) → list_any p (before_first p xs) ≡ false
lacks_before p xs =
    or_from_places (list_any p) p refl (λ _ _. refl) (before_first p xs) 0
    (λ k lt. let h : k < position_or_len p xs =
    omega (arith, length-take (position_or_len p xs) xs) in rw (get_or-take (position_or_len p xs) xs k 0 h)
    (fails_before_first p xs k 0 h))

-- ---- a list that lacks it

lacks_by_recursion : {X : Type 0} (p : X → Bool) (xs : List X) → list_any p xs ≡ false
    → AllByRecursion (λ x. p x ≡ false) xs
lacks_by_recursion p [] e = tt
lacks_by_recursion p (x ∷ xs) e = let q = or_parts (p x) (list_any p xs) e in (q.0, lacks_by_recursion p xs q.1)

pub lacks_at : {X : Type 0} (p : X → Bool) (xs : List X) → list_any p xs ≡ false → All (λ x. p x ≡ false) xs
lacks_at p xs e = All-from_recursion (λ x. p x ≡ false) xs (lacks_by_recursion p xs e)

pub lacks_append : {X : Type 0} (p : X → Bool) (xs ys : List X) → list_any p xs ≡ false → list_any p ys ≡ false
    → list_any p (xs ++ ys) ≡ false
lacks_append p [] ys e f = f
lacks_append p (x ∷ xs) ys e f = let q = or_parts (p x) (list_any p xs) e in rw (q.0, lacks_append p xs ys q.1 f) refl

pub has_behind : {X : Type 0} (p : X → Bool) (xs : List X) (y : X) (ys : List X) → p y ≡ true
    → list_any p (xs ++ y ∷ ys) ≡ true
has_behind p [] y ys e = or_left (p y) (list_any p ys) e
has_behind p (x ∷ xs) y ys e = or_right (p x) (list_any p (xs ++ y ∷ ys)) (has_behind p xs y ys e)

-- ---- the parts

pub one_part : {X : Type 0} (p : X → Bool) (xs : List X) → list_any p xs ≡ false → slice_split p xs ≡ xs ∷ []
one_part p xs e = slice_split_none p xs (lacks_at p xs e)

pub first_part : {X : Type 0} (p : X → Bool) (xs : List X) (y : X) (ys : List X) → list_any p xs ≡ false → p y ≡ true
    → slice_split p (xs ++ y ∷ ys) ≡ xs ∷ slice_split p ys
first_part p xs y ys e f = slice_split_at p xs y ys (lacks_at p xs e) f

cut_at : (p : ℕ → Bool) (xs : List ℕ) (y : ℕ) (ys : List ℕ) → list_any p xs ≡ false → p y ≡ true
    → position_or_len p (xs ++ y ∷ ys) ≡ length xs
cut_at p xs y ys e f =
    position_or_len_is p (xs ++ y ∷ ys) (length xs) 0 (omega (arith, length-append xs (y ∷ ys)))
    (λ k lt. rw (get_or_append_left xs (y ∷ ys) 0 k lt) (lacks_at p xs e k 0 lt))
    (λ _. rw (get_or_at xs y ys 0 (length xs) refl) f)

pub cut_before : (p : ℕ → Bool) (xs : List ℕ) (y : ℕ) (ys : List ℕ) → list_any p xs ≡ false → p y ≡ true
    → before_first p (xs ++ y ∷ ys) ≡ xs
cut_before p xs y ys e f =
    ap (λ (n : ℕ). take n (xs ++ y ∷ ys)) (cut_at p xs y ys e f) ∙ take_at xs (y ∷ ys) (length xs) refl

-- some part is always there
pub parts_some : {X : Type 0} (p : X → Bool) (xs : List X)
    → (first : List X) × (others : List (List X)) × (slice_split p xs ≡ first ∷ others)
parts_some p [] = ([], [], refl)
parts_some p (x ∷ xs) =
    let q = parts_some p xs in
    elim (cases_Bool (p x)) [
      | inl passes ↦ ([], slice_split p xs, rw passes refl)
      | inr fails ↦ (x ∷ q.0, q.1, rw (fails, q.2) refl)
    ]
