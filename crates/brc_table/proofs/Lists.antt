-- Lists with one element changed, or one more at the end.
use Rattle.std.proofs.Common.{◌≡◌, ◌≢◌, ◌⊎◌, ℕ, zero, suc, ◌<◌, Bool, true, false, ◌&&◌, List, [], ◌∷◌, ◌++◌, length, replicate, set, Some, inl, inr, refl, sym, ap, arith}
use Rattle.std.specs.Prelude.{slice_get, slice_index, slice_index_or}
use mathlib.Core.Option.{some, some-injective, some-ne-none}
use lib.ListN.{get_elem?}

pub slice_get-set_same : {A : Type 0} (xs : List A) (i : ℕ) (x : A) → i < length xs → slice_get (set xs i x) i ≡ Some x
slice_get-set_same [] i x h = absurd (omega arith)
slice_get-set_same (y ∷ ys) zero x h = refl
slice_get-set_same (y ∷ ys) (suc i) x h = slice_get-set_same ys i x (omega arith)

pub slice_get-set_other : {A : Type 0} (xs : List A) (i j : ℕ) (x : A) → j ≢ i
    → slice_get (set xs i x) j ≡ slice_get xs j
slice_get-set_other [] i j x ne = refl
slice_get-set_other (y ∷ ys) zero zero x ne = absurd (ne refl)
slice_get-set_other (y ∷ ys) zero (suc j) x ne = refl
slice_get-set_other (y ∷ ys) (suc i) zero x ne = refl
slice_get-set_other (y ∷ ys) (suc i) (suc j) x ne = slice_get-set_other ys i j x (λ e. ne (ap suc e))

pub slice_get-replicate : {A : Type 0} (n i : ℕ) (x : A) → i < n → slice_get (replicate n x) i ≡ Some x
slice_get-replicate zero i x low = absurd (omega (arith, low))
slice_get-replicate (suc n) zero x low = refl
slice_get-replicate (suc n) (suc i) x low = slice_get-replicate n i x (omega (arith, low))

-- Past the end the default is the same.
pub get_or-same : {A : Type 0} (n i : ℕ) (x : A) → slice_index_or (replicate n x) i x ≡ x
get_or-same zero i x = refl
get_or-same (suc n) zero x = refl
get_or-same (suc n) (suc i) x = get_or-same n i x

-- An element that is there can be replaced.
pub set_view : {A : Type 0} (xs : List A) (i : ℕ) (x y : A) → get_elem? xs i ≡ some x
    → get_elem? (set xs i y) i ≡ some y
set_view [] i x y is = absurd (some-ne-none x (sym is))
set_view (z ∷ zs) zero x y is = refl
set_view (z ∷ zs) (suc i) x y is = set_view zs i x y is

-- An element that is replaced by itself.
pub set_itself : {A : Type 0} (xs : List A) (i : ℕ) (x : A) → slice_get xs i ≡ Some x → set xs i x ≡ xs
set_itself [] i x is = refl
set_itself (y ∷ ys) zero x is = let same : y ≡ x = cc in ap (λ z. z ∷ ys) (sym same)
set_itself (y ∷ ys) (suc i) x is = ap (λ zs. y ∷ zs) (set_itself ys i x is)

-- What is there is what the index reads.
pub index_found : (xs : List ℕ) (i x : ℕ) → get_elem? xs i ≡ some x → x ≡ slice_index xs i
index_found [] i x is = absurd (some-ne-none x (sym is))
index_found (y ∷ ys) zero x is = sym (some-injective y x is)
index_found (y ∷ ys) (suc i) x is = index_found ys i x is

-- An element of a longer list was there before, or is the new one.
pub at_end : {A : Type 0} (l : List A) (a b : A) (j : ℕ) → get_elem? (l ++ a ∷ []) j ≡ some b
    → (get_elem? l j ≡ some b) ⊎ ((j ≡ length l) × (a ≡ b))
at_end [] a b zero is = inr (refl, some-injective a b is)
at_end [] a b (suc j) is = absurd (some-ne-none b (sym is))
at_end (x ∷ xs) a b zero is = inl is
at_end (x ∷ xs) a b (suc j) is = elim (at_end xs a b j is) [
  | inl there ↦ inl there
  | inr new ↦ inr (ap suc new.0, new.1)
]

pub and_first : (a b : Bool) → (a && b) ≡ true → a ≡ true
and_first true b e = refl
and_first false b e = absurd cc

pub and_second : (a b : Bool) → (a && b) ≡ true → b ≡ true
and_second true b e = e
and_second false b e = absurd cc

-- A number below a list's length has an element.
pub there_is : {A : Type 0} (xs : List A) (t : ℕ) → t < length xs → (a : A) × (slice_get xs t ≡ Some a)
there_is [] t low = absurd (omega (arith, low))
there_is (a ∷ rest) zero low = (a, refl)
there_is (a ∷ rest) (suc t) low = there_is rest t (omega (arith, low))

-- What an index within a list reads is the element there.
pub element_read : {A : Type 0} (xs : List A) (i : ℕ) (x : A) → i < length xs → x ≡ slice_index_or xs i x
    → slice_get xs i ≡ Some x
element_read [] i x low is = absurd (omega (arith, low))
element_read (y ∷ ys) zero x low is = ap Some (sym is)
element_read (y ∷ ys) (suc i) x low is = element_read ys i x (omega (arith, low)) is
