-- What a list has at an index, before and after a write.
use Rattle.std.proofs.Common.{◌≡◌, ◌≢◌, ℕ, zero, suc, ◌<◌, List, [], ◌∷◌, length, set, get_or, None, Some, refl, sym, ap, subst, ◌∙◌, arith, Bool, true, false, cond, ◌⊎◌, inl, inr}
use Rattle.std.specs.Prelude.{slice_get, ◌||◌, ◌&&◌, replicate, map, slice_set}
use Rattle.std.specs.List.{list_any, list_all, AllByRecursion}
use Rattle.std.proofs.lemmas.Bool.Decides.{eqb_tells}
use Rattle.std.proofs.lemmas.Option.{slice_get_within}

pub some_is : {A : Type 0} (x y : A) → Some x ≡ Some y → x ≡ y
some_is x y e = cc

pub none_some : {A : Type 0} (x : A) → None ≡ Some x → ⊥
none_some x e = cc

-- what holds of both branches of a test holds of the one that is taken
pub either : {A : Type 0} (P : A → Type 0) (b : Bool) (one two : A) → (b ≡ true → P one) → P two → P (cond b one two)
either P true one two first second = first refl
either P false one two first second = second

pub and_first : (a b : Bool) → (a && b) ≡ true → a ≡ true
and_first true b e = refl
and_first false b e = absurd cc

pub either_true : (a b : Bool) → (a || b) ≡ true → (a ≡ true) ⊎ (b ≡ true)
either_true true b e = inl refl
either_true false b e = inr e

pub or_second : (a b : Bool) → b ≡ true → (a || b) ≡ true
or_second true b e = refl
or_second false b e = e

pub and_second : (a b : Bool) → (a && b) ≡ true → b ≡ true
and_second true b e = e
and_second false b e = absurd cc

pub slice_get-set_same : {A : Type 0} (xs : List A) (i : ℕ) (x : A) → i < length xs → slice_get (set xs i x) i ≡ Some x
slice_get-set_same [] i x h = absurd (omega arith)
slice_get-set_same (y ∷ ys) zero x h = refl
slice_get-set_same (y ∷ ys) (suc i) x h = slice_get-set_same ys i x (omega arith)

pub slice_get-set_other : {A : Type 0} (xs : List A) (i j : ℕ) (x : A) → j ≢ i
    → slice_get (set xs i x) j ≡ slice_get xs j
slice_get-set_other (y ∷ ys) zero zero x ne = absurd (ne refl)
slice_get-set_other (y ∷ ys) (suc i) (suc j) x ne = slice_get-set_other ys i j x (λ e. ne (ap suc e))
slice_get-set_other _ _ _ x ne = cc

-- Writing the element that is already there leaves the list unchanged.
pub set_found : {A : Type 0} (xs : List A) (i : ℕ) (x : A) → slice_get xs i ≡ Some x → set xs i x ≡ xs
set_found [] i x is = refl
set_found (y ∷ ys) zero x is = ap (λ z. z ∷ ys) (sym (some_is y x is))
set_found (y ∷ ys) (suc i) x is = ap (λ zs. y ∷ zs) (set_found ys i x is)

pub first_false : (a b : Bool) → (a || b) ≡ false → a ≡ false
first_false true b e = absurd cc
first_false false b e = refl

pub second_false : (a b : Bool) → (a || b) ≡ false → b ≡ false
second_false true b e = absurd cc
second_false false b e = e

-- If no element of the list passes a test, no element that an index gives passes it.
pub none_at : {A : Type 0} (p : A → Bool) (xs : List A) (k : ℕ) (d : A) → list_any p xs ≡ false → p d ≡ false
    → p (get_or xs k d) ≡ false
none_at p [] k d none default = default
none_at p (x ∷ xs) zero d none default = first_false (p x) (list_any p xs) none
none_at p (x ∷ xs) (suc k) d none default = none_at p xs k d (second_false (p x) (list_any p xs) none) default

-- A list that repeats one value gives that value at every index, past its end as well.
pub get_or-replicate_default : {A : Type 0} (n k : ℕ) (x : A) → get_or (replicate n x) k x ≡ x
get_or-replicate_default zero k x = refl
get_or-replicate_default (suc n) zero x = refl
get_or-replicate_default (suc n) (suc k) x = get_or-replicate_default n k x

-- The element at an index, with a property that it has.
pub record FoundAt {A : Type 0} (P : A → Type 0) (xs : List A) (i : ℕ) : Type 0 where
  pub found : A
  pub is_there : slice_get xs i ≡ Some found
  pub holds : P found

pub all_at : {A : Type 0} (P : A → Type 0) (xs : List A) (i : ℕ) → AllByRecursion P xs → i < length xs → FoundAt P xs i
all_at P [] i all h = absurd (omega arith)
all_at P (x ∷ xs) zero all h = record { found = x; is_there = refl; holds = all.0 }
all_at P (x ∷ xs) (suc i) all h =
    let rest = all_at P xs i all.1 (omega arith) in
    record { found = rest.found; is_there = rest.is_there; holds = rest.holds }

pub all_of_found : {A : Type 0} (P : A → Type 0) (xs : List A) (i : ℕ) (x : A) → AllByRecursion P xs
    → slice_get xs i ≡ Some x → P x
all_of_found P [] i x all is = absurd cc
all_of_found P (y ∷ ys) zero x all is = subst P (some_is y x is) all.0
all_of_found P (y ∷ ys) (suc i) x all is = all_of_found P ys i x all.1 is

pub list_all_found : {A : Type 0} (p : A → Bool) (xs : List A) (i : ℕ) (x : A) → list_all p xs ≡ true
    → slice_get xs i ≡ Some x → p x ≡ true
list_all_found p [] i x all is = absurd cc
list_all_found p (y ∷ ys) zero x all is = sym (ap p (some_is y x is)) ∙ and_first (p y) (list_all p ys) all
list_all_found p (y ∷ ys) (suc i) x all is = list_all_found p ys i x (and_second (p y) (list_all p ys) all) is

-- An element of a mapped list is the image of an element of the original list.
pub record MappedAt {A B : Type 0} (f : A → B) (xs : List A) (i : ℕ) (y : B) : Type 0 where
  pub source : A
  pub is_there : slice_get xs i ≡ Some source
  pub is_image : f source ≡ y

pub slice_get-map : {A B : Type 0} (f : A → B) (xs : List A) (i : ℕ) (y : B) → slice_get (map f xs) i ≡ Some y
    → MappedAt f xs i y
slice_get-map f [] i y is = absurd cc
slice_get-map f (x ∷ xs) zero y is = record { source = x; is_there = refl; is_image = some_is (f x) y is }
slice_get-map f (x ∷ xs) (suc i) y is =
    let rest = slice_get-map f xs i y is in
    record { source = rest.source; is_there = rest.is_there; is_image = rest.is_image }

pub slice_get-image : {A B : Type 0} (f : A → B) (xs : List A) (i : ℕ) (x : A) → slice_get xs i ≡ Some x
    → slice_get (map f xs) i ≡ Some (f x)
slice_get-image f [] i x is = absurd cc
slice_get-image f (y ∷ ys) zero x is = ap (λ z. Some (f z)) (some_is y x is)
slice_get-image f (y ∷ ys) (suc i) x is = slice_get-image f ys i x is

pub map-set : {A B : Type 0} (f : A → B) (xs : List A) (i : ℕ) (x : A) → map f (set xs i x) ≡ set (map f xs) i (f x)
map-set f [] i x = refl
map-set f (y ∷ ys) zero x = refl
map-set f (y ∷ ys) (suc i) x = ap (λ zs. f y ∷ zs) (map-set f ys i x)

-- If a property holds of the new element, and held of all the others, it holds of each element after the write.
pub written_others : {A : Type 0} (P : ℕ → A → Type 0) (actors : List A) (t : ℕ) (a after : A)
    → slice_get actors t ≡ Some a → P t after
    → ((u : ℕ) (b : A) → u ≢ t → slice_get actors u ≡ Some b → P u b)
    → (u : ℕ) (b : A) → slice_get (slice_set actors t after) u ≡ Some b → P u b
written_others P actors t a after found own others u b is =
    elim (eqb_tells u t) [
      | inl same ↦
          let now : Some after ≡ Some b =
          sym (ap (slice_get (slice_set actors t after)) same.1
          ∙ slice_get-set_same actors t after (slice_get_within actors t a found)) ∙ is in
          subst (P u) (some_is after b now) (subst (λ (w : ℕ). P w after) (sym same.1) own)
      | inr apart ↦ others u b apart.1 (sym (slice_get-set_other actors t u after apart.1) ∙ is)
    ]

-- The same, if it held of the element that is replaced, too.
pub written_actor : {A : Type 0} (P : ℕ → A → Type 0) (actors : List A) (t : ℕ) (a after : A)
    → slice_get actors t ≡ Some a → P t after → ((u : ℕ) (b : A) → slice_get actors u ≡ Some b → P u b)
    → (u : ℕ) (b : A) → slice_get (slice_set actors t after) u ≡ Some b → P u b
written_actor P actors t a after found own others =
    written_others P actors t a after found own (λ u b apart. others u b)
