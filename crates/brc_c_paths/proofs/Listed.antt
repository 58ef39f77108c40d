-- What holds of the items of a list, one after another, and of what is made of them.
use Rattle.std.proofs.Common.{◌≡◌, ℕ, zero, suc, ◌<◌, ◌≤◌, ◌+◌, List, [], ◌∷◌, length, refl, ap, subst, arith}
use Rattle.std.proofs.Common.{below_more}
use Rattle.std.specs.Prelude.{false, Option, None, Some, is_some, slice_get, slice_index_or, map, Contains}
use Rattle.std.proofs.lemmas.Option.{slice_get_read, slice_get_within}
use Rattle.brc_c_paths.specs.declared.point.Point.{Point}
use Rattle.brc_c_paths.specs.Paths.{GraphPoint}
use Rattle.brc_c_paths.specs.Closed.{graph_point, graph_points}

-- the item at a place is among the items
pub there_contained : {X : Type 0} (xs : List X) (k : ℕ) (x : X) → slice_get xs k ≡ Some x → Contains xs x
there_contained [] k x e = absurd cc
there_contained (first ∷ xs) zero x e = (0, omega arith, (let same : first ≡ x = cc in same))
there_contained (first ∷ xs) (suc k) x e =
    let h = there_contained xs k x e in
    (suc h.0, (let within = h.1 in omega arith), h.2)

-- what is made of the item at a place is at that place of what is made of all
mapped_there : {X Y : Type 0} (f : X → Y) (xs : List X) (k : ℕ) (x : X) → slice_get xs k ≡ Some x
    → slice_get (map f xs) k ≡ Some (f x)
mapped_there f [] k x e = absurd cc
mapped_there f (first ∷ xs) zero x e = let same : first ≡ x = cc in ap (λ z. Some (f z)) same
mapped_there f (first ∷ xs) (suc k) x e = mapped_there f xs k x e

-- and only such things are there
pub made_of : {X Y : Type 0} (f : X → Y) (xs : List X) (k : ℕ) (y : Y) → slice_get (map f xs) k ≡ Some y
    → (x : X) × (slice_get xs k ≡ Some x) × (f x ≡ y)
made_of f [] k y e = absurd cc
made_of f (first ∷ xs) zero y e = (first, refl, (let same : f first ≡ y = cc in same))
made_of f (first ∷ xs) (suc k) y e = made_of f xs k y e

-- a point at a place of the list is there among those that are found
pub point_there : (points : List Point) (k : ℕ) (point : Point) (p : GraphPoint) → k < length points
    → point ≡ slice_index_or points k point → graph_point point ≡ p → slice_get (graph_points points) k ≡ Some p
point_there points k point p within is same =
    subst (λ (q : GraphPoint). slice_get (graph_points points) k ≡ Some q) same
    (mapped_there graph_point points k point (slice_get_read points (length points) k point refl within is))

mapped_at : {X Y : Type 0} (f : X → Y) (P : Y → Type 0) (xs : List X)
    → ((k : ℕ) (x : X) → slice_get xs k ≡ Some x → P (f x)) → (y : Y) (k : ℕ) → k < length (map f xs)
    → slice_index_or (map f xs) k y ≡ y → P y
mapped_at f P [] h y k within e = absurd (omega arith)
mapped_at f P (x ∷ xs) h y zero within e = subst P e (h 0 x refl)
mapped_at f P (x ∷ xs) h y (suc k) within e =
    mapped_at f P xs (λ j z at. h (suc j) z at) y k (omega arith) e

-- what holds of what is made of each item in front holds of all that is made, if all are in front
pub front_all : {X Y : Type 0} (f : X → Y) (P : Y → Type 0) (xs : List X) (i : ℕ) → length xs ≤ i
    → ((k : ℕ) (x : X) → k < i → slice_get xs k ≡ Some x → P (f x)) → (y : Y) → Contains (map f xs) y → P y
front_all f P xs i past front y contained =
    mapped_at f P xs
    (λ k x at. let within = slice_get_within xs k x at in front k x (omega (arith, within)) at)
    y contained.0 contained.1 contained.2

-- what holds of the items in front holds of all, if all are in front
pub front_whole : {X : Type 0} (P : X → Type 0) (xs : List X) (i : ℕ) → length xs ≤ i
    → ((k : ℕ) (x : X) → k < i → slice_get xs k ≡ Some x → P x) → (k : ℕ) (x : X) → slice_get xs k ≡ Some x → P x
front_whole P xs i past front k x at =
    let within = slice_get_within xs k x at in front k x (omega (arith, within)) at

next_at : {X : Type 0} (P : X → Type 0) (xs : List X) (i : ℕ) (x : X) → i < length xs
    → x ≡ slice_index_or xs i x → P x → (y : X) → slice_get xs i ≡ Some y → P y
next_at P xs i x within is here y at =
    let there = slice_get_read xs (length xs) i x refl within is in
    let same : x ≡ y = cc in
    subst P same here

-- what holds of the items in front and of the next one
pub front_more : {X : Type 0} (P : X → Type 0) (xs : List X) (i : ℕ) (x : X) → i < length xs
    → x ≡ slice_index_or xs i x → ((k : ℕ) (y : X) → k < i → slice_get xs k ≡ Some y → P y) → P x
    → (k : ℕ) (y : X) → k < i + 1 → slice_get xs k ≡ Some y → P y
front_more {X} P xs i x within is front here k y below at =
    below_more (λ j. (z : X) → slice_get xs j ≡ Some z → P z) i (λ j less z there. front j z less there)
    (next_at P xs i x within is here) k below y at

-- what is nothing, by the test
pub none_so : {X : Type 0} (found : Option X) → is_some found ≡ false → found ≡ None
none_so None e = refl
none_so (Some x) e = absurd cc
