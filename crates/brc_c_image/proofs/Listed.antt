-- What holds at each place of a list, one after another.
use Rattle.std.proofs.Common.{◌≡◌, ℕ, ◌<◌, ◌+◌, List, length, refl, subst}
use Rattle.std.proofs.Common.{below_more}
use Rattle.std.specs.Prelude.{Some, slice_get, slice_index_or}
use Rattle.std.proofs.lemmas.Option.{slice_get_read}

next_at : {X : Type 0} (P : ℕ → X → Type 0) (xs : List X) (i : ℕ) (x : X) → i < length xs
    → x ≡ slice_index_or xs i x → P i x → (y : X) → slice_get xs i ≡ Some y → P i y
next_at P xs i x within is here y at =
    let there = slice_get_read xs (length xs) i x refl within is in
    let same : x ≡ y = cc in
    subst (P i) same here

-- what holds of the items in front and of the next one
pub front_more : {X : Type 0} (P : ℕ → X → Type 0) (xs : List X) (i : ℕ) (x : X) → i < length xs
    → x ≡ slice_index_or xs i x → ((k : ℕ) (y : X) → k < i → slice_get xs k ≡ Some y → P k y) → P i x
    → (k : ℕ) (y : X) → k < i + 1 → slice_get xs k ≡ Some y → P k y
front_more {X} P xs i x within is front here k y below at =
    below_more (λ j. (z : X) → slice_get xs j ≡ Some z → P j z) i (λ j less z there. front j z less there)
    (next_at P xs i x within is here) k below y at
