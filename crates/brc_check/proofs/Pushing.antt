-- A list with one item more at its end.
use Rattle.std.proofs.Common.{◌≡◌, ℕ, zero, suc, List, [], ◌∷◌, ◌++◌, length, refl, sym, ap, inl, inr}
use Rattle.std.specs.Prelude.{Some, ◌⊎◌, slice_get}
use Rattle.std.proofs.lemmas.Option.{none-some, same_Some}

pub push-kept : {A : Type 0} (xs : List A) (y : A) (k : ℕ) (x : A) → slice_get xs k ≡ Some x
    → slice_get (xs ++ y ∷ []) k ≡ Some x
push-kept [] y k x e = absurd (none-some x e)
push-kept (z ∷ xs) y zero x e = e
push-kept (z ∷ xs) y (suc k) x e = push-kept xs y k x e

pub push-last : {A : Type 0} (xs : List A) (y : A) → slice_get (xs ++ y ∷ []) (length xs) ≡ Some y
push-last [] y = refl
push-last (x ∷ xs) y = push-last xs y

-- what is found is an old item, or is the new one
pub push-cases : {A : Type 0} (xs : List A) (y : A) (k : ℕ) (x : A) → slice_get (xs ++ y ∷ []) k ≡ Some x
    → (slice_get xs k ≡ Some x) ⊎ ((k ≡ length xs) × (x ≡ y))
push-cases [] y zero x e = inr (refl, sym (same_Some y x e))
push-cases [] y (suc k) x e = absurd (none-some x e)
push-cases (z ∷ xs) y zero x e = inl e
push-cases (z ∷ xs) y (suc k) x e =
    elim (push-cases xs y k x e) [
      | inl old ↦ inl old
      | inr new ↦ inr (ap suc new.0, new.1)
    ]
