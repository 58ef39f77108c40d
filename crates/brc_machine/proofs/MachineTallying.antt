-- The running threads of a machine, whatever the code keeps of each.
use Rattle.std.proofs.Common.{◌≡◌, ℕ, ◌+◌, Bool, cond, List, [], ◌∷◌, map, refl, sym, ap, ◌∙◌}
use Rattle.std.specs.Prelude.{sum_by, count_by}
use Rattle.std.proofs.lemmas.List.Sums.{sum_by-cons}

sum_over : {X Y : Type 0} (f : Y → ℕ) (g : X → Y) (xs : List X) → sum_by f (map g xs) ≡ sum_by (λ x. f (g x)) xs
sum_over f g [] = refl
sum_over f g (x ∷ xs) =
    sum_by-cons f (g x) (map g xs) ∙ ap (λ (n : ℕ). f (g x) + n) (sum_over f g xs)
    ∙ sym (sum_by-cons (λ y. f (g y)) x xs)

-- Counting the elements of a mapped list is counting the list's elements by the mapped test.
pub count_over : {X Y : Type 0} (p : Y → Bool) (g : X → Y) (xs : List X)
    → count_by (λ x. p (g x)) xs ≡ count_by p (map g xs)
count_over p g xs = sym (sum_over (λ y. cond (p y) 1 0) g xs)
