-- Loops over the numbers up to an end, each of which changes what the loop goes on with.
use Rattle.std.proofs.Common.{◌≡◌, ℕ, ◌+◌, ◌<◌, ◌≤◌, fold, ap, sym, ◌∙◌}
use Rattle.std.specs.List.{range_with_len}
use Rattle.brc_c_store.proofs.Ranges.{numbers_from, from_first, from_next, from_end}

module _ {A : Type 0} (f : A → ℕ → A) where
  pub turns_first : (a : A) (end : ℕ) → fold f a (numbers_from 0 end) ≡ fold f a (range_with_len 0 end)
  turns_first a end = ap (fold f a) (from_first end)

  pub turns_next : (a b : A) (at end : ℕ) → b ≡ f a at → at < end
      → fold f b (numbers_from (at + 1) end) ≡ fold f a (numbers_from at end)
  turns_next a b at end e h =
      ap (λ x. fold f x (numbers_from (at + 1) end)) e ∙ sym (ap (fold f a) (from_next at end h))

  pub turns_end : (a : A) (at end : ℕ) → end ≤ at → fold f a (numbers_from at end) ≡ a
  turns_end a at end h = ap (fold f a) (from_end at end h)
