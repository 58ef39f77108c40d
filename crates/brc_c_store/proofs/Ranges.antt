-- The numbers from one up to another, over which loops go.
use Rattle.std.proofs.Common.{◌≡◌, ℕ, suc, ◌+◌, ◌-◌, ◌<◌, ◌≤◌, Bool, false, ◌||◌, cond, List, [], ◌∷◌}
use Rattle.std.proofs.Common.{find, None, Some, ap, arith}
use Rattle.std.specs.List.{range_with_len, list_any}

unfoldable pub numbers_from : ℕ → ℕ → List ℕ
numbers_from n end = range_with_len n (end - n)

pub from_first : (end : ℕ) → numbers_from 0 end ≡ range_with_len 0 end
unfolding numbers_from
from_first end = let all : end - 0 ≡ end = omega arith in ap (range_with_len 0) all

pub from_next : (n end : ℕ) → n < end → numbers_from n end ≡ n ∷ numbers_from (n + 1) end
unfolding numbers_from
from_next n end h = let one_more : end - n ≡ suc (end - (n + 1)) = omega arith in ap (range_with_len n) one_more

pub from_end : (n end : ℕ) → end ≤ n → numbers_from n end ≡ []
unfolding numbers_from
from_end n end h = let none : end - n ≡ 0 = omega arith in ap (range_with_len n) none

pub any_first : (p : ℕ → Bool) (end : ℕ) → list_any p (numbers_from 0 end) ≡ list_any p (range_with_len 0 end)
any_first p end = ap (list_any p) (from_first end)

pub any_next : (p : ℕ → Bool) (n end : ℕ) → n < end
    → list_any p (numbers_from n end) ≡ (p n || list_any p (numbers_from (n + 1) end))
any_next p n end h = ap (list_any p) (from_next n end h)

pub any_end : (p : ℕ → Bool) (n end : ℕ) → end ≤ n → list_any p (numbers_from n end) ≡ false
any_end p n end h = ap (list_any p) (from_end n end h)

pub ruleset any_of_numbers = (any_first, any_next, any_end)

pub find_first : (p : ℕ → Bool) (end : ℕ) → find p (numbers_from 0 end) ≡ find p (range_with_len 0 end)
find_first p end = ap (find p) (from_first end)

pub find_next : (p : ℕ → Bool) (n end : ℕ) → n < end
    → find p (numbers_from n end) ≡ cond (p n) (Some n) (find p (numbers_from (n + 1) end))
find_next p n end h = ap (find p) (from_next n end h)

pub find_end : (p : ℕ → Bool) (n end : ℕ) → end ≤ n → find p (numbers_from n end) ≡ None
find_end p n end h = ap (find p) (from_end n end h)

pub ruleset first_of_numbers = (find_first, find_next, find_end)
