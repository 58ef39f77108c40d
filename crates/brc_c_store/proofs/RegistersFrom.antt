-- The registers from a number on, over which loops go.
use Rattle.std.proofs.Common.{◌≡◌, ℕ, suc, ◌+◌, ◌-◌, ◌<◌, ◌≤◌, Bool, true, false, cond, List, [], ◌∷◌}
use Rattle.std.proofs.Common.{Option, None, Some, map, find, filter, count_by, fold, refl, ap, ◌∙◌, arith}
use Rattle.std.specs.List.{range_with_len, last_or}
use Rattle.brc_c_store.specs.declared.register.Register.{Register}
use Rattle.brc_c_store.specs.declared.register.RegisterSet.{RegisterSet}
use Rattle.brc_c_store.specs.Registers.{register_of, all_registers, with_register}

unfoldable pub registers_from : ℕ → List Register
registers_from n = map register_of (range_with_len n (16 - n))

from_first : registers_from 3 ≡ all_registers
unfolding registers_from all_registers
from_first = refl

from_next : (n : ℕ) → n < 16 → registers_from n ≡ register_of n ∷ registers_from (n + 1)
unfolding registers_from
from_next n h =
    let one_more : 16 - n ≡ suc (16 - (n + 1)) = omega arith in
    ap (λ (k : ℕ). map register_of (range_with_len n k)) one_more

from_end : (n : ℕ) → 16 ≤ n → registers_from n ≡ []
unfolding registers_from
from_end n h =
    let none : 16 - n ≡ 0 = omega arith in
    ap (λ (k : ℕ). map register_of (range_with_len n k)) none

-- ---- the first register that passes a test

pub find_first : (p : Register → Bool) → find p (registers_from 3) ≡ find p all_registers
find_first p = ap (find p) from_first

pub find_next : (p : Register → Bool) (n : ℕ) → n < 16
    → find p (registers_from n) ≡ cond (p (register_of n)) (Some (register_of n)) (find p (registers_from (n + 1)))
find_next p n h = ap (find p) (from_next n h)

pub find_end : (p : Register → Bool) (n : ℕ) → 16 ≤ n → find p (registers_from n) ≡ None
find_end p n h = ap (find p) (from_end n h)

pub ruleset finding = (find_first, find_next, find_end)

-- ---- the last one

-- the last register that passes the test, or else o
abbrev pub last_that : (Register → Bool) → Option Register → List Register → Option Register
last_that p o rs = last_or o (filter p rs)

pub last_first : (p : Register → Bool) → last_that p None (registers_from 3) ≡ last_that p None all_registers
last_first p = ap (last_that p None) from_first

last_of_both : (p : Register → Bool) (o : Option Register) (r : Register) (rs : List Register)
    → last_that p o (r ∷ rs) ≡ last_that p (cond (p r) (Some r) o) rs
last_of_both p o r rs =
    elim (p r) as (λ b. last_or o (cond b (r ∷ filter p rs) (filter p rs)) ≡ last_that p (cond b (Some r) o) rs) [
      | true ↦ refl
      | false ↦ refl
    ]

pub last_next : (p : Register → Bool) (o : Option Register) (n : ℕ) → n < 16
    → last_that p o (registers_from n)
    ≡ last_that p (cond (p (register_of n)) (Some (register_of n)) o) (registers_from (n + 1))
last_next p o n h =
    ap (last_that p o) (from_next n h) ∙ last_of_both p o (register_of n) (registers_from (n + 1))

pub last_end : (p : Register → Bool) (o : Option Register) (n : ℕ) → 16 ≤ n → last_that p o (registers_from n) ≡ o
last_end p o n h = ap (last_that p o) (from_end n h)

pub ruleset finding_last = (last_first, last_next, last_end)

-- ---- how many

-- k more than those that pass the test
abbrev pub counted : (Register → Bool) → ℕ → List Register → ℕ
counted p k rs = fold (λ n r. n + cond (p r) 1 0) k rs

pub count_first : (p : Register → Bool) → counted p 0 (registers_from 3) ≡ count_by p all_registers
count_first p = ap (count_by p) from_first

pub count_next : (p : Register → Bool) (k n : ℕ) → n < 16
    → counted p k (registers_from n) ≡ counted p (k + cond (p (register_of n)) 1 0) (registers_from (n + 1))
count_next p k n h = ap (counted p k) (from_next n h)

pub count_end : (p : Register → Bool) (k n : ℕ) → 16 ≤ n → counted p k (registers_from n) ≡ k
count_end p k n h = ap (counted p k) (from_end n h)

-- ---- a set of them

-- the set with the registers that pass the test
abbrev pub with_those : (Register → Bool) → RegisterSet → List Register → RegisterSet
with_those p s rs = fold with_register s (filter p rs)

pub with_first : (p : Register → Bool) (s : RegisterSet)
    → with_those p s (registers_from 3) ≡ with_those p s all_registers
with_first p s = ap (with_those p s) from_first

with_both : (p : Register → Bool) (s : RegisterSet) (r : Register) (rs : List Register)
    → with_those p s (r ∷ rs) ≡ with_those p (cond (p r) (with_register s r) s) rs
with_both p s r rs =
    let kept : Bool → List Register = λ b. cond b (r ∷ filter p rs) (filter p rs) in
    elim (p r) as (λ b. fold with_register s (kept b) ≡ with_those p (cond b (with_register s r) s) rs) [
      | true ↦ refl
      | false ↦ refl
    ]

pub with_next : (p : Register → Bool) (s : RegisterSet) (n : ℕ) → n < 16
    → with_those p s (registers_from n)
    ≡ with_those p (cond (p (register_of n)) (with_register s (register_of n)) s) (registers_from (n + 1))
with_next p s n h = ap (with_those p s) (from_next n h) ∙ with_both p s (register_of n) (registers_from (n + 1))

pub with_end : (p : Register → Bool) (s : RegisterSet) (n : ℕ) → 16 ≤ n → with_those p s (registers_from n) ≡ s
with_end p s n h = ap (with_those p s) (from_end n h)

pub ruleset gathering = (with_first, with_next, with_end)
