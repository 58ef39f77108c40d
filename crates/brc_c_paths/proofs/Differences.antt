-- The registers of a set that aren't in another one, from sets of all the others.
use Rattle.std.proofs.Common.{◌≡◌, ℕ, zero, suc, ◌-◌, ◌*◌, ◌%◌, ◌^◌, ◌<◌, inl, inr, Bool, true, false, cond, not}
use Rattle.std.proofs.Common.{◌&&◌, ◌||◌, eqb, List, [], ◌∷◌, filter, fold, max, refl, ap, sym, ◌∙◌, arith, subst}
use Rattle.std.specs.Prelude.{bit_and, bit_or}
use Rattle.std.proofs.Math.Pow.{pow-sub-lt}
use Rattle.std.specs.List.{list_any}
use Rattle.std.specs.Int.{bit_at}
use Rattle.std.proofs.lemmas.Bool.{ne_eqb, eq-eqb, eqb-true}
use Rattle.std.proofs.lemmas.Bool.Decides.{eqb_tells}
use Rattle.std.proofs.lemmas.Nat.Bits.{and_pow, bit_at-lt, bit_at_or, bit_at-pow_same, bit_at-pow_other}
use Rattle.brc_c_store.specs.declared.register.Register.{Register}
use Rattle.brc_c_store.specs.declared.register.RegisterSet.{RegisterSet}
use Rattle.brc_c_store.specs.Registers.{register_of, all_registers, no_registers, has_none, has_register}
use Rattle.brc_c_store.specs.Registers.{with_register, union_of, others_of}
use Rattle.brc_c_paths.specs.Registers.{difference_of}

-- ---- bits

-- the number has the bit
abbrev has_one : ℕ → ℕ → Bool
has_one n k = not (eqb (bit_and n (2 ^ k)) 0)

abbrev is_one : ℕ → Bool
is_one bit = not (eqb bit 0)

is_one_times : (bit k : ℕ) → bit < 2 → is_one (bit * 2 ^ k) ≡ is_one bit
is_one_times zero k h = let none : 0 * 2 ^ k ≡ 0 = omega arith in ap is_one none
is_one_times (suc zero) k h =
    let positive : 2 ^ k - 1 < 2 ^ k = pow-sub-lt k (omega arith) in
    ap not (ne_eqb (1 * 2 ^ k) 0 (λ e. omega arith))
is_one_times (suc (suc n)) k h = let never : ⊥ = omega arith in elim never [ ]

has_one_at : (n k : ℕ) → has_one n k ≡ is_one (bit_at n k)
has_one_at n k = ap is_one (and_pow n k) ∙ is_one_times (bit_at n k) k (bit_at-lt n k)

is_one_of_two : (x y : ℕ) → is_one (max x y) ≡ (is_one x || is_one y)
is_one_of_two zero y = let same : max zero y ≡ y = omega arith in ap is_one same
is_one_of_two (suc x) y =
    ap not (ne_eqb (max (suc x) y) 0 (λ e. omega arith))
    ∙ sym (ap (λ b. not b || is_one y) (ne_eqb (suc x) 0 (λ e. omega arith)))

has_one_of_two : (a b k : ℕ) → has_one (bit_or a b) k ≡ (has_one a k || has_one b k)
has_one_of_two a b k =
    has_one_at (bit_or a b) k ∙ ap is_one (bit_at_or a b k) ∙ is_one_of_two (bit_at a k) (bit_at b k)
    ∙ sym (ap (λ x. x || has_one b k) (has_one_at a k) ∙ ap (λ y. is_one (bit_at a k) || y) (has_one_at b k))

has_one_of_pow : (j k : ℕ) → has_one (2 ^ j) k ≡ eqb k j
has_one_of_pow j k =
    has_one_at (2 ^ j) k
    ∙ (elim (eqb_tells k j) [
      | inl e ↦ subst (λ i. is_one (bit_at (2 ^ j) i) ≡ eqb i j) (sym e.1)
          (ap is_one (bit_at-pow_same j) ∙ sym (eq-eqb j j refl))
      | inr e ↦ ap is_one (bit_at-pow_other j k e.1) ∙ sym e.0
    ])

-- ---- what sets have

-- the registers have the same bit
abbrev is_at_bit : Register → Register → Bool
is_at_bit r q = eqb (r.0 % 16) (q.0 % 16)

has_of_union : (s t : RegisterSet) (r : Register)
    → has_register (union_of s t) r ≡ (has_register s r || has_register t r)
has_of_union s t r = has_one_of_two s.0 t.0 (r.0 % 16)

has_of_with : (s : RegisterSet) (q r : Register)
    → has_register (with_register s q) r ≡ (has_register s r || is_at_bit r q)
has_of_with s q r =
    has_one_of_two s.0 (2 ^ (q.0 % 16)) (r.0 % 16)
    ∙ ap (λ b. has_register s r || b) (has_one_of_pow (q.0 % 16) (r.0 % 16))

or_grouped : (a b c : Bool) → ((a || b) || c) ≡ (a || (b || c))
or_grouped true b c = refl
or_grouped false b c = refl

or_false : (b : Bool) → (b || false) ≡ b
or_false true = refl
or_false false = refl

and_true : (b : Bool) → (b && true) ≡ b
and_true true = refl
and_true false = refl

and_false : (b : Bool) → (b && false) ≡ false
and_false true = refl
and_false false = refl

-- a set to which the registers that pass a test are added
has_of_those : (p : Register → Bool) (s : RegisterSet) (rs : List Register) (r : Register)
    → has_register (fold with_register s (filter p rs)) r
    ≡ (has_register s r || list_any (λ q. is_at_bit r q && p q) rs)
has_of_those p s [] r = sym (or_false (has_register s r))
has_of_those p s (q ∷ rs) r =
    let rest = list_any (λ t. is_at_bit r t && p t) rs in
    elim (p q) as (λ b. has_register (fold with_register s (cond b (q ∷ filter p rs) (filter p rs))) r
    ≡ (has_register s r || ((is_at_bit r q && b) || rest))) [
      | true ↦
          has_of_those p (with_register s q) rs r
          ∙ ap (λ b. b || rest) (has_of_with s q r)
          ∙ or_grouped (has_register s r) (is_at_bit r q) rest
          ∙ sym (ap (λ b. has_register s r || (b || rest)) (and_true (is_at_bit r q)))
      | false ↦
          has_of_those p s rs r
          ∙ sym (ap (λ b. has_register s r || (b || rest)) (and_false (is_at_bit r q)))
    ]

-- ---- sets of registers that agree

-- the tests agree on each of the registers
abbrev AgreeOn : (Register → Bool) → (Register → Bool) → List Register → Type 0
AgreeOn p q [] = Unit {0}
AgreeOn p q (r ∷ rs) = (p r ≡ q r) × AgreeOn p q rs

filter_agree_on : (p q : Register → Bool) (rs : List Register) → AgreeOn p q rs → filter p rs ≡ filter q rs
filter_agree_on p q [] h = refl
filter_agree_on p q (r ∷ rs) h =
    ap (λ b. cond b (r ∷ filter p rs) (filter p rs)) h.0
    ∙ ap (λ ts. cond (q r) (r ∷ ts) ts) (filter_agree_on p q rs h.1)

-- the set of the others has a register just if this one hasn't
are_others : (s : RegisterSet) → AgreeOn (has_register (others_of s)) (λ r. not (has_register s r)) all_registers
unfolding all_registers
are_others s =
    let at = λ (n : ℕ). has_of_those (λ q. not (has_register s q)) no_registers all_registers (register_of n) in (
      at 3 ∙ or_false _,
      (
        at 4 ∙ or_false _,
        (
          at 5 ∙ or_false _,
          (
            at 6 ∙ or_false _,
            (
              at 7 ∙ or_false _,
              (
                at 8 ∙ or_false _,
                (
                  at 9 ∙ or_false _,
                  (
                    at 10 ∙ or_false _,
                    (
                      at 11 ∙ or_false _,
                      (
                        at 12 ∙ or_false _,
                        (
                          at 13 ∙ or_false _,
                          (
                            at 14 ∙ or_false _,
                            (at 15 ∙ or_false _, tt),
                          ),
                        ),
                      ),
                    ),
                  ),
                ),
              ),
            ),
          ),
        ),
      ),
    )

-- ---- the difference

-- a register that is neither outside the set nor in the other one is in the set and not in the other one
neither : (a b : Bool) → not (not a || b) ≡ (a && not b)
neither true b = refl
neither false b = refl

agree_both : (s t : RegisterSet) (rs : List Register)
    → AgreeOn (has_register (others_of s)) (λ r. not (has_register s r)) rs
    → AgreeOn (λ r. not (has_register (union_of (others_of s) t) r))
    (λ r. has_register s r && not (has_register t r)) rs
agree_both s t [] h = tt
agree_both s t (r ∷ rs) h = (
  ap not (has_of_union (others_of s) t r ∙ ap (λ b. b || has_register t r) h.0)
      ∙ neither (has_register s r) (has_register t r),
  agree_both s t rs h.1,
)

pub others_of_others : (s t : RegisterSet) → others_of (union_of (others_of s) t) ≡ difference_of s t
others_of_others s t =
    ap (fold with_register no_registers)
    (filter_agree_on (λ r. not (has_register (union_of (others_of s) t) r))
    (λ r. has_register s r && not (has_register t r)) all_registers (agree_both s t all_registers (are_others s)))

-- nothing is left of a set that has nothing
pub difference_of_none : (s t : RegisterSet) → has_none s ≡ true → no_registers ≡ difference_of s t
unfolding all_registers
difference_of_none s t h =
    sym (ap (λ (n : ℕ). difference_of (record { 0 = n }) t) (eqb-true s.0 0 h))
