-- One bit of a mark word.
use Rattle.std.proofs.Common.{◌≡◌, ℕ, ◌^◌, ◌<◌, ap, ◌∙◌, arith, inl, inr}
use Rattle.std.specs.Prelude.{bit_and}
use Rattle.std.specs.Int.{w64, bit_at}
use Rattle.std.proofs.lemmas.Bool.Decides.{eqb_tells}
use Rattle.std.proofs.lemmas.Nat.{pow_below, and_le_l, xor_lt}
use Rattle.std.proofs.lemmas.Nat.Bits.{bit_at-lt, bit_at_and, bit_at_xor, bit_at_not, bit_at-pow_same, bit_at-pow_other, same_from_bits_below}
use Rattle.brc_word.specs.Words.{marks_of_word, unmarked_word, other_marks}

-- In each bit, an and with the mask of all other bits leaves what taking the mark leaves.
same_bit : (word k i : ℕ) → k < marks_of_word → i < marks_of_word
    → bit_at (bit_and word (other_marks k)) i ≡ bit_at (unmarked_word word k) i
same_bit word k i low here =
    let left = bit_at_and word (other_marks k) i in
    let mask = bit_at_not w64 (2 ^ k) i (pow_below k 64 low) here in
    let right = bit_at_xor word (bit_and word (2 ^ k)) i in
    let inner = bit_at_and word (2 ^ k) i in
    let bound = bit_at-lt word i in
    elim (eqb_tells i k) [
      | inl same ↦
          let bit : bit_at (2 ^ k) i ≡ 1 = ap (bit_at (2 ^ k)) same.1 ∙ bit_at-pow_same k in
          omega (arith, left, mask, right, inner, bound, bit)
      | inr other ↦ omega (arith, left, mask, right, inner, bound, bit_at-pow_other k i other.1)
    ]

-- An and with the mask of all other bits takes the mark.
pub taken_by_and : (word k : ℕ) → word < 2 ^ 64 → k < marks_of_word
    → bit_and word (other_marks k) ≡ unmarked_word word k
taken_by_and word k fits low =
    same_from_bits_below 64 (bit_and word (other_marks k)) (unmarked_word word k)
    (omega (arith, and_le_l word (other_marks k), fits))
    (xor_lt 64 word (bit_and word (2 ^ k)) fits (omega (arith, and_le_l word (2 ^ k), fits)))
    (λ i here. same_bit word k i low here)
