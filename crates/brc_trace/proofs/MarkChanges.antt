-- Which steps on a mark change its word.
use Rattle.std.proofs.Common.{◌≡◌, ◌≢◌, ℕ, ◌∙◌, ◌^◌, inl, inr, sym, ap, arith}
use Rattle.std.proofs.lemmas.Bool.Decides.{eqb_tells}
use Rattle.std.proofs.lemmas.Nat.Bits.{bit_at_or, bit_at-pow_other, same_from_bits}
use Rattle.std.specs.Int.{bit_at}
use Rattle.brc_word.specs.declared.values.TheConstants.{SET}
use Rattle.brc_word.specs.Words.{mark_at, marked_word, unmarked_word}
use Rattle.brc_model.proofs.Basics.Marks.{set_here, taken_here, none_taken, mark_bound}

-- A step that takes a set mark changes the word.
pub set_taken : (word bit : ℕ) → mark_at word bit ≡ SET → unmarked_word word bit ≢ word
set_taken word bit set same =
    let wrong : 0 ≡ SET = sym (taken_here word bit) ∙ ap (λ (w : ℕ). mark_at w bit) same ∙ set in absurd cc

-- A step that takes a clear mark leaves the word as it is.
pub clear_taken : (word bit : ℕ) → mark_at word bit ≢ SET → unmarked_word word bit ≡ word
clear_taken word bit clear = none_taken word bit (omega (arith, mark_bound word bit, clear))

-- A step that sets a set mark leaves the word as it is.
pub set_again : (word bit : ℕ) → mark_at word bit ≡ SET → marked_word word bit ≡ word
set_again word bit set =
    same_from_bits (marked_word word bit) word
    (λ i. elim (eqb_tells i bit) [
      | inl same ↦
          ap (bit_at (marked_word word bit)) same.1 ∙ set_here word bit ∙ sym set ∙ ap (bit_at word) (sym same.1)
      | inr other ↦ omega (arith, bit_at_or word (2 ^ bit) i, bit_at-pow_other bit i other.1)
    ])

-- A step that sets a clear mark changes the word.
pub clear_set : (word bit : ℕ) → mark_at word bit ≢ SET → marked_word word bit ≢ word
clear_set word bit clear same = clear (sym (ap (λ (w : ℕ). mark_at w bit) same) ∙ set_here word bit)
