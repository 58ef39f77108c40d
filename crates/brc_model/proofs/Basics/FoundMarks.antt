-- The marks that a thread's exit finds in a mark word: they are of rows that the thread has used, and they stay so
-- while the exit takes one after another.
use Rattle.std.proofs.Common.{◌≡◌, ◌≢◌, ℕ, ◌+◌, ◌-◌, ◌*◌, ◌/◌, ◌%◌, ◌^◌, ◌<◌, min, Bool, true, sym, ap, ◌∙◌, subst, arith, inl, inr}
use Rattle.std.specs.Prelude.{◌==◌, ◌&&◌, bit_and}
use Rattle.std.specs.Int.{w64}
use Rattle.std.proofs.lemmas.Bool.{eqb-true, eq-eqb, and_parts, cases_lt}
use Rattle.std.proofs.lemmas.Nat.{pow_pos, pow_below, mod_below, and_le_l, xor_lt}
use Rattle.std.proofs.lemmas.Nat.Bits.{bit_at-trailing_zeros, bit_at_above, bit_at_cat_low, and_pow}
use lib.Bits.{xor_add_and}
use Rattle.brc_word.specs.Words.{marks_of_word, mark_at, unmarked_word, lowest_mark, first_marks}
use Rattle.brc_model.specs.Knowledge.{AreUsedMarks}
use Rattle.brc_model.specs.OpenWork.{is_found}
use Rattle.brc_model.proofs.Basics.Marks.{taken_apart, blank_mark}

-- A load finds marks of used rows, if it goes on as far as the rows are used.
pub found_used : (found used w n : ℕ) → n ≡ used - marks_of_word * w → AreUsedMarks used w (first_marks found n)
found_used found used w n left =
    subst (λ (k : ℕ). first_marks found n < 2 ^ min k marks_of_word) left
    (mod_below found (2 ^ min n marks_of_word) (pow_pos (min n marks_of_word)))

-- The marks fit into a word.
pub marks_fit : (marks used w : ℕ) → AreUsedMarks used w marks → marks < 2 ^ 64
marks_fit marks used w are = elim (cases_lt (used - marks_of_word * w) marks_of_word) [
  | inl less ↦
      let few : min (used - marks_of_word * w) marks_of_word < 64 = omega (arith, less) in
      omega (arith, are, pow_below (min (used - marks_of_word * w) marks_of_word) 64 few)
  | inr more ↦
      let all : min (used - marks_of_word * w) marks_of_word ≡ 64 = omega (arith, more) in
      subst (λ (k : ℕ). marks < 2 ^ k) all are
]

-- The lowest one is set, and its row is used.
pub lowest_set : (marks : ℕ) → 0 < marks → marks < 2 ^ 64 → mark_at marks (lowest_mark marks) ≡ 1
lowest_set marks some fits = (bit_at-trailing_zeros w64 marks some fits).1

pub lowest_used : (marks used w : ℕ) → 0 < marks → AreUsedMarks used w marks
    → marks_of_word * w + lowest_mark marks < used
lowest_used marks used w some are =
    let set = lowest_set marks some (marks_fit marks used w are) in
    let most = min (used - marks_of_word * w) marks_of_word in
    elim (cases_lt (lowest_mark marks) most) [
      | inl low ↦ omega (arith, low)
      | inr past ↦ absurd (omega (arith, set, bit_at_above marks most (lowest_mark marks) are past))
    ]

-- Without the lowest one they are still marks of used rows.
pub taken_used : (marks used w : ℕ) → AreUsedMarks used w marks
    → AreUsedMarks used w (unmarked_word marks (lowest_mark marks))
taken_used marks used w are =
    let k = lowest_mark marks in
    xor_lt (min (used - marks_of_word * w) marks_of_word) marks (bit_and marks (2 ^ k)) are
    (omega (arith, and_le_l marks (2 ^ k), are))

-- Fewer marks are left once the lowest is taken.
pub fewer_left : (marks : ℕ) → 0 < marks → marks < 2 ^ 64 → unmarked_word marks (lowest_mark marks) < marks
fewer_left marks some fits =
    let k = lowest_mark marks in
    let bit : bit_and marks (2 ^ k) ≡ 2 ^ k =
    and_pow marks k ∙ ap (λ (b : ℕ). b * 2 ^ k) (lowest_set marks some fits) ∙ omega arith in
    let both : bit_and marks (bit_and marks (2 ^ k)) ≡ 2 ^ k = ap (bit_and marks) bit ∙ bit in
    omega (arith, xor_add_and marks (bit_and marks (2 ^ k)), bit, both, pow_pos k)

-- ---- which marks are found

-- A load finds the marks of the rows that are still to be scanned.
pub first_bit : (found n i : ℕ) → i < min n marks_of_word → mark_at (first_marks found n) i ≡ mark_at found i
first_bit found n i low =
    let most = min n marks_of_word in
    let whole : found / 2 ^ most * 2 ^ most + found % 2 ^ most ≡ found = omega (arith, pow_pos most) in
    sym (bit_at_cat_low (found / 2 ^ most) most (found % 2 ^ most) i low) ∙ ap (λ (v : ℕ). mark_at v i) whole

pub is_found_here : (i w marks : ℕ) → i / marks_of_word ≡ w → mark_at marks (i % marks_of_word) ≡ 1
    → is_found i w marks ≡ true
is_found_here i w marks here set =
    ap (λ (b : Bool). b && (mark_at marks (i % marks_of_word) == 1)) (eq-eqb (i / marks_of_word) w here)
    ∙ eq-eqb (mark_at marks (i % marks_of_word)) 1 set

-- The mark of a row among those that were found.
pub record IsFound (i w marks : ℕ) : Type 0 where
  pub word : i / marks_of_word ≡ w
  pub set : mark_at marks (i % marks_of_word) ≡ 1

pub found_parts : (i w marks : ℕ) → is_found i w marks ≡ true → IsFound i w marks
found_parts i w marks is =
    let parts = and_parts (i / marks_of_word == w) (mark_at marks (i % marks_of_word) == 1) is in
    record {
      word = eqb-true (i / marks_of_word) w parts.0;
      set = eqb-true (mark_at marks (i % marks_of_word)) 1 parts.1;
    }

pub none_found : (i w : ℕ) → is_found i w 0 ≢ true
none_found i w is = let found = found_parts i w 0 is in omega (arith, found.set, blank_mark (i % marks_of_word))

-- Taking the lowest mark leaves the others among those that were found.
pub others_found : (i w marks : ℕ) → marks_of_word * w + lowest_mark marks ≢ i → is_found i w marks ≡ true
    → is_found i w (unmarked_word marks (lowest_mark marks)) ≡ true
others_found i w marks other is =
    let found = found_parts i w marks is in
    let apart : i % marks_of_word ≢ lowest_mark marks = λ e. other (omega (arith, e, found.word)) in
    is_found_here i w (unmarked_word marks (lowest_mark marks)) found.word
    (taken_apart marks (lowest_mark marks) (i % marks_of_word) apart ∙ found.set)
