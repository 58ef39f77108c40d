-- Where a row's mark is: in a bit of a mark word, which no other row has. A step that changes one bit of a mark word
-- leaves the marks of all other rows as they are.
use Rattle.std.proofs.Common.{◌≡◌, ◌≢◌, ℕ, ◌+◌, ◌*◌, ◌^◌, ◌<◌, refl, sym, ap, ◌∙◌, arith, inl, inr}
use Rattle.std.specs.Prelude.{bit_and, bit_xor}
use Rattle.std.proofs.lemmas.Bool.{cases_Bool}
use Rattle.std.proofs.lemmas.Nat.Bits.{bit_at-lt, bit_at_and, bit_at_or, bit_at_xor, bit_at-pow_same, bit_at-pow_other, bit_at-zero, and_pow, same_from_bits}
use Rattle.brc_word.specs.Words.{marks_of_word, mark_at, marked_word, unmarked_word}
use Rattle.brc_model.specs.declared.address.Address.{Address}
use Rattle.brc_model.specs.declared.address.Address.TheVariants.{Marks}
use Rattle.brc_model.specs.declared.layout.Layout.{Layout}
use Rattle.brc_model.specs.Duties.{mark_place}
use Rattle.brc_model.specs.Machine.{same_address, written, mark_of}
use Rattle.brc_model.specs.Layout.{row_count, block_of, row_at, index_of, mark_words_of, mark_word, mark_bit}
use Rattle.brc_model.proofs.Basics.Blocks.{row_back, index_within}
use Rattle.brc_model.proofs.Basics.Written.{written_here, written_apart, written_load, same_marks}

-- ---- one bit of a word

-- A word's mark is 1 after it was set.
pub set_here : (word k : ℕ) → mark_at (marked_word word k) k ≡ 1
set_here word k = omega (arith, bit_at_or word (2 ^ k) k, bit_at-pow_same k, bit_at-lt word k)

pub set_apart : (word k i : ℕ) → i ≢ k → mark_at (marked_word word k) i ≡ mark_at word i
set_apart word k i apart = omega (arith, bit_at_or word (2 ^ k) i, bit_at-pow_other k i apart)

-- A word's mark is 0 after it was taken.
pub taken_here : (word k : ℕ) → mark_at (unmarked_word word k) k ≡ 0
taken_here word k =
    omega (
      arith,
      bit_at_xor word (bit_and word (2 ^ k)) k,
      bit_at_and word (2 ^ k) k,
      bit_at-pow_same k,
      bit_at-lt word k,
    )

pub taken_apart : (word k i : ℕ) → i ≢ k → mark_at (unmarked_word word k) i ≡ mark_at word i
taken_apart word k i apart =
    omega (
      arith,
      bit_at_xor word (bit_and word (2 ^ k)) i,
      bit_at_and word (2 ^ k) i,
      bit_at-pow_other k i apart,
      bit_at-lt word i,
    )

-- A word stays as it is if a mark is taken that isn't set.
pub none_taken : (word k : ℕ) → mark_at word k ≡ 0 → unmarked_word word k ≡ word
none_taken word k none =
    let nothing : bit_and word (2 ^ k) ≡ 0 = and_pow word k ∙ ap (λ (b : ℕ). b * 2 ^ k) none ∙ omega arith in
    ap (bit_xor word) nothing
    ∙ same_from_bits (bit_xor word 0) word (λ i. omega (arith, bit_at_xor word 0 i, bit_at-zero i, bit_at-lt word i))

-- No mark of a blank word is set.
pub blank_mark : (k : ℕ) → mark_at 0 k ≡ 0
blank_mark k = bit_at-zero k

-- A mark is 0 or 1.
pub mark_bound : (word k : ℕ) → mark_at word k < 2
mark_bound word k = bit_at-lt word k

-- ---- a row's bit

module _ (layout : Layout) where
  -- The bit is one of its word.
  pub bit_low : (x : ℕ) → mark_bit layout x < marks_of_word
  bit_low x = omega arith

  -- The word and the bit determine the row.
  pub marks_row : (x : ℕ) → row_at layout (block_of layout x)
      (mark_word layout x * marks_of_word + mark_bit layout x) ≡ x
  marks_row x =
      let index : mark_word layout x * marks_of_word + mark_bit layout x ≡ index_of layout (block_of layout x) x =
      omega arith in
      ap (row_at layout (block_of layout x)) index ∙ row_back layout (block_of layout x) x refl

  -- The mark word of an existing row exists.
  pub word_within : (x : ℕ) → 0 < layout.rows → x < row_count layout
      → mark_word layout x < mark_words_of layout (block_of layout x)
  word_within x some there = omega (arith, index_within layout (block_of layout x) x some refl there)

  -- ---- one step on a mark word

  module _ (memory : Address → ℕ) where
    -- A step on a row's own mark word leaves the row the mark that it leaves in the row's bit.
    pub mark_here : (x left : ℕ)
        → mark_of layout (written memory (mark_place layout x) left) x
        ≡ mark_at left (mark_bit layout x)
    mark_here x left =
        ap (λ (w : ℕ). mark_at w (mark_bit layout x))
        (written_here memory (mark_place layout x) left)

    -- A step that changes one bit of a mark word at most leaves the mark of every row but that bit's.
    pub mark_apart : (t w k x left : ℕ) → row_at layout t (w * marks_of_word + k) ≢ x
        → ((i : ℕ) → i < marks_of_word → i ≢ k → mark_at left i ≡ mark_at (memory (Marks t w)) i)
        → mark_of layout (written memory (Marks t w) left) x ≡ mark_of layout memory x
    mark_apart t w k x left other keeps =
        let bit = mark_bit layout x in
        let at = mark_place layout x in
        elim (cases_Bool (same_address (Marks t w) at)) [
          | inl one_place ↦
              let same = same_marks t w (block_of layout x) (mark_word layout x) one_place in
              let here : Marks t w ≡ at = λ i. Marks (same.0 i) (same.1 i) in
              let apart : bit ≢ k = λ e. other
              (ap (λ (u : ℕ). row_at layout u (w * marks_of_word + k)) same.0
              ∙ ap (λ (v : ℕ). row_at layout (block_of layout x) (v * marks_of_word + k)) same.1
              ∙ ap (λ (j : ℕ). row_at layout (block_of layout x) (mark_word layout x * marks_of_word + j)) (sym e)
              ∙ marks_row x) in
              ap (λ (a : Address). mark_at (written memory a left at) bit) here ∙ mark_here x left
              ∙ keeps bit (bit_low x) apart ∙ ap (λ (a : Address). mark_at (memory a) bit) here
          | inr other_place ↦ ap (λ (v : ℕ). mark_at v bit) (written_apart memory (Marks t w) at left other_place)
        ]

    -- The same of a row's bit.
    pub other_mark : (y x left : ℕ) → y ≢ x
        → ((i : ℕ) → i < marks_of_word → i ≢ mark_bit layout y
        → mark_at left i ≡ mark_at (memory (mark_place layout y)) i)
        → mark_of layout (written memory (mark_place layout y) left) x
        ≡ mark_of layout memory x
    other_mark y x left other =
        mark_apart (block_of layout y) (mark_word layout y) (mark_bit layout y) x left
        (λ e. other (sym (marks_row y) ∙ e))

    -- A load of a mark word keeps all marks.
    pub loaded_marks : (t w x : ℕ)
        → mark_of layout (written memory (Marks t w) (memory (Marks t w))) x ≡ mark_of layout memory x
    loaded_marks t w x =
        ap (λ (v : ℕ). mark_at v (mark_bit layout x)) (written_load memory (Marks t w) (mark_place layout x))

    -- Taking a row's mark keeps that of every other row.
    pub taken_elsewhere : (y x : ℕ) → y ≢ x
        → mark_of layout (written memory (mark_place layout y)
        (unmarked_word (memory (mark_place layout y)) (mark_bit layout y))) x
        ≡ mark_of layout memory x
    taken_elsewhere y x other =
        let word = memory (mark_place layout y) in
        other_mark y x (unmarked_word word (mark_bit layout y)) other
        (λ i low apart. taken_apart word (mark_bit layout y) i apart)

    -- Setting a row's mark keeps that of every other row.
    pub set_elsewhere : (y x : ℕ) → y ≢ x
        → mark_of layout (written memory (mark_place layout y)
        (marked_word (memory (mark_place layout y)) (mark_bit layout y))) x
        ≡ mark_of layout memory x
    set_elsewhere y x other =
        let word = memory (mark_place layout y) in
        other_mark y x (marked_word word (mark_bit layout y)) other
        (λ i low apart. set_apart word (mark_bit layout y) i apart)

    -- A row's mark is clear once it was taken, and set once it was set.
    pub taken_mark : (x : ℕ)
        → mark_of layout (written memory (mark_place layout x)
        (unmarked_word (memory (mark_place layout x)) (mark_bit layout x))) x
        ≡ 0
    taken_mark x =
        let word = memory (mark_place layout x) in
        mark_here x (unmarked_word word (mark_bit layout x)) ∙ taken_here word (mark_bit layout x)

    pub set_mark : (x : ℕ)
        → mark_of layout (written memory (mark_place layout x)
        (marked_word (memory (mark_place layout x)) (mark_bit layout x))) x
        ≡ 1
    set_mark x =
        let word = memory (mark_place layout x) in
        mark_here x (marked_word word (mark_bit layout x)) ∙ set_here word (mark_bit layout x)
