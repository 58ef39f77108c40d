-- The first word of a text, and the words after it.
use Rattle.std.proofs.Common.{◌≡◌, ℕ, ◌+◌, ◌-◌, ◌<◌, ◌≤◌, Bool, false, ltb, List, [], ◌∷◌, length, take, drop}
use Rattle.std.proofs.Common.{Some, None, refl, sym, ap, subst, ◌∙◌, arith, inl, inr}
use Rattle.std.specs.List.{position, position_or_len, before_first, after_first, filter, slice_split}
use Rattle.std.proofs.lemmas.Bool.{cases_Bool, ltb-true, ltb-false}
use Rattle.std.proofs.lemmas.List.{drop-drop, length-drop, length-take-le, take_rest}
use Rattle.std.proofs.lemmas.List.Sums.{fails_before_first}
use Rattle.std.proofs.lemmas.List.Splits.{slice_split_none, slice_split_first}
use Rattle.brc_c_table.specs.Words.{is_blank, is_written, is_written_byte, words}

-- ---- what a search found

pub found_at : (p : ℕ → Bool) (xs : List ℕ) (i : ℕ) → position p xs ≡ Some i
    → (position_or_len p xs < length xs) × (position_or_len p xs ≡ i)
found_at p xs i e =
    elim (cases_Bool (ltb (position_or_len p xs) (length xs))) [
      | inl passes ↦
          (ltb-true _ _ passes, let s : Some (position_or_len p xs) ≡ Some i = sym (rw passes refl) ∙ e in cc)
      | inr fails ↦ let n : None ≡ Some i = sym (rw fails refl) ∙ e in absurd cc
    ]

pub found_none : (p : ℕ → Bool) (xs : List ℕ) → position p xs ≡ None → length xs ≤ position_or_len p xs
found_none p xs e =
    elim (cases_Bool (ltb (position_or_len p xs) (length xs))) [
      | inl passes ↦ let n : Some (position_or_len p xs) ≡ None = sym (rw passes refl) ∙ e in absurd cc
      | inr fails ↦ ltb-false _ _ fails
    ]

-- ---- blanks

drop_one_more : (x : ℕ) (xs : List ℕ) (n : ℕ) → drop n xs ≡ drop (1 + n) (x ∷ xs)
drop_one_more x xs n = drop-drop n 1 (x ∷ xs)

-- the words are those after the blanks at the beginning
behind_blanks : (xs : List ℕ) → words xs ≡ words (drop (position_or_len is_written_byte xs) xs)
behind_blanks [] = refl
behind_blanks (x ∷ xs) =
    elim (cases_Bool (is_blank x)) [
      | inl blank ↦ rw blank (
          behind_blanks xs
          ∙ ap (λ (ys : List ℕ). words ys) (drop_one_more x xs (position_or_len is_written_byte xs))
          )
      | inr written ↦
          let none : position_or_len is_written_byte (x ∷ xs) ≡ 0 = rw written refl in
          ap (λ (n : ℕ). words (drop n (x ∷ xs))) (sym none)
    ]

abbrev Begins : List ℕ → Type 0
Begins [] = ⊥
Begins (c ∷ cs) = is_blank c ≡ false

begins : (xs : List ℕ) → position_or_len is_written_byte xs < length xs
    → Begins (drop (position_or_len is_written_byte xs) xs)
begins [] lt = absurd (omega (arith, lt))
begins (x ∷ xs) lt =
    elim (cases_Bool (is_blank x)) [
      | inl blank ↦
          let next : position_or_len is_written_byte (x ∷ xs) ≡ 1 + position_or_len is_written_byte xs =
          rw blank refl in
          rw blank (
          subst Begins (drop_one_more x xs (position_or_len is_written_byte xs)) (begins xs (omega (arith, lt, next)))
          )
      | inr written ↦ rw written written
    ]

abbrev pub from : List ℕ → ℕ → List ℕ
from xs i = take (length xs - i) (drop i xs)

behind : (xs : List ℕ) (s : ℕ) → position is_written_byte xs ≡ Some s → words xs ≡ words (from xs s)
behind xs s e =
    behind_blanks xs
    ∙ ap words (ap (λ (n : ℕ). drop n xs) (found_at is_written_byte xs s e).1 ∙ sym (take_rest xs s))

begins_from : (xs : List ℕ) (s : ℕ) → position is_written_byte xs ≡ Some s → Begins (from xs s)
begins_from xs s e =
    let f = found_at is_written_byte xs s e in
    subst Begins (ap (λ (n : ℕ). drop n xs) f.1 ∙ sym (take_rest xs s)) (begins xs f.0)

-- ---- words

keep : (a : List ℕ) (more : List (List ℕ)) → 0 < length a
    → filter is_written (a ∷ more) ≡ a ∷ filter is_written more
keep [] more some = absurd (omega (arith, some))
keep (x ∷ xs) more some = refl

nothing : (ys : List ℕ) → length ys ≡ 0 → words ys ≡ []
nothing [] e = refl
nothing (y ∷ ys) e = absurd (omega (arith, e))

first_word : (w : List ℕ) (e : ℕ) → Begins w → position is_blank w ≡ Some e
    → words w ≡ take e w ∷ words (from w (e + 1))
first_word [] e b q = absurd b
first_word (c ∷ cs) e b q =
    let w : List ℕ = c ∷ cs in
    let f = found_at is_blank w e q in
    let some : position_or_len is_blank w ≡ 1 + position_or_len is_blank cs = rw b refl in
    let long : length (take e w) ≡ e = length-take-le e w (omega (arith, f.0, f.1)) in
    let front : before_first is_blank w ≡ take e w = ap (λ (n : ℕ). take n w) f.1 in
    let after : after_first is_blank w ≡ from w (e + 1) =
    ap (λ (n : ℕ). drop (n + 1) w) f.1 ∙ sym (take_rest w (e + 1)) in
    ap (λ (ws : List (List ℕ)). filter is_written ws) (slice_split_first is_blank w 0 f.0)
    ∙ rw (front, after) (keep (take e w) (slice_split is_blank (from w (e + 1))) (omega (arith, long, some, f.1)))

last_word : (w : List ℕ) → Begins w → position is_blank w ≡ None → words w ≡ w ∷ []
last_word [] b q = absurd b
last_word (c ∷ cs) b q =
    let long : length (c ∷ cs) ≤ position_or_len is_blank (c ∷ cs) = found_none is_blank (c ∷ cs) q in
    ap (λ (ws : List (List ℕ)). filter is_written ws) (slice_split_none is_blank (c ∷ cs)
    (λ k d lt. fails_before_first is_blank (c ∷ cs) k d (omega (arith, lt, long))))

pub no_words : (xs : List ℕ) → position is_written_byte xs ≡ None → words xs ≡ []
no_words xs q =
    let long = found_none is_written_byte xs q in
    behind_blanks xs
    ∙ nothing (drop (position_or_len is_written_byte xs) xs)
    (length-drop (position_or_len is_written_byte xs) xs ∙ omega (arith, long))

pub first_found : (xs : List ℕ) (s e : ℕ) → position is_written_byte xs ≡ Some s
    → position is_blank (from xs s) ≡ Some e
    → words xs ≡ take e (from xs s) ∷ words (from (from xs s) (e + 1))
first_found xs s e p q = behind xs s p ∙ first_word (from xs s) e (begins_from xs s p) q

pub last_found : (xs : List ℕ) (s : ℕ) → position is_written_byte xs ≡ Some s → position is_blank (from xs s) ≡ None
    → words xs ≡ from xs s ∷ []
last_found xs s p q = behind xs s p ∙ last_word (from xs s) (begins_from xs s p) q
