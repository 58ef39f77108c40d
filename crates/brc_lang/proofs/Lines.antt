-- The first line of a text and the first word of a line, found by a search for the byte after them.
use Rattle.std.proofs.Common.{◌≡◌, ℕ, ◌+◌, ◌-◌, ◌<◌, Bool, true, false, eqb, inl, inr, List, [], ◌∷◌, ◌++◌, length}
use Rattle.std.proofs.Common.{get_or, take, drop, Some, None, refl, sym, ap, ◌∙◌, append_assoc}
use Rattle.std.specs.Prelude.{position}
use Rattle.std.specs.List.{list_any, slice_split, position_or_len, before_first, after_first}
use Rattle.std.proofs.lemmas.Bool.{eqb-true, or_parts, cases_lt, both_ways}
use Rattle.std.proofs.lemmas.List.{take_rest}
use Rattle.std.proofs.lemmas.List.Sums.{passes_at_first, split_at_first, sum_by-append, sum_by-cons}
use Rattle.std.proofs.lemmas.List.Splits.{slice_split_first}
use Rattle.brc_lang.specs.Grammar.{line}
use Rattle.brc_lang.specs.InstructionWords.{words}
use Rattle.brc_lang.specs.Fault.{is_line_feed, line_count}
use Rattle.brc_lang.specs.Progress.{IsFirstLineOf}
use Rattle.brc_lang.specs.RoundTrips.{is_space}
use Rattle.brc_lang.proofs.Cuts.{found_at, found_none, lacks_all, lacks_before, one_part, has_behind, cut_before}

-- the bytes before the byte, the byte, and those after it
cut_parts : (p : ℕ → Bool) (xs : List ℕ) (i : ℕ) → position p xs ≡ Some i
    → (y : ℕ) × (p y ≡ true) × (xs ≡ take i xs ++ (y ∷ take (length xs - (i + 1)) (drop (i + 1) xs)))
    × (take i xs ≡ before_first p xs) × (take (length xs - (i + 1)) (drop (i + 1) xs) ≡ after_first p xs)
cut_parts p xs i e =
    let h = found_at p xs i e in
    let front : take i xs ≡ before_first p xs = ap (λ (n : ℕ). take n xs) (sym h.1) in
    let rest : take (length xs - (i + 1)) (drop (i + 1) xs) ≡ after_first p xs =
    take_rest xs (i + 1) ∙ ap (λ (n : ℕ). drop (n + 1) xs) (sym h.1) in (
      get_or xs (position_or_len p xs) 0,
      passes_at_first p xs 0 h.0,
      split_at_first p xs 0 h.0 ∙ sym (rw (front, rest) refl),
      front,
      rest,
    )

pub line_found : (text : List ℕ) (i : ℕ) → position is_line_feed text ≡ Some i
    → IsFirstLineOf text (take i text) (take (length text - (i + 1)) (drop (i + 1) text))
line_found text i e =
    let q = cut_parts is_line_feed text i e in
    let feed : q.0 ≡ 10 = eqb-true q.0 10 q.1 in
    let behind = take (length text - (i + 1)) (drop (i + 1) text) in
    record {
      parts =
          q.2 ∙ ap (λ (y : ℕ). take i text ++ (y ∷ behind)) feed ∙ sym (append_assoc (take i text) (10 ∷ []) behind);
      plain = rw q.3 (lacks_before is_line_feed text);
    }

pub line_missing : (text : List ℕ) → position is_line_feed text ≡ None → list_any is_line_feed text ≡ false
line_missing text e = lacks_all is_line_feed text (found_none is_line_feed text e)

pub word_found : (text : List ℕ) (i : ℕ) → position (λ c. eqb c 32) text ≡ Some i
    → words text ≡ take i text ∷ words (take (length text - (i + 1)) (drop (i + 1) text))
word_found text i e =
    let q = cut_parts is_space text i e in
    slice_split_first is_space text 0 (found_at is_space text i e).0 ∙ rw (q.3, q.4) refl

pub word_last : (text : List ℕ) → position (λ c. eqb c 32) text ≡ None → words text ≡ text ∷ []
word_last text e = one_part is_space text (lacks_all is_space text (found_none is_space text e))

-- ---- a line and the text below it

pub line_at : (first rest : List ℕ) → line first ++ rest ≡ first ++ 10 ∷ rest
line_at first rest = append_assoc first (10 ∷ []) rest

pub line_any : (first rest : List ℕ) → list_any is_line_feed (line first ++ rest) ≡ true
line_any first rest = rw (line_at first rest) (has_behind is_line_feed first 10 rest refl)

pub line_before : (first rest : List ℕ) → list_any is_line_feed first ≡ false
    → before_first is_line_feed (line first ++ rest) ≡ first
line_before first rest plain = rw (line_at first rest) (cut_before is_line_feed first 10 rest plain refl)

has_line : (text : List ℕ) → list_any is_line_feed text ≡ true → position_or_len is_line_feed text < length text
has_line text e =
    elim (cases_lt (position_or_len is_line_feed text) (length text)) [
      | inl lt ↦ lt
      | inr le ↦ absurd (both_ways _ (lacks_all is_line_feed text le) e)
    ]

pub line_cut : (text : List ℕ) → list_any is_line_feed text ≡ true
    → slice_split is_line_feed text
    ≡ before_first is_line_feed text ∷ slice_split is_line_feed (after_first is_line_feed text)
line_cut text e = slice_split_first is_line_feed text 0 (has_line text e)

pub line_kept : (text more : List ℕ) → list_any is_line_feed text ≡ true
    → (list_any is_line_feed (text ++ more) ≡ true)
    × (before_first is_line_feed (text ++ more) ≡ before_first is_line_feed text)
line_kept text more e =
    let first = before_first is_line_feed text in
    let feed = get_or text (position_or_len is_line_feed text) 0 in
    let below = after_first is_line_feed text in
    let ends = passes_at_first is_line_feed text 0 (has_line text e) in
    let parts : text ++ more ≡ first ++ (feed ∷ (below ++ more)) =
    ap (λ (x : List ℕ). x ++ more) (split_at_first is_line_feed text 0 (has_line text e))
    ∙ append_assoc first (feed ∷ below) more in (
      rw parts (has_behind is_line_feed first feed (below ++ more) ends),
      rw parts (cut_before is_line_feed first feed (below ++ more) (lacks_before is_line_feed text) ends),
    )

pub line_count-append : (a b : List ℕ) → line_count (a ++ b) ≡ line_count a + line_count b
line_count-append a b = sum_by-append _ a b

no_feed : (text : List ℕ) → list_any is_line_feed text ≡ false → line_count text ≡ 0
no_feed [] e = refl
no_feed (c ∷ cs) e =
    let h = or_parts (is_line_feed c) (list_any is_line_feed cs) e in
    sum_by-cons _ c cs ∙ rw (h.0, no_feed cs h.1) refl

pub line_count_one : (text : List ℕ) → list_any is_line_feed text ≡ false → line_count (line text) ≡ 1
line_count_one text plain = line_count-append text (10 ∷ []) ∙ rw (no_feed text plain) refl
