-- A line is its words with single spaces between them.
use Rattle.std.proofs.Common.{◌≡◌, ℕ, Bool, true, false, List, [], ◌∷◌, ◌++◌, length, refl, sym, ap, ◌∙◌, arith}
use Rattle.std.specs.List.{list_all, list_any, AllByRecursion}
use Rattle.std.proofs.lemmas.Bool.{and_parts, or_from}
use Rattle.std.proofs.lemmas.List.Splits.{join_with_byte-slice_split}
use Rattle.brc_lang.specs.Grammar.{spaced}
use Rattle.brc_lang.specs.InstructionWords.{words}
use Rattle.brc_lang.specs.Fault.{is_line_feed}
use Rattle.brc_lang.specs.RoundTrips.{is_space, IsPlain}
use Rattle.brc_lang.proofs.Cuts.{lacks_append, one_part, first_part, parts_some}

-- ---- from words to a line

pub joined : (text : List ℕ) (ws : List (List ℕ)) → words text ≡ ws → text ≡ spaced ws
joined text ws e = sym (join_with_byte-slice_split 32 text) ∙ ap spaced e

-- ---- from a line to words

pub one_word : (a : List ℕ) → list_any is_space a ≡ false → words a ≡ a ∷ []
one_word a e = one_part is_space a e

pub first_word : (a rest : List ℕ) → list_any is_space a ≡ false → words (a ++ 32 ∷ rest) ≡ a ∷ words rest
first_word a rest e = first_part is_space a 32 rest e refl

-- ---- how many words there are

pub some_word : (rest : List ℕ) → (first : List ℕ) × (others : List (List ℕ)) × (words rest ≡ first ∷ others)
some_word rest = parts_some is_space rest

pub more_than_one : (line rest first : List ℕ) → words line ≡ first ∷ words rest → length (words line) ≡ 1 → ⊥
more_than_one line rest first e one =
    let q = some_word rest in
    let all : words line ≡ first ∷ q.0 ∷ q.1 = e ∙ ap (λ (ws : List (List ℕ)). first ∷ ws) q.2 in
    let two : length (first ∷ q.0 ∷ q.1) ≡ 1 = sym (ap length all) ∙ one in
    absurd (omega arith)

-- ---- plain words

-- if each element passes one test, none passes another test that excludes it
pub lacks_from_all : (p q : ℕ → Bool) → ((c : ℕ) → p c ≡ true → q c ≡ false) → (xs : List ℕ) → list_all p xs ≡ true
    → list_any q xs ≡ false
lacks_from_all p q apart [] e = refl
lacks_from_all p q apart (x ∷ xs) e =
    let h = and_parts (p x) (list_all p xs) e in
    or_from (q x) (list_any q xs) (apart x h.0) (lacks_from_all p q apart xs h.1)

-- one word or more
abbrev pub ArePlain : List (List ℕ) → Type 0
ArePlain [] = ⊥
ArePlain (w ∷ ws) = AllByRecursion IsPlain (w ∷ ws)

pub spaced_words : (ws : List (List ℕ)) → ArePlain ws → words (spaced ws) ≡ ws
spaced_words [] plain = absurd plain
spaced_words (w ∷ []) plain = one_word w plain.0.0
spaced_words (w ∷ x ∷ ws) plain =
    first_word w (spaced (x ∷ ws)) plain.0.0 ∙ ap (λ (v : List (List ℕ)). w ∷ v) (spaced_words (x ∷ ws) plain.1)

pub spaced_plain : (ws : List (List ℕ)) → ArePlain ws → list_any is_line_feed (spaced ws) ≡ false
spaced_plain [] plain = absurd plain
spaced_plain (w ∷ []) plain = plain.0.1
spaced_plain (w ∷ x ∷ ws) plain =
    lacks_append is_line_feed w (32 ∷ spaced (x ∷ ws)) plain.0.1 (spaced_plain (x ∷ ws) plain.1)
