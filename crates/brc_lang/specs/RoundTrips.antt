-- Lines, words and numbers are found again as they were spelled.
use Rattle.std.specs.Prelude.{◌≡◌, ℕ, ◌<◌, ◌≤◌, ◌^◌, Bool, true, false, ◌==◌, List, [], ◌∷◌, ◌++◌, Ok}
use Rattle.std.specs.List.{AllByRecursion, list_any, slice_split, before_first, after_first}
use Rattle.std.specs.Fmt.{decimal}
use Rattle.brc_lang.specs.Grammar.{line, spaced, is_name}
use Rattle.brc_lang.specs.InstructionWords.{words, number_in}
use Rattle.brc_lang.specs.Fault.{is_line_feed, line_count}

abbrev pub is_space : ℕ → Bool
is_space c = c == 32

-- the word has neither a space nor a line feed
abbrev pub IsPlain : List ℕ → Type 0
IsPlain word = (list_any is_space word ≡ false) × (list_any is_line_feed word ≡ false)

-- a line without a line feed of its own is the first line of each text that begins with it
pub record LinesRoundTrip : Type 0 where
  pub ended : (text rest : List ℕ) → list_any is_line_feed (line text ++ rest) ≡ true
  pub first : (text rest : List ℕ) → list_any is_line_feed text ≡ false
      → before_first is_line_feed (line text ++ rest) ≡ text
  pub parts : (text rest : List ℕ) → list_any is_line_feed text ≡ false
      → slice_split is_line_feed (line text ++ rest) ≡ text ∷ slice_split is_line_feed rest
  pub counted : (text : List ℕ) → list_any is_line_feed text ≡ false → line_count (line text) ≡ 1
  pub cut : (text : List ℕ) → list_any is_line_feed text ≡ true
      → slice_split is_line_feed text
      ≡ before_first is_line_feed text ∷ slice_split is_line_feed (after_first is_line_feed text)
  pub uncut : (text : List ℕ) → list_any is_line_feed text ≡ false → slice_split is_line_feed text ≡ text ∷ []
  -- a line that has its line feed is the first line of each longer text
  pub kept : (text more : List ℕ) → list_any is_line_feed text ≡ true
      → (list_any is_line_feed (text ++ more) ≡ true)
      × (before_first is_line_feed (text ++ more) ≡ before_first is_line_feed text)

-- one word or more
pub record WordsRoundTrip : Type 0 where
  pub joined : (text : List ℕ) (ws : List (List ℕ)) → words text ≡ ws → text ≡ spaced ws
  pub found : (w : List ℕ) (ws : List (List ℕ)) → AllByRecursion IsPlain (w ∷ ws)
      → words (spaced (w ∷ ws)) ≡ w ∷ ws
  pub plain : (w : List ℕ) (ws : List (List ℕ)) → AllByRecursion IsPlain (w ∷ ws)
      → list_any is_line_feed (spaced (w ∷ ws)) ≡ false

pub record NumbersRoundTrip : Type 0 where
  pub spelled : (high : ℕ) (word : List ℕ) (n : ℕ) → high < 2 ^ 64 → number_in high word ≡ Ok n
      → (word ≡ decimal n) × (n ≤ high)
  pub found : (high n : ℕ) → n ≤ high → n < 2 ^ 64 → number_in high (decimal n) ≡ Ok n
  pub plain : (n : ℕ) → n < 2 ^ 64 → IsPlain (decimal n)

pub record TextsRoundTrip : Type 0 where
  pub line_laws : LinesRoundTrip
  pub word_laws : WordsRoundTrip
  pub number_laws : NumbersRoundTrip
  pub names_plain : (name : List ℕ) → is_name name ≡ true → IsPlain name
