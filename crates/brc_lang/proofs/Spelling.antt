-- The one spelling of a number, of an index, of a path, of a variable, of a target and of a name.
use Rattle.std.proofs.Common.{◌≡◌, ℕ, zero, suc, ◌^◌, ◌<◌, ◌≤◌, Bool, true, false, cond, leb, eqb, not, ◌&&◌, ◌||◌}
use Rattle.std.proofs.Common.{List, [], ◌∷◌, length, get_or, Result, Ok, Err, refl, sym, ap, ◌∙◌, arith, inl, inr}
use Rattle.std.specs.List.{list_all, list_any}
use Rattle.std.specs.Char.{is_ascii_digit}
use Rattle.std.specs.Fmt.{decimal}
use Rattle.std.specs.Str.Parse.{digits_value}
use Rattle.std.proofs.lemmas.Bool.{and_parts, and_from, or_cases, cases_Bool, leb-true, le-leb, eqb-true, eqb-false}
use Rattle.std.proofs.lemmas.Bool.{ne_eqb, not-true, cases_eq}
use Rattle.std.proofs.lemmas.Bool.Decides.{nat_tests}
use Rattle.std.proofs.lemmas.Fmt.{decimal-digits_value, digits_decimal, digits_value-decimal, decimal_nonempty}
use Rattle.std.proofs.lemmas.Fmt.{decimal_digit, first_decimal}
use Rattle.std.proofs.lemmas.Str.Parse.{IsDigitsTest, IsNumeralModel, numerals_by_value}
use Rattle.brc_lang.specs.declared.fault.FaultCode.{FaultCode}
use Rattle.brc_lang.specs.declared.fault.FaultCode.TheVariants.{UnknownWord, Number}
use Rattle.brc_lang.specs.Grammar.{variable, target, is_name, is_letter, is_name_byte}
use Rattle.brc_lang.specs.InstructionWords.{is_numeral, number_in, number_between, variable_in, target_in, ◌>>=◌}
use Rattle.brc_lang.specs.Fault.{is_line_feed}
use Rattle.brc_lang.specs.RoundTrips.{is_space, IsPlain}
use Rattle.brc_lang.specs.Limits.{variable_count, last_variable, target_count, last_target, index_count, last_index}
use Rattle.brc_lang.specs.Limits.{path_count, last_path, name_rest_limit}
use Rattle.brc_lang.proofs.Words.{lacks_from_all}

-- ---- numbers

abbrev AreDigits : List ℕ → Type 0
AreDigits ds = list_all is_ascii_digit ds ≡ true

tells_digits : IsDigitsTest AreDigits
tells_digits = record {
  empty = refl;
  parts =
      λ c cs h. let q =
      and_parts (is_ascii_digit c) (list_all is_ascii_digit cs) h in let r =
      and_parts (leb 48 c) (leb c 57) q.0 in ((leb-true 48 c r.0, leb-true c 57 r.1), q.1);
  more =
      λ c cs range h. and_from (is_ascii_digit c) (list_all is_ascii_digit cs)
      (and_from (leb 48 c) (leb c 57) (le-leb 48 c range.0) (le-leb c 57 range.1)) h;
}

own : IsNumeralModel AreDigits (digits_value 10)
own = numerals_by_value AreDigits tells_digits

-- a test that led to `Ok`
pub guarded : {A : Type 0} (b : Bool) (d : FaultCode) (x y : A) → cond b (Ok x) (Err d) ≡ Ok y → (b ≡ true) × (x ≡ y)
guarded true d x y e = (refl, cc)
guarded false d x y e = absurd cc

-- no leading zero, `0` aside
numeral_parts : (ds : List ℕ) → is_numeral ds ≡ true
    → AreDigits ds × (0 < length ds) × (get_or ds 0 0 ≡ 48 → length ds ≡ 1)
numeral_parts [] e = absurd cc
numeral_parts (c ∷ cs) e =
    let h = and_parts (list_all is_ascii_digit (c ∷ cs)) (not (eqb c 48) || eqb (length cs) 0) e in (
      h.0,
      omega arith,
      λ zero_first.
          elim (or_cases (not (eqb c 48)) (eqb (length cs) 0) h.1) [
            | inl other ↦ absurd (eqb-false c 48 (not-true _ other) zero_first)
            | inr alone ↦ ap suc (eqb-true (length cs) 0 alone)
          ],
    )

pub number_spelled : (high : ℕ) (word : List ℕ) (n : ℕ) → high < 2 ^ 64 → number_in high word ≡ Ok n
    → (word ≡ decimal n) × (n ≤ high)
number_spelled high word n small e =
    let g = guarded (is_numeral word && leb (digits_value 10 word) high) Number (digits_value 10 word) n e in
    let h = and_parts (is_numeral word) (leb (digits_value 10 word) high) g.0 in
    let parts = numeral_parts word h.0 in
    let le : digits_value 10 word ≤ high = leb-true _ _ h.1 in
    (sym (decimal-digits_value own word parts.0 parts.1 parts.2 (omega arith)) ∙ ap decimal g.1, omega (arith, g.1))

numeral_from : (ds : List ℕ) → AreDigits ds → 0 < length ds → (get_or ds 0 0 ≡ 48 → length ds ≡ 1)
    → is_numeral ds ≡ true
numeral_from [] digits some alone = absurd (omega arith)
numeral_from (c ∷ cs) digits some alone =
    elim (cases_eq c 48) [
      | inl same ↦ let none : length cs ≡ 0 = omega (arith, alone same) in rw (digits, none) (grind (arith, nat_tests))
      | inr other ↦ rw (digits, ne_eqb c 48 other) refl
    ]

decimal_first : (n : ℕ) → n < 2 ^ 64 → get_or (decimal n) 0 0 ≡ 48 → length (decimal n) ≡ 1
decimal_first zero small e = ap length (decimal_digit 0 (omega arith))
decimal_first (suc n) small e = absurd (omega (arith, first_decimal (suc n) (omega arith) small))

decimal_digits : (n : ℕ) → n < 2 ^ 64 → list_all is_ascii_digit (decimal n) ≡ true
decimal_digits n small = digits_decimal own n small

pub number_again : (high n : ℕ) → n ≤ high → n < 2 ^ 64 → number_in high (decimal n) ≡ Ok n
number_again high n le small =
    let numeral =
    numeral_from (decimal n) (decimal_digits n small) (decimal_nonempty n small) (decimal_first n small) in
    rw (numeral, digits_value-decimal own n small, le-leb n high le) refl

-- the value of a step that did not fail
pub bind_ok : {A B : Type 0} (r : Result A FaultCode) (f : A → Result B FaultCode) (y : B) → (r >>= f) ≡ Ok y
    → (x : A) × (r ≡ Ok x) × (f x ≡ Ok y)
bind_ok (Ok x) f y e = (x, refl, e)
bind_ok (Err d) f y e = absurd cc

pub ok_is : {A : Type 0} (x y : A) → ◌≡◌ {A = Result A FaultCode} (Ok x) (Ok y) → x ≡ y
ok_is x y e = cc

pub between_spelled : (low high : ℕ) (word : List ℕ) (n : ℕ) → high < 2 ^ 64 → number_between low high word ≡ Ok n
    → (word ≡ decimal n) × (low ≤ n) × (n ≤ high)
between_spelled low high word n small e =
    let b = bind_ok (number_in high word) (λ k. cond (leb low k) (Ok k) (Err Number)) n e in
    let g = guarded (leb low b.0) Number b.0 n b.2 in
    let s = number_spelled high word b.0 small b.1 in
    (s.0 ∙ ap decimal g.1, omega (arith, leb-true low b.0 g.0, g.1), omega (arith, s.1, g.1))

pub between_again : (low high n : ℕ) → low ≤ n → n ≤ high → high < 2 ^ 64 → number_between low high (decimal n) ≡ Ok n
between_again low high n from to small = rw (number_again high n to (omega arith), le-leb low n from) refl

-- ---- the index of an item

pub index_spelled : (word : List ℕ) (n : ℕ) → number_in last_index word ≡ Ok n → (word ≡ decimal n) × (n < index_count)
index_spelled word n e = let s = number_spelled last_index word n (omega arith) e in (s.0, omega (arith, s.1))

pub index_again : (n : ℕ) → n < index_count → number_in last_index (decimal n) ≡ Ok n
index_again n lt = number_again last_index n (omega arith) (omega arith)

-- ---- the number of a path

pub path_spelled : (word : List ℕ) (n : ℕ) → number_in last_path word ≡ Ok n → (word ≡ decimal n) × (n < path_count)
path_spelled word n e = let s = number_spelled last_path word n (omega arith) e in (s.0, omega (arith, s.1))

pub path_again : (n : ℕ) → n < path_count → number_in last_path (decimal n) ≡ Ok n
path_again n lt = number_again last_path n (omega arith) (omega arith)

-- ---- variables and targets: a mark, and a number

marked_spelled : (mark high c : ℕ) (cs : List ℕ) (n : ℕ) → high < 2 ^ 64
    → cond (eqb c mark) (number_in high cs) (Err UnknownWord) ≡ Ok n → ((c ∷ cs) ≡ mark ∷ decimal n) × (n ≤ high)
marked_spelled mark high c cs n small e =
    elim (cases_Bool (eqb c mark)) [
      | inl same ↦
          let spelled = number_spelled high cs n small (rw same at e) in
          (ap (λ (x : ℕ). x ∷ cs) (eqb-true c mark same) ∙ ap (λ (x : List ℕ). mark ∷ x) spelled.0, spelled.1)
      | inr other ↦ let never : ◌≡◌ {A = Result ℕ FaultCode} (Err UnknownWord) (Ok n) = rw other at e in absurd cc
    ]

pub variable_spelled : (word : List ℕ) (n : ℕ) → variable_in word ≡ Ok n → (word ≡ variable n) × (n < variable_count)
variable_spelled [] n e = absurd cc
variable_spelled (c ∷ cs) n e =
    let s = marked_spelled 118 last_variable c cs n (omega arith) e in
    (s.0, omega (arith, s.1))

pub variable_again : (n : ℕ) → n < variable_count → variable_in (variable n) ≡ Ok n
variable_again n lt = number_again last_variable n (omega arith) (omega arith)

pub target_spelled : (word : List ℕ) (n : ℕ) → target_in word ≡ Ok n → (word ≡ target n) × (n < target_count)
target_spelled [] n e = absurd cc
target_spelled (c ∷ cs) n e =
    let s = marked_spelled 64 last_target c cs n (omega arith) e in
    (s.0, omega (arith, s.1))

pub target_again : (n : ℕ) → n < target_count → target_in (target n) ≡ Ok n
target_again n lt = number_again last_target n (omega arith) (omega arith)

-- ---- what these lack

digit_lacks : (q : ℕ → Bool) → ((c : ℕ) → is_ascii_digit c ≡ true → q c ≡ false) → (n : ℕ) → n < 2 ^ 64
    → list_any q (decimal n) ≡ false
digit_lacks q apart n small = lacks_from_all is_ascii_digit q apart (decimal n) (decimal_digits n small)

other_than : (d c : ℕ) → d < 48 → is_ascii_digit c ≡ true → eqb c d ≡ false
other_than d c lt e = let r = and_parts (leb 48 c) (leb c 57) e in ne_eqb c d (λ same. omega (arith, leb-true 48 c r.0))

pub decimal_no_space : (n : ℕ) → n < 2 ^ 64 → list_any is_space (decimal n) ≡ false
decimal_no_space n small = digit_lacks is_space (λ c h. other_than 32 c (omega arith) h) n small

pub decimal_plain : (n : ℕ) → n < 2 ^ 64 → list_any is_line_feed (decimal n) ≡ false
decimal_plain n small = digit_lacks is_line_feed (λ c h. other_than 10 c (omega arith) h) n small

pub number_plain : (n : ℕ) → n < 2 ^ 64 → IsPlain (decimal n)
number_plain n small = (decimal_no_space n small, decimal_plain n small)

pub variable_plain : (n : ℕ) → n < variable_count → IsPlain (variable n)
variable_plain n lt = number_plain n (omega arith)

pub target_plain : (n : ℕ) → n < target_count → IsPlain (target n)
target_plain n lt = number_plain n (omega arith)

pub index_plain : (n : ℕ) → n < index_count → IsPlain (decimal n)
index_plain n lt = number_plain n (omega arith)

pub path_plain : (n : ℕ) → n < path_count → IsPlain (decimal n)
path_plain n lt = number_plain n (omega arith)

letter_from : (c : ℕ) → is_letter c ≡ true → 97 ≤ c
letter_from c e = leb-true 97 c (and_parts (leb 97 c) (leb c 122) e).0

name_byte_from : (c : ℕ) → is_name_byte c ≡ true → 48 ≤ c
name_byte_from c e =
    elim (or_cases (is_letter c || (leb 48 c && leb c 57)) (eqb c 95) e) [
      | inl most ↦ elim (or_cases (is_letter c) (leb 48 c && leb c 57) most) [
        | inl letter ↦ omega (arith, letter_from c letter)
        | inr digit ↦ leb-true 48 c (and_parts (leb 48 c) (leb c 57) digit).0
      ]
      | inr underscore ↦ omega (arith, eqb-true c 95 underscore)
    ]

name_lacks : (d : ℕ) → d < 48 → (name : List ℕ) → is_name name ≡ true → list_any (λ c. eqb c d) name ≡ false
name_lacks d lt [] e = refl
name_lacks d lt (c ∷ cs) e =
    let h = and_parts (is_letter c && list_all is_name_byte cs) (leb (length cs) name_rest_limit) e in
    let k = and_parts (is_letter c) (list_all is_name_byte cs) h.0 in
    rw (ne_eqb c d (λ same. omega (arith, letter_from c k.0)))
    (lacks_from_all is_name_byte (λ c. eqb c d)
    (λ b byte. ne_eqb b d (λ same. omega (arith, name_byte_from b byte))) cs k.1)

pub name_no_space : (name : List ℕ) → is_name name ≡ true → list_any is_space name ≡ false
name_no_space name e = name_lacks 32 (omega arith) name e

pub name_plain : (name : List ℕ) → is_name name ≡ true → list_any is_line_feed name ≡ false
name_plain name e = name_lacks 10 (omega arith) name e
