-- Names, and numbers that are read digit by digit.
use Rattle.std.proofs.Common.{◌≡◌, ℕ, ◌+◌, ◌-◌, ◌*◌, ◌<◌, ◌≤◌, true, cond, leb, ◌&&◌, List, [], ◌∷◌, length, get_or}
use Rattle.std.proofs.Common.{take, drop, Result, Ok, Err, refl, sym, ap, ◌∙◌, arith}
use Rattle.std.specs.Int.{IsInRange}
use Rattle.std.specs.List.{list_all}
use Rattle.std.specs.Char.{is_ascii_digit}
use Rattle.std.specs.Str.Parse.{digits_value}
use Rattle.std.proofs.lemmas.Bool.{and_right, lt-leb}
use Rattle.std.proofs.lemmas.List.{take_more, take_rest}
use Rattle.std.proofs.lemmas.List.Recursion.{and_push}
use Rattle.std.proofs.lemmas.Int.Digits.{digits_value_more}
use Rattle.std.proofs.lemmas.Str.{digit_value_digit}
use Rattle.std.proofs.lemmas.Str.Parse.{digits_value-take-le}
use Rattle.brc_lang.specs.declared.fault.FaultCode.{FaultCode}
use Rattle.brc_lang.specs.declared.fault.FaultCode.TheVariants.{Number}
use Rattle.brc_lang.specs.Grammar.{is_name, is_letter, is_name_byte}
use Rattle.brc_lang.specs.Limits.{name_rest_limit}

pub digits_next : (ds : List ℕ) (i value digit : ℕ) → i < length ds → value ≡ digits_value 10 (take i ds)
    → IsInRange 48 57 (get_or ds i 0) → digit ≡ get_or ds i 0 - 48
    → value * 10 + digit ≡ digits_value 10 (take (i + 1) ds)
digits_next ds i value digit lt e range d =
    let more = digits_value_more 10 ds i lt in
    let one = digit_value_digit (get_or ds i 0) range in
    omega arith

pub digits_all : (ds : List ℕ) (i : ℕ) → i < length ds → list_all is_ascii_digit (take i ds) ≡ true
    → is_ascii_digit (get_or ds i 0) ≡ true → list_all is_ascii_digit (take (i + 1) ds) ≡ true
digits_all ds i lt before here =
    ap (list_all is_ascii_digit) (take_more ds i 0 lt)
    ∙ and_push (list_all is_ascii_digit) is_ascii_digit refl (λ _ _. refl) (take i ds) (get_or ds i 0)
    ∙ rw (before, here) refl

-- a number only grows by further digits
pub too_high : (ds : List ℕ) (i high : ℕ) → high < digits_value 10 (take i ds)
    → ◌≡◌ {A = Result ℕ FaultCode} (Err Number)
    (cond (list_all is_ascii_digit ds && leb (digits_value 10 ds) high) (Ok (digits_value 10 ds)) (Err Number))
too_high ds i high lt =
    let le = digits_value-take-le 10 ds i (omega arith) in
    rw (and_right (list_all is_ascii_digit ds) (leb (digits_value 10 ds) high) (lt-leb _ _ (omega arith))) refl

name_by_cases : (word : List ℕ) → 1 ≤ length word
    → is_name word ≡ (is_letter (get_or word 0 0) && list_all is_name_byte (drop 1 word)
    && leb (length (drop 1 word)) name_rest_limit)
name_by_cases [] h = absurd (omega arith)
name_by_cases (c ∷ cs) h = refl

pub name_parts : (word : List ℕ) → 1 ≤ length word
    → (is_letter (get_or word 0 0) && list_all is_name_byte (take (length word - 1) (drop 1 word))
    && leb (length (take (length word - 1) (drop 1 word))) name_rest_limit) ≡ is_name word
name_parts word h = rw (take_rest word 1) (sym (name_by_cases word h))
