-- Static lines, and the line that takes a static list: what is read is spelled so, and the spelling is read again.
use Rattle.std.proofs.Common.{◌≡◌, ℕ, ◌^◌, ◌<◌, ◌≤◌, true, false, ltb, leb, eqb, ◌&&◌, List, [], ◌∷◌, ◌++◌, length, map}
use Rattle.std.proofs.Common.{Bor, Option, None, Ok, Err, refl, ap, subst, ◌∙◌, arith}
use Rattle.std.specs.Prelude.{codes}
use Rattle.std.specs.Fmt.{decimal}
use Rattle.std.specs.List.{AllByRecursion, list_any}
use Rattle.std.specs.Str.{bytes_eq}
use Rattle.std.proofs.lemmas.Bool.{and_parts, ltb-true, lt-ltb, leb-true, le-leb, eqb-true}
use Rattle.std.proofs.lemmas.List.{length-map}
use Rattle.brc_lang.specs.declared.module.Function.{Function}
use Rattle.brc_lang.specs.declared.module.Instr.{Instr}
use Rattle.brc_lang.specs.declared.module.Instr.TheVariants.{Take}
use Rattle.brc_lang.specs.declared.parameter.Parameter.{Parameter}
use Rattle.brc_lang.specs.declared.version.Version.{Version}
use Rattle.brc_lang.specs.declared.version.Version.TheVariants as versions
use Rattle.brc_lang.specs.declared.fault.FaultCode.TheVariants.{UnknownWord, StaticList}
use Rattle.brc_lang.specs.Grammar.{line, spaced, variable, static_line, has_statics, IsStatic, AreStatics, IsInstruction}
use Rattle.brc_lang.specs.Grammar.{is_name, most_statics}
use Rattle.brc_lang.specs.InstructionWords.{words, number_in, variable_in, numbers_in, take_in, ◌>>=◌}
use Rattle.brc_lang.specs.Fault.{is_line_feed, is_static, static_in, heading_fault_of, line_fault_of}
use Rattle.brc_lang.specs.Limits.{value_limit, last_static, static_limit, static_number_limit}
use Rattle.brc_lang.specs.RoundTrips.{IsPlain}
use Rattle.brc_lang.proofs.Allowed.{Spelled}
use Rattle.brc_lang.proofs.Headings.{heading_words, heading_words_plain}
use Rattle.brc_lang.proofs.OperandForms.{both_same}
use Rattle.brc_lang.proofs.Parameters.{words_left}
use Rattle.brc_lang.proofs.Spelling.{bind_ok, ok_is, number_spelled, number_again, number_plain, variable_spelled}
use Rattle.brc_lang.proofs.Spelling.{variable_again, variable_plain}
use Rattle.brc_lang.proofs.Tests.{either_way, same_text}
use Rattle.brc_lang.proofs.Words.{joined, some_word, ArePlain, spaced_words, spaced_plain}

-- ---- numbers

abbrev AreNumbers : List ℕ → Type 0
AreNumbers numbers = AllByRecursion (λ n. n < 2 ^ 32) numbers

-- words that are read as numbers are their spelling
numbers_spelled : (ws : List (List ℕ)) (ns : List ℕ) → numbers_in ws ≡ Ok ns → (ws ≡ map decimal ns) × AreNumbers ns
numbers_spelled [] ns e =
    subst (λ (l : List ℕ). ([] ≡ map decimal l) × AreNumbers l) (ok_is [] ns e) (refl, tt)
numbers_spelled (w ∷ ws) ns e =
    let first = bind_ok (number_in value_limit w) _ ns e in
    let others = bind_ok (numbers_in ws) _ ns first.2 in
    let here = number_spelled value_limit w first.0 (omega arith) first.1 in
    let there = numbers_spelled ws others.0 others.1 in
    subst (λ (l : List ℕ). ((w ∷ ws) ≡ map decimal l) × AreNumbers l) (ok_is (first.0 ∷ others.0) ns others.2)
    (both_same w (decimal first.0) ws (map decimal others.0) here.0 there.0, (omega (arith, here.1), there.1))

-- the spelling of numbers is read as them
numbers_again : (ns : List ℕ) → AreNumbers ns → numbers_in (map decimal ns) ≡ Ok ns
numbers_again [] fits = refl
numbers_again (n ∷ ns) fits =
    rw (number_again value_limit n (omega (arith, fits.0)) (omega (arith, fits.0)), numbers_again ns fits.1) refl

-- none of them has a space or a line feed
numbers_plain : (ns : List ℕ) → AreNumbers ns → AllByRecursion IsPlain (map decimal ns)
numbers_plain [] fits = tt
numbers_plain (n ∷ ns) fits = (number_plain n (omega (arith, fits.0)), numbers_plain ns fits.1)

-- the first numbers of the text have been read
pub record HasNumbers (text : List ℕ) (ns : List ℕ) (rest : Option (Bor (List ℕ))) : Type 0 where
  pub so_far : numbers_in (words text) ≡ (numbers_in (words_left rest) >>= λ more. Ok (ns ++ more))

-- ---- static lines

-- behind the first word are 1 to 64 words, so their numbers are those of the line
pub few_numbers : (text w operands : List ℕ) → words text ≡ w ∷ words operands
    → length (words operands) ≤ static_number_limit → static_in (words text) ≡ numbers_in (words operands)
few_numbers text w operands e few =
    let some = some_word operands in
    let there : 0 < length (words operands) = omega (arith, ap length some.2) in
    ap static_in e
    ∙ rw (lt-ltb 0 (length (words operands)) there, le-leb (length (words operands)) static_number_limit few) refl

-- the spelling of a static line, without its line feed
abbrev pub static_words : List ℕ → List (List ℕ)
static_words numbers = codes "static" ∷ map decimal numbers

-- a static line stands above all functions, in a version that has them
pub static_place : (version : Version) (done : List Function) (ws : List (List ℕ)) → is_static version done ws ≡ true
    → (has_statics version ≡ true) × (done ≡ [])
static_place version done [] e = absurd cc
static_place version done (w ∷ ws) e =
    let q = and_parts (bytes_eq w (codes "static") && has_statics version) (eqb (length done) 0) e in
    ((and_parts (bytes_eq w (codes "static")) (has_statics version) q.0).1, none done (eqb-true (length done) 0 q.1))
  where
    none : (fs : List Function) → length fs ≡ 0 → fs ≡ []
    none [] e = refl
    none (f ∷ fs) e = absurd (omega arith)

words_read : (version : Version) (done : List Function) (ws : List (List ℕ)) (numbers : List ℕ)
    → is_static version done ws ≡ true → static_in ws ≡ Ok numbers
    → (ws ≡ static_words numbers) × IsStatic numbers
words_read version done [] numbers is e = absurd cc
words_read version done (w ∷ ws) numbers is e =
    let q = and_parts (bytes_eq w (codes "static") && has_statics version) (eqb (length done) 0) is in
    let first = (and_parts (bytes_eq w (codes "static")) (has_statics version) q.0).0 in
    either_way (ltb 0 (length ws) && leb (length ws) static_number_limit) (numbers_in ws) (Err UnknownWord) (Ok numbers)
    e
    (λ few read.
    let k = and_parts (ltb 0 (length ws)) (leb (length ws) static_number_limit) few in
    let s = numbers_spelled ws numbers read in
    let count : length ws ≡ length numbers = ap length s.0 ∙ length-map numbers decimal in
    let fits : IsStatic numbers = record {
      some = omega (arith, ltb-true 0 (length ws) k.0, count);
      most = omega (arith, leb-true (length ws) static_number_limit k.1, count);
      each = s.1;
    } in
    (both_same w (codes "static") ws (map decimal numbers) (same_text w (codes "static") first) s.0, fits))
    (λ never. absurd cc)

-- a line that is read as a static line is its spelling
pub static_spelled : (version : Version) (done : List Function) (text numbers : List ℕ)
    → is_static version done (words text) ≡ true → static_in (words text) ≡ Ok numbers
    → (line text ≡ static_line numbers) × IsStatic numbers
static_spelled version done text numbers is read =
    let s = words_read version done (words text) numbers is read in
    (ap line (joined text (static_words numbers) s.0), s.1)

static_words_plain : (numbers : List ℕ) → IsStatic numbers → ArePlain (static_words numbers)
static_words_plain numbers fits = ((refl, refl), numbers_plain numbers fits.each)

-- a static line is one line
pub static_plain : (numbers : List ℕ) → IsStatic numbers → list_any is_line_feed (spaced (static_words numbers)) ≡ false
static_plain numbers fits = spaced_plain (static_words numbers) (static_words_plain numbers fits)

-- its spelling is read again
pub static_again : (version : Version) (numbers : List ℕ) → has_statics version ≡ true → IsStatic numbers
    → (is_static version [] (words (spaced (static_words numbers))) ≡ true)
    × (static_in (words (spaced (static_words numbers))) ≡ Ok numbers)
static_again version numbers has fits =
    let found = spaced_words (static_words numbers) (static_words_plain numbers fits) in
    let count = length-map numbers decimal in (
      ap (is_static version []) found ∙ rw has refl,
      ap static_in found
          ∙ rw (
            lt-ltb 0 (length (map decimal numbers)) (omega (arith, count, fits.some)),
            le-leb (length (map decimal numbers)) static_number_limit (omega (arith, count, fits.most)),
          ) (numbers_again numbers fits.each),
    )

-- a version that may have more static lines has them
pub statics_room : (version : Version) (k : ℕ) → k < most_statics version
    → (has_statics version ≡ true) × (k < static_limit)
statics_room versions.One k lt = let none : k < 0 = lt in absurd (omega arith)
statics_room versions.Two k lt = let none : k < 0 = lt in absurd (omega arith)
statics_room versions.Three k lt = (refl, lt)

-- a heading is no static line
pub heading_apart : (version : Version) (done : List Function) (name : List ℕ) (ps : List Parameter)
    → is_name name ≡ true → is_static version done (words (spaced (heading_words name ps))) ≡ false
heading_apart version done name ps e =
    ap (is_static version done) (spaced_words (heading_words name ps) (heading_words_plain name ps e))

-- then the fault of the line is that of a heading
pub outer_heading : (version : Version) (statics : List (List ℕ)) (done : List Function) (text : List ℕ)
    → is_static version done (words text) ≡ false
    → line_fault_of version statics done None text ≡ heading_fault_of version done (words text)
outer_heading version statics done text other = rw other refl

-- ---- the instruction that takes a static list

-- a module that has a static list is of a version that has them
pub statics_there : (version : Version) (statics : List (List ℕ)) → AreStatics version statics → (k : ℕ)
    → k < length statics → has_statics version ≡ true
statics_there version statics lines k lt = (statics_room version k (omega (arith, lt, lines.most))).0

-- words that are read as the operands of `take` are its spelling, and there is such a static line
pub take_spelled : (version : Version) (statics : List (List ℕ)) (above : List Function) (ws : List (List ℕ))
    (i : Instr) → take_in statics ws ≡ Ok i → Spelled version statics above (codes "take" ∷ ws) i
take_spelled version statics above [] i e = absurd cc
take_spelled version statics above (to ∷ []) i e = absurd cc
take_spelled version statics above (to ∷ list ∷ []) i e =
    let d = bind_ok (variable_in to) _ i e in
    let s = bind_ok (number_in last_static list) _ i d.2 in
    let p = variable_spelled to d.0 d.1 in
    let q = number_spelled last_static list s.0 (omega arith) s.1 in
    either_way (ltb s.0 (length statics)) (Ok (Take d.0 s.0)) (Err StaticList) (Ok i) s.2
    (λ there same.
    subst (Spelled version statics above (codes "take" ∷ to ∷ list ∷ [])) (ok_is (Take d.0 s.0) i same) (
      ap (λ (x : List (List ℕ)). codes "take" ∷ x)
          (both_same to (variable d.0) (list ∷ []) (decimal s.0 ∷ []) p.0 (ap (λ (x : List ℕ). x ∷ []) q.0)),
      (p.1, omega (arith, q.1)),
      tt,
      ltb-true s.0 (length statics) there,
    ))
    (λ never. absurd cc)
take_spelled version statics above (to ∷ list ∷ more ∷ ws) i e = absurd cc

-- its spelling is read again
pub take_again : (statics : List (List ℕ)) (to list : ℕ) → IsInstruction (Take to list) → list < length statics
    → take_in statics (variable to ∷ decimal list ∷ []) ≡ Ok (Take to list)
take_again statics to list fits there =
    rw (
      variable_again to fits.0,
      number_again last_static list (omega (arith, fits.1)) (omega (arith, fits.1)),
      lt-ltb list (length statics) there,
    ) refl

pub take_plain : (to list : ℕ) → IsInstruction (Take to list)
    → AllByRecursion IsPlain (variable to ∷ decimal list ∷ [])
take_plain to list fits = (variable_plain to fits.0, (number_plain list (omega (arith, fits.1)), tt))
