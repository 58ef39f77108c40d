-- The parameters of a function: words that are read as parameters are their spelling.
use Rattle.std.proofs.Common.{◌≡◌, ℕ, ◌+◌, ◌*◌, ◌<◌, ◌≤◌, true, leb, List, [], ◌∷◌, ◌++◌, length, Bor, Option}
use Rattle.std.proofs.Common.{Some, None, Result, Ok, Err, refl, ap, subst, arith}
use Rattle.std.specs.Prelude.{codes}
use Rattle.std.specs.List.{AllByRecursion}
use Rattle.std.specs.Str.{bytes_eq}
use Rattle.std.proofs.lemmas.Bool.{lt-leb, le-leb, leb-true}
use Rattle.brc_lang.specs.declared.kind.Kind.{Kind}
use Rattle.brc_lang.specs.declared.kind.Kind.TheVariants as kinds
use Rattle.brc_lang.specs.declared.parameter.Parameter.{Parameter}
use Rattle.brc_lang.specs.declared.parameter.Passing.{Passing}
use Rattle.brc_lang.specs.declared.parameter.Passing.TheVariants as passings
use Rattle.brc_lang.specs.declared.fault.FaultCode.{FaultCode}
use Rattle.brc_lang.specs.declared.fault.FaultCode.TheVariants.{UnknownWord}
use Rattle.brc_lang.specs.Grammar.{kind_name, passing_name, parameter_words}
use Rattle.brc_lang.specs.InstructionWords.{words, passing_in, parameter_kind_in, ◌>>=◌}
use Rattle.brc_lang.specs.Fault.{parameters_in, parameters_within}
use Rattle.brc_lang.specs.RoundTrips.{IsPlain}
use Rattle.brc_lang.proofs.KindWords.{kind_spelled, kind_plain}
use Rattle.brc_lang.proofs.OperandForms.{both_same}
use Rattle.brc_lang.proofs.Spelling.{bind_ok, ok_is}
use Rattle.brc_lang.proofs.Tests.{either_way, same_text}
use Rattle.brc_lang.proofs.Words.{some_word}

-- ---- one parameter

passing_named : (word : List ℕ) (here p : Passing) → bytes_eq word (passing_name here) ≡ true
    → ◌≡◌ {A = Result Passing FaultCode} (Ok here) (Ok p) → word ≡ passing_name p
passing_named word here p same e =
    subst (λ (q : Passing). word ≡ passing_name q) (ok_is here p e) (same_text word (passing_name here) same)

-- a word that is read as a passing is its name
pub passing_spelled : (word : List ℕ) (p : Passing) → passing_in word ≡ Ok p → word ≡ passing_name p
passing_spelled word p read =
    either_way (bytes_eq word (codes "borrow")) _ _ (Ok p) read (passing_named word passings.Borrow p)
    (λ other.
    either_way (bytes_eq word (codes "steal")) _ (Err UnknownWord) (Ok p) other (passing_named word passings.Steal p)
    (λ never. absurd cc))

passing_again : (p : Passing) → passing_in (passing_name p) ≡ Ok p
passing_again passings.Borrow = refl
passing_again passings.Steal = refl

passing_plain : (p : Passing) → IsPlain (passing_name p)
passing_plain passings.Borrow = (refl, refl)
passing_plain passings.Steal = (refl, refl)

-- a word that is read as a parameter's kind is its name
pub parameter_kind_spelled : (word : List ℕ) (k : Kind) → parameter_kind_in word ≡ Ok k → word ≡ kind_name k
parameter_kind_spelled word k read =
    either_way (bytes_eq word (codes "any")) _ _ (Ok k) read
    (λ same e. subst (λ (q : Kind). word ≡ kind_name q) (ok_is kinds.Any k e) (same_text word (codes "any") same))
    (λ other. (kind_spelled word k other).0)

parameter_kind_again : (k : Kind) → parameter_kind_in (kind_name k) ≡ Ok k
parameter_kind_again kinds.None = refl
parameter_kind_again kinds.Num = refl
parameter_kind_again kinds.List = refl
parameter_kind_again kinds.File = refl
parameter_kind_again kinds.Sock = refl
parameter_kind_again kinds.Any = refl

-- ---- parameters

-- words that are read as parameters are their words
parameters_spelled : (ws : List (List ℕ)) (ps : List Parameter) → parameters_in ws ≡ Ok ps → ws ≡ parameter_words ps
parameters_spelled [] ps e = ap parameter_words (ok_is [] ps e)
parameters_spelled (word ∷ []) ps e = absurd cc
parameters_spelled (word ∷ kind ∷ ws) ps e =
    let p = bind_ok (passing_in word) _ ps e in
    let k = bind_ok (parameter_kind_in kind) _ ps p.2 in
    let others = bind_ok (parameters_in ws) _ ps k.2 in
    let first : Parameter = record { passing = p.0; kind = k.0 } in
    subst (λ (qs : List Parameter). (word ∷ kind ∷ ws) ≡ parameter_words qs)
    (ok_is (first ∷ others.0) ps others.2)
    (both_same word (passing_name p.0) (kind ∷ ws) (kind_name k.0 ∷ parameter_words others.0)
    (passing_spelled word p.0 p.1)
    (both_same kind (kind_name k.0) ws (parameter_words others.0) (parameter_kind_spelled kind k.0 k.1)
    (parameters_spelled ws others.0 others.1)))

-- the words of parameters are read as these
pub parameters_again : (ps : List Parameter) → parameters_in (parameter_words ps) ≡ Ok ps
parameters_again [] = refl
parameters_again (p ∷ ps) = rw (passing_again p.passing, parameter_kind_again p.kind, parameters_again ps) refl

-- each parameter has two words
pub two_words_each : (ps : List Parameter) → length (parameter_words ps) ≡ 2 * length ps
two_words_each [] = refl
two_words_each (p ∷ ps) = omega (arith, two_words_each ps)

-- no word of a parameter has a space or a line feed
pub parameters_plain : (ps : List Parameter) → AllByRecursion IsPlain (parameter_words ps)
parameters_plain [] = tt
parameters_plain (p ∷ ps) = (passing_plain p.passing, (kind_plain p.kind, parameters_plain ps))

-- at most as many parameters are read
pub within_spelled : (most : ℕ) (ws : List (List ℕ)) (ps : List Parameter) → parameters_within most ws ≡ Ok ps
    → (ws ≡ parameter_words ps) × (length ps ≤ most)
within_spelled most ws ps e =
    either_way (leb (length ws) (2 * most)) (parameters_in ws) (Err UnknownWord) (Ok ps) e
    (λ few read.
    let spelled = parameters_spelled ws ps read in
    (spelled, omega (arith, leb-true (length ws) (2 * most) few, ap length spelled, two_words_each ps)))
    (λ never. absurd cc)

pub within_again : (most : ℕ) (ps : List Parameter) → length ps ≤ most
    → parameters_within most (parameter_words ps) ≡ Ok ps
within_again most ps few =
    rw (le-leb (length (parameter_words ps)) (2 * most) (omega (arith, few, two_words_each ps))) (parameters_again ps)

-- ---- a loop over the words of parameters

-- the words that are left; none where no word is
abbrev pub words_left : Option (Bor (List ℕ)) → List (List ℕ)
words_left None = []
words_left (Some rest) = words rest.now

-- the first parameters of the text have been read
pub record HasRead (most : ℕ) (text : List ℕ) (ps : List Parameter) (rest : Option (Bor (List ℕ))) : Type 0 where
  pub few : length ps ≤ most
  pub count : length (words text) ≡ 2 * length ps + length (words_left rest)
  pub so_far : parameters_in (words text) ≡ (parameters_in (words_left rest) >>= λ more. Ok (ps ++ more))

module _ (most : ℕ) (text : List ℕ) (ps : List Parameter) (rest : Bor (List ℕ))
    (read : HasRead most text ps (Some rest)) where
  -- there is a parameter too many
  pub too_many : length ps ≡ most → parameters_within most (words text) ≡ Err UnknownWord
  too_many all =
      let some = some_word rest.now in
      let more : 2 * most < length (words text) = omega (arith, all, read.count, ap length some.2) in
      rw (lt-leb (length (words text)) (2 * most) more) refl
