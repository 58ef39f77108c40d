-- Results whose fault, if any, is the text's own: steps and tests, and the words of numbers, variables, targets and
-- names.
use Rattle.std.proofs.Common.{◌≢◌, ℕ, Bool, true, false, cond, ◌&&◌, eqb, leb, List, [], ◌∷◌, Result, Ok, Err}
use Rattle.std.specs.Str.Parse.{digits_value}
use Rattle.brc_lang.specs.declared.fault.FaultCode.{FaultCode}
use Rattle.brc_lang.specs.declared.fault.FaultCode.TheVariants.{UnknownWord, Number, OverLimit, NoMemory}
use Rattle.brc_lang.specs.Grammar.{is_name}
use Rattle.brc_lang.specs.InstructionWords.{is_numeral, number_in, variable_in, target_in, name_in, ◌>>=◌}
use Rattle.brc_lang.specs.Fault.{IsOwn}
use Rattle.brc_lang.specs.Limits.{last_variable, last_target}

-- ---- results

-- a step after a result
pub own_then : {A B : Type 0} (r : Result A FaultCode) (f : A → Result B FaultCode) → IsOwn r
    → ((x : A) → IsOwn (f x)) → IsOwn (r >>= f)
own_then (Ok x) f here then = then x
own_then (Err code) f here then = here

-- a test between two results
pub own_either : {A : Type 0} (b : Bool) (x y : Result A FaultCode) → IsOwn x → IsOwn y → IsOwn (cond b x y)
own_either true x y here there = here
own_either false x y here there = there

-- ---- faults

pub own_word : UnknownWord ≢ NoMemory
own_word e = cc

pub own_number : Number ≢ NoMemory
own_number e = cc

pub own_limit : OverLimit ≢ NoMemory
own_limit e = cc

-- ---- words

pub number_own : (high : ℕ) (word : List ℕ) → IsOwn (number_in high word)
number_own high word =
    let n = digits_value 10 word in
    own_either (is_numeral word && leb n high) (Ok n) (Err Number) tt own_number

pub variable_own : (word : List ℕ) → IsOwn (variable_in word)
variable_own [] = own_word
variable_own (c ∷ cs) = own_either (eqb c 118) (number_in last_variable cs) (Err UnknownWord)
    (number_own last_variable cs) own_word

pub target_own : (word : List ℕ) → IsOwn (target_in word)
target_own [] = own_word
target_own (c ∷ cs) = own_either (eqb c 64) (number_in last_target cs) (Err UnknownWord) (number_own last_target cs)
    own_word

pub name_own : (word : List ℕ) → IsOwn (name_in word)
name_own word = own_either (is_name word) (Ok word) (Err UnknownWord) tt own_word
