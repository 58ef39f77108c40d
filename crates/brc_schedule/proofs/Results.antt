-- Tests that went one way, and results that were found step by step.
use Rattle.std.proofs.Common.{◌≡◌, ℕ, ◌+◌, Bool, true, false, cond, leb, ◌&&◌, List, ◌++◌, Result, Ok, Err, Option}
use Rattle.std.proofs.Common.{◌⊎◌, refl, ap, inl, inr}
use Rattle.std.specs.Str.{bytes_eq}
use Rattle.std.specs.Str.Parse.{digits_value}
use Rattle.std.proofs.lemmas.Slice.Eq.{bytes_eq-Decides}
use Rattle.std.proofs.lemmas.List.Sums.{sum_by-append}
use Rattle.brc_lang.specs.declared.fault.FaultCode.{FaultCode}
use Rattle.brc_lang.specs.declared.fault.FaultCode.TheVariants.{Number}
use Rattle.brc_lang.specs.InstructionWords.{◌>>=◌, is_numeral, number_in}
use Rattle.brc_lang.specs.Fault.{line_count, IsOwn, IsOwnFault}

-- ---- the way a test went

pub chosen : {A : Type 0} (b : Bool) (x y z : A) → cond b x y ≡ z → ((b ≡ true) × (x ≡ z)) ⊎ ((b ≡ false) × (y ≡ z))
chosen true x y z e = inl (refl, e)
chosen false x y z e = inr (refl, e)

-- a test that led to `Ok`
pub guarded : {A : Type 0} (b : Bool) (d : FaultCode) (x y : A) → cond b (Ok x) (Err d) ≡ Ok y → (b ≡ true) × (x ≡ y)
guarded true d x y e = (refl, cc)
guarded false d x y e = absurd cc

-- the value of a step that did not fail
pub bind_ok : {A B : Type 0} (r : Result A FaultCode) (f : A → Result B FaultCode) (y : B) → (r >>= f) ≡ Ok y
    → (x : A) × (r ≡ Ok x) × (f x ≡ Ok y)
bind_ok (Ok x) f y e = (x, refl, e)
bind_ok (Err d) f y e = absurd cc

-- ---- bytes

pub same_text : (w text : List ℕ) → bytes_eq w text ≡ true → w ≡ text
same_text w text e = (bytes_eq-Decides w text).0 e

-- with the same bytes in front
pub behind : (a : List ℕ) {x y : List ℕ} → x ≡ y → a ++ x ≡ a ++ y
behind a e = ap (λ (x : List ℕ). a ++ x) e

pub line_count-append : (a b : List ℕ) → line_count (a ++ b) ≡ line_count a + line_count b
line_count-append a b = sum_by-append _ a b

-- ---- faults other than want of memory

pub own_then : {A B : Type 0} (r : Result A FaultCode) (f : A → Result B FaultCode) → IsOwn r
    → ((x : A) → IsOwn (f x)) → IsOwn (r >>= f)
own_then (Ok x) f here then = then x
own_then (Err code) f here then = here

pub own_either : {A : Type 0} (b : Bool) (x y : Result A FaultCode) → IsOwn x → IsOwn y → IsOwn (cond b x y)
own_either true x y here there = here
own_either false x y here there = there

pub own_fault_either : (b : Bool) (x y : Option FaultCode) → IsOwnFault x → IsOwnFault y → IsOwnFault (cond b x y)
own_fault_either true x y here there = here
own_fault_either false x y here there = there

pub number_own : (high : ℕ) (word : List ℕ) → IsOwn (number_in high word)
number_own high word =
    own_either (is_numeral word && leb (digits_value 10 word) high) (Ok (digits_value 10 word)) (Err Number) tt
    (λ e. cc)
