-- The limit of a function is enough for its own code and for the calls that this makes: what it calls is above it.
use Rattle.std.proofs.Common.{◌≡◌, ℕ, zero, suc, ◌+◌, ◌*◌, ◌<◌, ◌≤◌, List, [], ◌∷◌, ◌++◌, length, None, Some, refl, sym, ap, ◌∙◌, subst, arith}
use Rattle.std.specs.Prelude.{max, slice_get}
use Rattle.std.specs.List.{AllByRecursion, slice_index_or}
use Rattle.brc_lang.specs.declared.module.Function.{Function}
use Rattle.brc_lang.specs.declared.module.Instr.{Instr}
use Rattle.brc_lang.specs.declared.module.Instr.TheVariants.{Call}
use Rattle.brc_lang.specs.declared.parameter.Argument.{Argument}
use Rattle.brc_lang.specs.declared.version.Version.{Version}
use Rattle.brc_lang.specs.Grammar.{CallFits, CallsFit}
use Rattle.brc_model.specs.Threads.{function_of, function_at}
use Rattle.brc_model.specs.Bounded.{own_limit, greatest_called, limit_below, limits_below, limits_of, call_limit}
use Rattle.brc_model.proofs.Basics.Lists.{some_is}
use Rattle.brc_model.proofs.Basics.Below.{found_low, made, IsBelow, is_below, made_itself, made_of_callee}
use Rattle.brc_model.proofs.Keeping.Sound.{call_fits}

-- ---- what code calls

-- Code calls no function of a greater limit without its first instruction.
greatest_tail : (limits : List ℕ) (i : Instr) (code : List Instr)
    → greatest_called limits code ≤ greatest_called limits (i ∷ code)
greatest_tail limits (Call to callee arguments otherwise) code = omega arith
greatest_tail limits _ code = omega arith

-- A function that the code calls has no greater limit.
pub called_within : (limits : List ℕ) (code : List Instr) (at to callee : ℕ) (arguments : List Argument)
    (otherwise : ℕ) → slice_get code at ≡ Some (Call to callee arguments otherwise)
    → slice_index_or limits callee 0 ≤ greatest_called limits code
called_within limits [] at to callee arguments otherwise found = absurd cc
called_within limits (i ∷ code) zero to callee arguments otherwise found =
    subst (λ (x : Instr). slice_index_or limits callee 0 ≤ greatest_called limits (x ∷ code))
    (sym (some_is i (Call to callee arguments otherwise) found)) (omega arith)
called_within limits (i ∷ code) (suc at) to callee arguments otherwise found =
    let rest = called_within limits code at to callee arguments otherwise found in
    omega (arith, rest, greatest_tail limits i code)

first_same : (limits other : List ℕ) (version : Version) (above : List Function) (i : Instr) (code : List Instr)
    → CallFits version above i
    → ((callee : ℕ) → callee < length above → slice_index_or limits callee 0 ≡ slice_index_or other callee 0)
    → greatest_called limits code ≡ greatest_called other code
    → greatest_called limits (i ∷ code) ≡ greatest_called other (i ∷ code)
first_same limits other version above (Call to callee arguments otherwise) code fits same rest =
    let callable = call_fits version above to callee arguments otherwise fits in
    ap (λ (n : ℕ). max n (greatest_called limits code))
    (same callee (found_low above callee callable.function callable.is_found))
    ∙ ap (max (slice_index_or other callee 0)) rest
first_same limits other version above _ code fits same rest = rest

-- It depends on the limits of the functions above alone.
greatest_same : (limits other : List ℕ) (version : Version) (above : List Function) (code : List Instr)
    → AllByRecursion (CallFits version above) code
    → ((callee : ℕ) → callee < length above → slice_index_or limits callee 0 ≡ slice_index_or other callee 0)
    → greatest_called limits code ≡ greatest_called other code
greatest_same limits other version above [] fits same = refl
greatest_same limits other version above (i ∷ code) fits same =
    first_same limits other version above i code fits.0 same
    (greatest_same limits other version above code fits.1 same)

-- ---- the limit of each function

-- The limits of a module's functions are such numbers.
limits_made : (limits : List ℕ) (fs : List Function) → made limit_below limits fs ≡ limits_below limits fs
limits_made limits [] = refl
limits_made limits (f ∷ fs) = limits_made (limits ++ limit_below limits f.code ∷ []) fs

-- Each function's limit is enough.
pub record LimitsFit (functions : List Function) : Type 0 where
  pub enough : (number : ℕ)
      → own_limit (function_at functions number).code
      * (1 + greatest_called (limits_of functions) (function_at functions number).code)
      ≤ call_limit functions number

-- The limit of a function that is there is enough.
found_enough : (version : Version) (functions : List Function) (number : ℕ) (f : Function)
    → IsBelow version functions number f
    → own_limit f.code * (1 + greatest_called (limits_of functions) f.code) ≤ call_limit functions number
found_enough version functions number f b =
    let whole = made limit_below [] functions in
    let above = made limit_below [] b.above in
    let same : greatest_called whole f.code ≡ greatest_called above f.code =
    greatest_same whole above version b.above f.code b.fits.calls
    (λ callee low. made_of_callee limit_below b callee (omega (arith, low, b.many))) in
    let limit : slice_index_or whole number 0 ≡ own_limit f.code * (1 + greatest_called whole f.code) =
    made_itself limit_below b ∙ ap (λ (n : ℕ). own_limit f.code * (1 + n)) (sym same) in
    subst (λ (l : List ℕ). own_limit f.code * (1 + greatest_called l f.code) ≤ slice_index_or l number 0)
    (limits_made [] functions) (omega (arith, limit))

-- So is that of each number: where there is no function, nothing begins.
pub limits_fit : (version : Version) (functions : List Function) → CallsFit version [] functions → LimitsFit functions
limits_fit version functions fits = record {
  enough = λ number.
      elim (slice_get functions number) as
      (λ o. slice_get functions number ≡ o
      → own_limit (function_of o).code * (1 + greatest_called (limits_of functions) (function_of o).code)
      ≤ call_limit functions number) [
        | None ↦ λ is. omega arith
        | Some f ↦
            λ is. found_enough version functions number f
            (subst (λ (k : ℕ). IsBelow version functions k f) (omega arith) (is_below version [] functions fits number f
            is))
      ] refl;
}
