-- What is true of each function of an accepted module: it is accepted, and it calls functions above it, which have
-- these parameters, and are less deep.
use Rattle.std.proofs.Common.{◌≡◌, ℕ, zero, suc, ◌<◌, ◌≤◌, List, [], ◌∷◌, ◌++◌, length, Option, None, Some, refl, sym, ap, ◌∙◌, subst, arith}
use Rattle.std.specs.Prelude.{slice_get}
use Rattle.std.specs.List.{AllByRecursion, slice_index_or}
use Rattle.brc_lang.specs.declared.module.Module.{Module}
use Rattle.brc_lang.specs.declared.module.Function.{Function}
use Rattle.brc_lang.specs.declared.module.Instr.{Instr}
use Rattle.brc_lang.specs.declared.module.Instr.TheVariants.{Call}
use Rattle.brc_lang.specs.declared.parameter.Argument.{Argument}
use Rattle.brc_lang.specs.declared.version.Version.{Version}
use Rattle.brc_lang.specs.Grammar.{IsInstruction, IsFunction, depth_of, depths_below, depths, MayCall, IfFound, CallFits, CallsFit}
use Rattle.brc_model.specs.declared.state.State.{State}
use Rattle.brc_model.specs.Paths.{IsAcceptableFunction, IsAcceptable}
use Rattle.brc_model.specs.Tables.{Reaches, AreTrueWhereReached}
use Rattle.brc_model.specs.Threads.{function_of, function_at}
use Rattle.brc_model.specs.Limits.{depth_limit}
use Rattle.brc_model.proofs.Basics.Lists.{all_at, all_of_found, some_is}
use Rattle.brc_model.proofs.Basics.Below.{found_before, found_low, made, IsBelow, is_below, made_itself, made_of_callee}
use Rattle.brc_model.proofs.Dispatch.Programs.{depth_at, AreInstructions, CalleeFits, AreSound}

-- ---- depths

-- The depths of a module's functions are such numbers.
depths_made : (ds : List ℕ) (fs : List Function) → made depth_of ds fs ≡ depths_below ds fs
depths_made ds [] = refl
depths_made ds (f ∷ fs) = depths_made (ds ++ depth_of ds f.code ∷ []) fs

-- Code is no deeper without its first instruction.
depth_tail : (ds : List ℕ) (i : Instr) (code : List Instr) → depth_of ds code ≤ depth_of ds (i ∷ code)
depth_tail ds (Call to callee arguments otherwise) code = omega arith
depth_tail ds _ code = omega arith

-- A call is open at least while it runs.
depth_itself : (ds : List ℕ) (code : List Instr) → 1 ≤ depth_of ds code
depth_itself ds [] = omega arith
depth_itself ds (i ∷ code) = let rest = depth_itself ds code in omega (arith, rest, depth_tail ds i code)

-- Code is deeper than what it calls.
depth_call : (ds : List ℕ) (code : List Instr) (at to callee : ℕ) (arguments : List Argument) (otherwise : ℕ)
    → slice_get code at ≡ Some (Call to callee arguments otherwise)
    → suc (slice_index_or ds callee 0) ≤ depth_of ds code
depth_call ds [] at to callee arguments otherwise found = absurd cc
depth_call ds (i ∷ code) zero to callee arguments otherwise found =
    subst (λ (x : Instr). suc (slice_index_or ds callee 0) ≤ depth_of ds (x ∷ code))
    (sym (some_is i (Call to callee arguments otherwise) found)) (omega arith)
depth_call ds (i ∷ code) (suc at) to callee arguments otherwise found =
    let rest = depth_call ds code at to callee arguments otherwise found in
    omega (arith, rest, depth_tail ds i code)

-- ---- what a call fits

pub record FoundSo (o : Option Function) (holds : Function → Type 0) : Type 0 where
  pub function : Function
  pub is_found : o ≡ Some function
  pub so : holds function

found_so : (o : Option Function) (holds : Function → Type 0) → IfFound o holds → FoundSo o holds
found_so None holds so = absurd so
found_so (Some f) holds so = record { function = f; is_found = refl; so = so }

-- A call is of a function above.
pub call_fits : (version : Version) (above : List Function) (to callee : ℕ) (arguments : List Argument) (otherwise : ℕ)
    → CallFits version above (Call to callee arguments otherwise)
    → FoundSo (slice_get above callee) (MayCall (slice_index_or (depths above) callee 0) arguments)
call_fits version above to callee arguments otherwise fits = found_so (slice_get above callee) _ fits.1

first_few : (version : Version) (above : List Function) (i : Instr) (code : List Instr) → CallFits version above i
    → depth_of (depths above) code ≤ depth_limit → depth_of (depths above) (i ∷ code) ≤ depth_limit
first_few version above (Call to callee arguments otherwise) code fits few =
    let room = (call_fits version above to callee arguments otherwise fits).so.room in omega (arith, room, few)
first_few version above _ code fits few = omega (arith, few)

-- Code that calls functions above leaves room for the calls.
depth_few : (version : Version) (above : List Function) (code : List Instr)
    → AllByRecursion (CallFits version above) code → depth_of (depths above) code ≤ depth_limit
depth_few version above [] fits = omega arith
depth_few version above (i ∷ code) fits = first_few version above i code fits.0 (depth_few version above code fits.1)

module _ {version : Version} {functions : List Function} {number : ℕ} {f : Function}
    (b : IsBelow version functions number f) where
  -- A function's depth is that of its code, from the depths of the functions above it.
  depth_is : depth_at functions number ≡ depth_of (depths b.above) f.code
  depth_is =
      ap (λ (l : List ℕ). slice_index_or l number 0) (sym (depths_made [] functions)) ∙ made_itself depth_of b
      ∙ ap (λ (l : List ℕ). depth_of l f.code) (depths_made [] b.above)

  depth_above : (callee : ℕ) → callee < number
      → depth_at functions callee ≡ slice_index_or (depths b.above) callee 0
  depth_above callee low =
      ap (λ (l : List ℕ). slice_index_or l callee 0) (sym (depths_made [] functions))
      ∙ made_of_callee depth_of b callee low
      ∙ ap (λ (l : List ℕ). slice_index_or l callee 0) (depths_made [] b.above)

  -- What a function calls fits it.
  callee_fits : (at to callee otherwise : ℕ) (arguments : List Argument)
      → slice_get f.code at ≡ Some (Call to callee arguments otherwise)
      → CalleeFits functions number callee arguments
  callee_fits at to callee otherwise arguments found =
      let fits = call_fits version b.above to callee arguments otherwise
      (all_of_found (CallFits version b.above) f.code at (Call to callee arguments otherwise) b.fits.calls found) in
      let low : callee < number =
      let there = found_low b.above callee fits.function fits.is_found in omega (arith, there, b.many) in
      let there : slice_get functions callee ≡ Some fits.function =
      ap (λ (l : List Function). slice_get l callee) b.all
      ∙ found_before b.above (f ∷ b.below) callee (omega (arith, low, b.many)) ∙ fits.is_found in
      record {
        above = low;
        same = fits.so.same ∙ ap (λ (o : Option Function). (function_of o).parameters) (sym there);
        deeper =
            let call = depth_call (depths b.above) f.code at to callee arguments otherwise found in
            omega (arith, call, depth_is, depth_above callee low);
      }

-- ---- the whole module

-- A function of the module, which is accepted.
pub record FoundFunction (m : Module) (number : ℕ) : Type 0 where
  pub function : Function
  pub is_found : slice_get m.functions number ≡ Some function
  pub accepted : IsAcceptableFunction function
  pub form : IsFunction function

-- Each function of an acceptable module is sound.
pub module_sound : (m : Module) (version : Version) (states : ℕ → ℕ → Option State)
    → AllByRecursion IsFunction m.functions
    → CallsFit version [] m.functions → IsAcceptable m → AreTrueWhereReached m states → AreSound m.functions states
module_sound m version states functions calls accepted states_true =
    let each : (number : ℕ) → number < length m.functions → FoundFunction m number = λ number low.
    let good = all_at IsAcceptableFunction m.functions number accepted low in
    record {
      function = good.found;
      is_found = good.is_there;
      accepted = good.holds;
      form = all_of_found IsFunction m.functions number good.found functions good.is_there;
    } in
    let at_number : (P : Function → Type 0) (number : ℕ) (f : Function) → slice_get m.functions number ≡ Some f → P f
    → P (function_at m.functions number) = λ P number f found holds.
    subst (λ (o : Option Function). P (function_of o)) (sym found) holds in
    let below : (number : ℕ) (low : number < length m.functions)
    → IsBelow version m.functions number (each number low).function = λ number low.
    subst (λ (k : ℕ). IsBelow version m.functions k (each number low).function) (omega arith)
    (is_below version [] m.functions calls number (each number low).function (each number low).is_found) in
    record {
      accepted = λ number low.
          at_number IsAcceptableFunction number (each number low).function (each number low).is_found
          (each number low).accepted;
      instructions = λ number low.
          at_number (λ f. AreInstructions f.code) number (each number low).function (each number low).is_found
          (record {
            forward = (each number low).form.targets.forward;
            each = λ at instr found.
                all_of_found IsInstruction (each number low).function.code at instr (each number low).form.code found;
          });
      calls = λ number at to callee otherwise arguments low found.
          let f = each number low in
          callee_fits (below number low) at to callee otherwise arguments
          (ap (λ (o : Option Function). slice_get (function_of o).code at) (sym f.is_found) ∙ found);
      calls_few = λ number low.
          let b = below number low in
          let few = depth_few version b.above (each number low).function.code b.fits.calls in
          omega (arith, few, depth_is b);
      counts_itself = λ number low.
          let b = below number low in
          let one = depth_itself (depths b.above) (each number low).function.code in
          omega (arith, one, depth_is b);
      states_true = λ number at s low reached.
          let f = each number low in
          states_true number at f.function s f.is_found
          (subst (λ (o : Option Function). Reaches (function_of o) at s) f.is_found reached);
    }
