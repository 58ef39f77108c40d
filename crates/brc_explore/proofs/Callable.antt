-- Calls that a worker can make.
use Rattle.std.proofs.Common.{◌≡◌, ℕ, ◌+◌, ◌<◌, ◌≤◌, List, [], ◌∷◌, ◌++◌, length, get_or, take, refl, sym, ap, subst, arith, ◌∙◌}
use Rattle.std.specs.Prelude.{Some, slice_get}
use Rattle.std.specs.List.{AllByRecursion}
use Rattle.std.proofs.lemmas.List.{take_all, take_more}
use Rattle.std.proofs.lemmas.Option.{slice_get-get_or}
use Rattle.brc_lang.specs.declared.module.Function.{Function}
use Rattle.brc_lang.specs.declared.module.Module.{Module}
use Rattle.brc_model.specs.declared.thread.Call.{Call}
use Rattle.brc_model.specs.Limits.{times_limit}
use Rattle.brc_model.specs.Safety.{IsCall}
use Rattle.brc_model.specs.Threads.{function_of}

calls_to : (m : Module) (calls : List Call) (call : Call) → AllByRecursion (IsCall m) calls → IsCall m call
    → AllByRecursion (IsCall m) (calls ++ call ∷ [])
calls_to m [] call all one = (one, tt)
calls_to m (c ∷ calls) call all one = (all.0, calls_to m calls call all.1 one)

-- A worker can make one call more.
pub calls_more : (m : Module) (calls : List Call) (at : ℕ) (d : Call) → at < length calls
    → AllByRecursion (IsCall m) (take at calls) → IsCall m (get_or calls at d)
    → AllByRecursion (IsCall m) (take (at + 1) calls)
calls_more m calls at d inside all one =
    subst (AllByRecursion (IsCall m)) (sym (take_more calls at d inside))
    (calls_to m (take at calls) (get_or calls at d) all one)

-- It can make all of them.
pub calls_all : (m : Module) (calls : List Call) (at : ℕ) → length calls ≤ at
    → AllByRecursion (IsCall m) (take at calls) → AllByRecursion (IsCall m) calls
calls_all m calls at past all = subst (AllByRecursion (IsCall m)) (take_all at calls past) all

none_in : {A : Type 0} (xs : List A) → length xs ≡ 0 → xs ≡ []
none_in [] none = refl
none_in (x ∷ xs) none = absurd (omega (arith, none))

-- It can make this one.
pub call_is : (m : Module) (functions : List Function) (call : Call) (function : Function)
    → functions ≡ m.functions → call.function < length functions
    → function ≡ get_or functions call.function function → length function.parameters ≡ 0 → 0 < call.times
    → call.times ≤ times_limit → IsCall m call
call_is m functions call function same there is none some most =
    let found : slice_get functions call.function ≡ Some function =
    slice_get-get_or functions call.function function there ∙ ap (λ (f : Function). Some f) (sym is) in
    let its : function ≡ function_of (slice_get m.functions call.function) =
    sym (ap (λ (fs : List Function). function_of (slice_get fs call.function)) (sym same) ∙ ap function_of found) in (
      subst (λ (fs : List Function). call.function < length fs) same there,
      some,
      most,
      subst (λ (f : Function). f.parameters ≡ []) its (none_in function.parameters none),
    )
