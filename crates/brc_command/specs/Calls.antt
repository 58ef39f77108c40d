-- The functions that the calls of a run and of a schedule name.
use Rattle.std.specs.Prelude.{◌≡◌, ℕ, Bool, false, ◌&&◌, ◌==◌, IsTrue, List, ◌∷◌, ◌++◌, length, map}
use Rattle.std.specs.List.{AllByRecursion, list_any, position_or_len}
use Rattle.std.specs.Str.{bytes_eq}
use Rattle.brc_lang.specs.declared.module.Function.{Function}
use Rattle.brc_lang.specs.declared.module.Module.{Module}
use Rattle.brc_model.specs.declared.thread.Call.{Call}
use Rattle.brc_schedule.specs.declared.schedule.PlannedCall.{PlannedCall}

abbrev pub is_named : List ℕ → Function → Bool
is_named name f = bytes_eq f.name name

-- the module has a function of this name
abbrev pub has_function : Module → List ℕ → Bool
has_function m name = list_any (is_named name) m.functions

-- The function can be called by this name from outside: it has no parameters, since nobody there has arguments for it.
abbrev pub is_callable : List ℕ → Function → Bool
is_callable name f = is_named name f && (length f.parameters == 0)

-- the module has a function that can be called by this name from outside
abbrev pub can_call : Module → List ℕ → Bool
can_call m name = list_any (is_callable name) m.functions

-- calls of the first function that can be called by this name
abbrev pub calls_named : Module → List ℕ → ℕ → Call
calls_named m name times = record { function = position_or_len (is_callable name) m.functions; times = times }

abbrev pub is_known : Module → PlannedCall → Bool
is_known m call = can_call m call.name

abbrev pub call_of : Module → PlannedCall → Call
call_of m call = calls_named m call.name call.times

abbrev pub calls_of : Module → List PlannedCall → List Call
calls_of m calls = map (call_of m) calls

abbrev pub AreKnown : Module → List PlannedCall → Type 0
AreKnown m calls = AllByRecursion (λ call. IsTrue (is_known m call)) calls

-- the name of the first call from the top that the module has no function for
pub record IsFirstUnknown (m : Module) (calls : List PlannedCall) (name : List ℕ) : Type 0 where
  pub above : List PlannedCall
  pub call : PlannedCall
  pub below : List PlannedCall
  pub parts : calls ≡ above ++ call ∷ below
  pub known : AreKnown m above
  pub unknown : is_known m call ≡ false
  pub named : name ≡ call.name
