-- The look-up of the functions of calls by their names.
use Rattle.std.proofs.Common.{◌≡◌, ℕ, ◌+◌, ◌<◌, ◌≤◌, List, [], ◌∷◌, ◌++◌, length, get_or, take, drop, refl, sym, ap}
use Rattle.std.proofs.Common.{◌∙◌, subst, arith, Bool, true, false, Option, None, Some, ltb, inl, inr, take-append-drop}
use Rattle.std.specs.Prelude.{IsTrue}
use Rattle.std.specs.List.{AllByRecursion, list_any, position, position_or_len}
use Rattle.std.proofs.lemmas.Bool.{cases_Bool, ltb-true, ltb-false, eqb-true, and_parts}
use Rattle.std.proofs.lemmas.List.{take_more, drop_more, map_more, length-map, nil_from_length}
use Rattle.std.proofs.lemmas.Option.{slice_get-get_or}
use Rattle.std.proofs.lemmas.List.Sums.{passes_at_first, fails_before_first}
use Rattle.std.proofs.lemmas.List.Recursion.{or_at, or_from_places}
use Rattle.brc_lang.specs.declared.module.Function.{Function}
use Rattle.brc_lang.specs.declared.module.Module.{Module}
use Rattle.brc_model.specs.Limits.{times_limit}
use Rattle.brc_model.specs.Safety.{AreCalls, IsCall}
use Rattle.brc_model.specs.Threads.{function_of, function_at}
use Rattle.brc_model.specs.declared.thread.Call.{Call}
use Rattle.brc_schedule.specs.declared.schedule.PlannedCall.{PlannedCall}
use Rattle.brc_schedule.specs.declared.schedule.Schedule.{Schedule}
use Rattle.brc_schedule.specs.Text.{IsPlannedCall, IsSchedule}
use Rattle.brc_command.specs.Calls.{is_named, is_callable, has_function, can_call, is_known, call_of, calls_of}
use Rattle.brc_command.specs.Calls.{AreKnown, IsFirstUnknown}

-- ---- one look-up

pub found_at : (p : Function → Bool) (fs : List Function) (i : ℕ) → position p fs ≡ Some i
    → (position_or_len p fs < length fs) × (position_or_len p fs ≡ i)
found_at p fs i e = elim (cases_Bool (ltb (position_or_len p fs) (length fs))) [
  | inl passes ↦
      (ltb-true _ _ passes, let s : Some (position_or_len p fs) ≡ Some i = sym (rw passes refl) ∙ e in cc)
  | inr fails ↦ let n : None ≡ Some i = sym (rw fails refl) ∙ e in absurd cc
]

found_none : (p : Function → Bool) (fs : List Function) → position p fs ≡ None → length fs ≤ position_or_len p fs
found_none p fs e = elim (cases_Bool (ltb (position_or_len p fs) (length fs))) [
  | inl passes ↦ let n : Some (position_or_len p fs) ≡ None = sym (rw passes refl) ∙ e in absurd cc
  | inr fails ↦ ltb-false _ _ fails
]

passes_any : (p : Function → Bool) (fs : List Function) → position_or_len p fs < length fs → list_any p fs ≡ true
passes_any p [] h = absurd (omega arith)
passes_any p (f ∷ fs) h = or_at (list_any p) p refl (λ _ _. refl) (f ∷ fs) (position_or_len p (f ∷ fs)) f h
    (passes_at_first p (f ∷ fs) f h)

passes_none : (p : Function → Bool) (fs : List Function) → length fs ≤ position_or_len p fs → list_any p fs ≡ false
passes_none p [] h = refl
passes_none p (f ∷ fs) h = or_from_places (list_any p) p refl (λ _ _. refl) (f ∷ fs) f
    (λ i inside. fails_before_first p (f ∷ fs) i f (omega arith))

known_at : (p : Function → Bool) (fs : List Function) (i : ℕ) → position p fs ≡ Some i → list_any p fs ≡ true
known_at p fs i found = passes_any p fs (found_at p fs i found).0

unknown_at : (p : Function → Bool) (fs : List Function) → position p fs ≡ None → list_any p fs ≡ false
unknown_at p fs none = passes_none p fs (found_none p fs none)

-- a function of the name
pub named_there : (m : Module) (name : List ℕ) (i : ℕ) → position (is_named name) m.functions ≡ Some i
    → has_function m name ≡ true
named_there m name i found = known_at (is_named name) m.functions i found

pub none_named : (m : Module) (name : List ℕ) → position (is_named name) m.functions ≡ None
    → has_function m name ≡ false
none_named m name none = unknown_at (is_named name) m.functions none

-- a function that can be called by the name
pub known_there : (m : Module) (name : List ℕ) (i : ℕ) → position (is_callable name) m.functions ≡ Some i
    → can_call m name ≡ true
known_there m name i found = known_at (is_callable name) m.functions i found

pub unknown_there : (m : Module) (name : List ℕ) → position (is_callable name) m.functions ≡ None
    → can_call m name ≡ false
unknown_there m name none = unknown_at (is_callable name) m.functions none

-- the look-up as the code has it
pub looked_up : (p : List ℕ → Function → Bool) (m : Module) (wanted : List ℕ) (fs : List Function) (name : List ℕ)
    (r : Option ℕ) → fs ≡ m.functions → name ≡ wanted
    → r ≡ position (p name) fs → r ≡ position (p wanted) m.functions
looked_up p m wanted fs name r same named found =
    found ∙ ap (λ n. position (p n) fs) named ∙ ap (λ gs. position (p wanted) gs) same

-- a function that passes is inside the list, and passes where the model looks it up
passes_there : (p : Function → Bool) (fs : List Function) → position_or_len p fs < length fs
    → p (function_at fs (position_or_len p fs)) ≡ true
passes_there p fs inside =
    let none : Function = record { name = []; parameters = []; code = [] } in
    let here = slice_get-get_or fs (position_or_len p fs) none inside in
    ap (λ (o : Option Function). p (function_of o)) here ∙ passes_at_first p fs none inside

-- a function that can be called from outside has no parameters
bare : (name : List ℕ) (f : Function) → is_callable name f ≡ true → f.parameters ≡ []
bare name f callable = nil_from_length f.parameters (eqb-true _ _ (and_parts _ _ callable).1)

-- calls of a function that is found are such that may be made
pub may_be_called : (m : Module) (name : List ℕ) (i times : ℕ) → position (is_callable name) m.functions ≡ Some i
    → 0 < times → times ≤ times_limit → IsCall m (record { function = i; times = times })
may_be_called m name i times found some most =
    let at = found_at (is_callable name) m.functions i found in
    let passes = passes_there (is_callable name) m.functions at.0 in
    subst (λ n. IsCall m (record { function = n; times = times })) at.1
    (at.0, some, most, bare name (function_at m.functions (position_or_len (is_callable name) m.functions)) passes)

-- the call that the code makes
call_there : (m : Module) (call : PlannedCall) (i : ℕ) → position (is_callable call.name) m.functions ≡ Some i
    → call_of m call ≡ record { function = i; times = call.times }
call_there m call i found =
    let made : ℕ → Call = λ n. record { function = n; times = call.times } in
    ap made (found_at (is_callable call.name) m.functions i found).1

pub made : (m : Module) (call : PlannedCall) (i : ℕ) (calls before : List Call)
    → position (is_callable call.name) m.functions ≡ Some i → calls ≡ before
    → calls ++ record { function = i; times = call.times } ∷ [] ≡ before ++ call_of m call ∷ []
made m call i calls before found same = ap (λ l. l ++ record { function = i; times = call.times } ∷ []) same
    ∙ ap (λ c. before ++ c ∷ []) (sym (call_there m call i found))

-- the call of a schedule is such that may be made
fits : (m : Module) (call : PlannedCall) → IsTrue (is_known m call) → IsPlannedCall call → IsCall m (call_of m call)
fits m call known planned =
    let p = is_callable call.name in
    elim (position p m.functions) as (λ v. position p m.functions ≡ v → IsCall m (call_of m call)) [
      | Some i ↦ λ found. subst (IsCall m) (sym (call_there m call i found))
          (may_be_called m call.name i call.times found planned.some planned.most)
      | None ↦ λ none. let unknown = unknown_there m call.name none in absurd (cc (unknown, known))
    ] refl

-- ---- the calls, one after another

pub known_push : (m : Module) (calls : List PlannedCall) (call : PlannedCall) → AreKnown m calls
    → is_known m call ≡ true → AreKnown m (calls ++ call ∷ [])
known_push m [] call known here = (here, tt)
known_push m (c ∷ cs) call known here = (known.0, known_push m cs call known.1 here)

each_fits : (m : Module) (calls : List PlannedCall) → AreKnown m calls → AllByRecursion IsPlannedCall calls
    → AllByRecursion (IsCall m) (calls_of m calls)
each_fits m [] known planned = tt
each_fits m (c ∷ cs) known planned =
    (fits m c known.0 planned.0, each_fits m cs known.1 planned.1)

pub calls_fit : (m : Module) (s : Schedule) → IsSchedule s → AreKnown m s.calls → AreCalls m (calls_of m s.calls)
calls_fit m s fits known = record {
  some = rw (length-map, fits.one_each) fits.sizes.some_workers;
  most = rw (length-map, fits.one_each) fits.sizes.most_workers;
  each = each_fits m s.calls known fits.calls;
}

-- ---- the next call of a list

pub known_next : (m : Module) (xs : List PlannedCall) (i : ℕ) (call : PlannedCall) → i < length xs
    → get_or xs i call ≡ call → AreKnown m (take i xs) → is_known m call ≡ true → AreKnown m (take (i + 1) xs)
known_next m xs i call h here known found =
    subst (AreKnown m) (sym (take_more xs i call h ∙ ap (λ c. take i xs ++ c ∷ []) here))
    (known_push m (take i xs) call known found)

pub calls_next : (m : Module) (xs : List PlannedCall) (i : ℕ) (call : PlannedCall) → i < length xs
    → get_or xs i call ≡ call
    → calls_of m (take i xs) ++ call_of m call ∷ [] ≡ calls_of m (take (i + 1) xs)
calls_next m xs i call h here = sym (map_more (call_of m) xs i call h
    ∙ ap (λ c. calls_of m (take i xs) ++ call_of m c ∷ []) here)

pub first_unknown : (m : Module) (xs : List PlannedCall) (i : ℕ) (call : PlannedCall) → i < length xs
    → get_or xs i call ≡ call → AreKnown m (take i xs)
    → position (is_callable call.name) m.functions ≡ None → IsFirstUnknown m xs call.name
first_unknown m xs i call h here known none = record {
  above = take i xs;
  call = call;
  below = drop (i + 1) xs;
  parts = sym (take-append-drop i xs) ∙ ap (λ l. take i xs ++ l)
      (drop_more xs i call h ∙ ap (λ c. c ∷ drop (i + 1) xs) here);
  known = known;
  unknown = unknown_there m call.name none;
  named = refl;
}
