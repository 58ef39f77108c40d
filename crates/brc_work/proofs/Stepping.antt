-- A call goes from point to point as the checker's paths do.
use Rattle.std.proofs.Common.{◌≡◌, ℕ, ◌+◌, ◌<◌, inl, inr, length, Bool, true, false, cond, List, [], ◌∷◌, ◌++◌, drop, Option, None, Some, refl, sym, ap, ◌∙◌, subst, arith}
use Rattle.std.specs.Prelude.{find, slice_get, slice_set}
use Rattle.std.specs.List.{AllByRecursion, list_any}
use Rattle.std.proofs.lemmas.Option.{slice_get_cases}
use Rattle.brc_lang.specs.Grammar.{IsModule, IsAllowed}
use Rattle.brc_lang.specs.Limits.{function_limit}
use Rattle.brc_lang.specs.declared.kind.Kind.TheVariants as kinds
use Rattle.brc_lang.specs.declared.module.Function.{Function}
use Rattle.brc_lang.specs.declared.parameter.Argument.{Argument}
use Rattle.brc_lang.specs.declared.parameter.Parameter.{Parameter}
use Rattle.brc_lang.specs.declared.module.Instr.{Instr}
use Rattle.brc_lang.specs.declared.module.Module.{Module}
use Rattle.brc_lang.specs.declared.module.Instr.TheVariants.{Num, List as ListObject, NoneObject, Take, Newref, Move, Drop, Lock, Unlock, Borrow, Fetch, Set, Put, Goto, Again, Ret, Fail, As, Open, Connect, Read, Write, Call}
use Rattle.brc_model.specs.declared.state.Exit.TheVariants.{Success, Fault as FaultExit}
use Rattle.brc_lang.specs.declared.check_code.CheckCode.TheVariants.{EmptyUsed, WrongKind, NotOwned, StillOwns, LeftOwned, LeftLocked, SecondLock, NotLocked, LockedChanged}
use Rattle.brc_model.specs.declared.state.State.{State}
use Rattle.brc_model.specs.declared.state.Exit.{Exit}
use Rattle.brc_model.specs.Layout.{root_row}
use Rattle.brc_model.specs.Paths.{At, IsAcceptableFunction}
use Rattle.brc_model.specs.declared.state.Slot.{Slot}
use Rattle.brc_model.specs.declared.state.Slot.TheVariants.{Empty, Owned}
use Rattle.brc_model.specs.SlotStates.{var_of, is_owned, put, applies, rising, lowest, after, target, entry_of}
use Rattle.brc_model.specs.Tables.{Reaches, AreTrueWhereReached}
use Rattle.brc_model.specs.Threads.{function_of, function_at, row_of, entry_variables}
use Rattle.brc_model.proofs.Basics.Lists.{some_is, all_of_found}
use Rattle.brc_model.proofs.Dispatch.Calls.{passed_each}
use Rattle.brc_model.proofs.Dispatch.Grounded.{owned_low, owned_var}
use Rattle.brc_model.proofs.Dispatch.Passing.{AreMet, are_met, PassesOn, passes_on}
use Rattle.brc_table.specs.Hands.{TableState, HandState}
use Rattle.brc_work.specs.Calls.{Begins, GoesTo, GoesOn, HasReturned, Returns, stays_in_call}
use Rattle.brc_work.specs.Fits.{Base, outermost, owns, lists, over_variables, SlotFits, OfRoot, IsReady, IsHeapOf, LayoutAllows, Fits}
use Rattle.brc_heap.proofs.Keeping.{keeps_first}
use Rattle.brc_work.proofs.CallsBelow.{keeps_later}
use Rattle.brc_work.proofs.Conditions.{kept, none_is}
use Rattle.brc_work.proofs.StolenSums.{Counts, owns_counts, lists_counts, put_sum}
use Rattle.brc_work.proofs.Locking.{no_lock}
use Rattle.brc_work.proofs.Owning.{sum_none, owns_no, lists_no, entry_owned, entry_listed}

find_skip : {A : Type 0} (test : A → Bool) (x : A) (xs : List A) → test x ≡ false → find test (x ∷ xs) ≡ find test xs
find_skip test x xs is = ap (λ (b : Bool). cond b (Some x) (find test xs)) is

-- An instruction whose conditions are met breaks none.
pub lowest_none : (i : Instr) (s : State) → AreMet i s → lowest i s ≡ None
lowest_none i s met =
    find_skip (applies i s) EmptyUsed (drop 1 rising) met.not_empty
    ∙ (find_skip (applies i s) WrongKind (drop 2 rising) met.right_kind
    ∙ (find_skip (applies i s) NotOwned (drop 3 rising) met.owned
    ∙ (find_skip (applies i s) StillOwns (drop 4 rising) met.free
    ∙ (find_skip (applies i s) LeftOwned (drop 5 rising) met.none_left
    ∙ (find_skip (applies i s) LeftLocked (drop 6 rising) met.no_lock_left
    ∙ (find_skip (applies i s) SecondLock (drop 7 rising) met.first_lock
    ∙ (find_skip (applies i s) NotLocked (drop 8 rising) met.has_lock
    ∙ find_skip (applies i s) LockedChanged (drop 9 rising) met.unlocked)))))))

-- The instruction at a point that paths reach, and its conditions.
pub passes_at : (f : Function) (at : ℕ) (s : State) → IsAcceptableFunction f → (reaches : Reaches f at s)
    → PassesOn f reaches.exits at s
passes_at f at s accepted reaches = passes_on f reaches.exits at s accepted reaches.reaches

-- The call goes on by the instruction's exit.
pub goes_to : (base : Base) (f : Function) (at next : ℕ) (s : State) (i : Instr) (exit : Exit)
    (rows : List (Option ℕ)) (hand : HandState) → IsAcceptableFunction f → (reaches : Reaches f at s)
    → slice_get f.code at ≡ Some i → target i exit at ≡ Some next → Fits base (after i exit s) rows hand
    → GoesTo base f next rows hand
goes_to base f at next s i exit rows hand accepted reaches found leads fits =
    let passes = passes_at f at s accepted reaches in
    let same : passes.here ≡ i = some_is passes.here i (sym passes.found ∙ found) in
    record {
      state = after i exit s;
      fits = fits;
      reaches = record {
        exits = reaches.exits ++ exit ∷ [];
        reaches =
            passes.leads exit next (ap (λ (j : Instr). target j exit at) same ∙ leads)
            ∙ ap (λ (j : Instr). At next (after j exit s)) same;
      };
    }

-- ---- the end of a call

pub ends : (base : Base) (s : State) (rows : List (Option ℕ)) (hand : HandState) → Fits base s rows hand
    → list_any is_owned s.slots ≡ false → s.locked ≡ None → HasReturned base hand
ends base s rows hand fits none unlocked =
    let lock = no_lock base s rows hand fits unlocked in
    record {
      follows = fits.follows;
      rests = fits.rests;
      unlocked = lock.0;
      fields = lock.1;
      held = λ y counted. omega (arith, fits.held y counted, sum_none (owns y) (owns_no y) s.slots rows none);
      few =
          let none_listed =
          sum_none (lists base.first.view.layout) (lists_no base.first.view.layout) s.slots rows none in
          omega (arith, fits.few, none_listed);
    }

-- With the reference that it returns.
pub ends_with : (base : Base) (s : State) (rows : List (Option ℕ)) (hand : HandState) (from row : ℕ)
    → Fits base s rows hand → lowest (Ret from) s ≡ None → row_of rows from ≡ Some row → Returns base row hand
ends_with base s rows hand from row fits passes names =
    let met = are_met (Ret from) s passes in
    let owned : is_owned (var_of s from) ≡ true =
    owned_var (var_of s from) (kept _ met.not_empty) (kept _ met.owned) in
    let unlocked = none_is s.locked (kept _ met.no_lock_left) in
    let lock = no_lock base s rows hand fits unlocked in
    let low = owned_low s from fits.some_slots owned in
    let sums : (f : Slot → Option ℕ → ℕ) → Counts f
    → over_variables f s.slots rows ≡ f (Owned kinds.Any) (Some row) = λ f counts.
    let one = put_sum f counts s rows from (record { slots = fits.some_slots; named = fits.some_rows }) low in
    let none = sum_none f counts.bare (put s from Empty).slots (slice_set rows from None) (kept _ met.none_left) in
    let same : f (var_of s from) (row_of rows from) ≡ f (Owned kinds.Any) (Some row) =
    sym (counts.alike kinds.Any (var_of s from) (row_of rows from) owned) ∙ ap (f (Owned kinds.Any)) names in
    omega (arith, one, none, same) in
    record {
      follows = fits.follows;
      rests = fits.rests;
      unlocked = lock.0;
      fields = lock.1;
      held = λ y counted.
          let all = sums (owns y) (owns_counts y) in
          let had = fits.held y counted in
          omega (arith, all, had);
      few =
          let all = sums (lists base.first.view.layout) (lists_counts base.first.view.layout) in
          let had = fits.few in
          omega (arith, all, had);
    }

-- ---- its beginning

first_slot : (hand : HandState) → IsReady hand → (i : ℕ)
    → SlotFits (outermost hand).held hand.view (var_of (entry_of []) i) (row_of entry_variables i)
first_slot hand ready i =
    passed_each (SlotFits (outermost hand).held hand.view)
    (record {
      names = record { object = root_row; is = refl; knows = OfRoot refl refl };
      lent = λ counted. ready.root;
    }) tt [] [] tt i

begins_first : (hand : HandState) → IsReady hand → Fits (outermost hand) (entry_of []) entry_variables hand
begins_first hand ready = record {
  ready = ready;
  room = omega (arith, ready.few);
  follows = keeps_later (keeps_first hand.view) (omega arith) refl refl;
  rests = ready.rests;
  some_slots = refl;
  some_rows = refl;
  each = first_slot hand ready;
  held = λ y counted. omega (arith, entry_owned y);
  few = omega (arith, entry_listed hand.view.layout);
  lock = (ready.unlocked, refl);
}

-- An outermost call is of a function without parameters.
pub begins : (hand : HandState) (f : Function) (number : ℕ) → IsReady hand → f.parameters ≡ []
    → number < function_limit → Begins (outermost hand) f number entry_variables hand
begins hand f number ready none low = record {
  fits = subst (λ (ps : List Parameter). Fits (outermost hand) (entry_of ps) entry_variables hand) (sym none)
      (begins_first hand ready);
  root = ready.root;
  room = omega (arith, ready.few, low);
}

pub begins_at : (f : Function) → Reaches f 0 (entry_of f.parameters)
begins_at f = record { exits = []; reaches = refl }

-- An instruction that stays in its call leads on.
pub leads_on : (i : Instr) (exit : Exit) (at : ℕ) → stays_in_call i ≡ true
    → (next : ℕ) × (target i exit at ≡ Some next)
leads_on (Num to value otherwise) Success at on = (at + 1, refl)
leads_on (Num to value otherwise) FaultExit at on = (otherwise, refl)
leads_on (ListObject to cells otherwise) Success at on = (at + 1, refl)
leads_on (ListObject to cells otherwise) FaultExit at on = (otherwise, refl)
leads_on (NoneObject to) exit at on = (at + 1, refl)
leads_on (Take to list) exit at on = (at + 1, refl)
leads_on (Newref to from) exit at on = (at + 1, refl)
leads_on (Move to from) exit at on = (at + 1, refl)
leads_on (Drop from) exit at on = (at + 1, refl)
leads_on (Lock object) exit at on = (at + 1, refl)
leads_on (Unlock object) exit at on = (at + 1, refl)
leads_on (Borrow to list index otherwise) Success at on = (at + 1, refl)
leads_on (Borrow to list index otherwise) FaultExit at on = (otherwise, refl)
leads_on (Fetch to list index otherwise) Success at on = (at + 1, refl)
leads_on (Fetch to list index otherwise) FaultExit at on = (otherwise, refl)
leads_on (Set list index from otherwise) Success at on = (at + 1, refl)
leads_on (Set list index from otherwise) FaultExit at on = (otherwise, refl)
leads_on (Put list index from otherwise) Success at on = (at + 1, refl)
leads_on (Put list index from otherwise) FaultExit at on = (otherwise, refl)
leads_on (Open to path mode otherwise) Success at on = (at + 1, refl)
leads_on (Open to path mode otherwise) FaultExit at on = (otherwise, refl)
leads_on (Connect to peer otherwise) Success at on = (at + 1, refl)
leads_on (Connect to peer otherwise) FaultExit at on = (otherwise, refl)
leads_on (Read to file most otherwise) Success at on = (at + 1, refl)
leads_on (Read to file most otherwise) FaultExit at on = (otherwise, refl)
leads_on (Write file number otherwise) Success at on = (at + 1, refl)
leads_on (Write file number otherwise) FaultExit at on = (otherwise, refl)
leads_on (As from kind otherwise) Success at on = (at + 1, refl)
leads_on (As from kind otherwise) FaultExit at on = (otherwise, refl)
leads_on (Call to callee arguments otherwise) exit at on = let wrong : false ≡ true = on in absurd cc
leads_on (Goto to) exit at on = (to, refl)
leads_on (Again to times) Success at on = (at + 1, refl)
leads_on (Again to times) FaultExit at on = (to, refl)
leads_on (Ret from) exit at on = let wrong : false ≡ true = on in absurd cc
leads_on Fail exit at on = let wrong : false ≡ true = on in absurd cc

-- The instruction at a point that paths reach breaks no condition.
pub passes_none : (f : Function) (at : ℕ) (s : State) (i : Instr) → IsAcceptableFunction f → Reaches f at s
    → slice_get f.code at ≡ Some i → lowest i s ≡ None
passes_none f at s i accepted reaches found =
    let passes = passes_at f at s accepted reaches in
    let same : passes.here ≡ i = some_is passes.here i (sym passes.found ∙ found) in
    subst (λ (j : Instr). lowest j s ≡ None) same (lowest_none passes.here s passes.met)

-- An instruction that neither calls a function nor ends the call stays in it.
pub stays_by : (i : Instr) → ((from : ℕ) → i ≡ Ret from → ⊥) → (i ≡ Fail → ⊥)
    → ((to callee : ℕ) (arguments : List Argument) (otherwise : ℕ) → i ≡ Call to callee arguments otherwise → ⊥)
    → stays_in_call i ≡ true
stays_by (Call to callee arguments otherwise) no_ret no_fail no_call =
    absurd (no_call to callee arguments otherwise refl)
stays_by (Ret from) no_ret no_fail no_call = absurd (no_ret from refl)
stays_by Fail no_ret no_fail no_call = absurd (no_fail refl)
stays_by _ no_ret no_fail no_call = refl

-- A call that returns nothing leaves nothing behind.
pub fails : (base : Base) (s : State) (rows : List (Option ℕ)) (hand : HandState) → Fits base s rows hand
    → lowest Fail s ≡ None → HasReturned base hand
fails base s rows hand fits passes =
    let met = are_met Fail s passes in
    ends base s rows hand fits (kept _ met.none_left) (none_is s.locked (kept _ met.no_lock_left))

-- ---- the heap's layout

allowed_here : (m : Module) (heap : TableState) (i : Instr) → IsHeapOf m heap → IsAllowed m.version m.statics i
    → LayoutAllows heap.layout i
allowed_here m heap (ListObject to cells otherwise) is allowed = omega (arith, is.cells, allowed)
allowed_here m heap (Take to list) is allowed = omega (arith, is.lists, allowed)
allowed_here m heap _ is allowed = tt

-- The layout of the module's heap allows each instruction of the module.
pub layout_allows : (m : Module) (heap : TableState) (function at : ℕ) (i : Instr) → IsModule m → IsHeapOf m heap
    → function < length m.functions → slice_get (function_at m.functions function).code at ≡ Some i
    → LayoutAllows heap.layout i
layout_allows m heap function at i fits is low found =
    elim (slice_get_cases m.functions function).1 [
      | inl there ↦
          let code = ap (λ (o : Option Function). slice_get (function_of o).code at) (sym there.2) ∙ found in
          allowed_here m heap i is
          (all_of_found (IsAllowed m.version m.statics) there.0.code at i
          (all_of_found (λ (f : Function). AllByRecursion (IsAllowed m.version m.statics) f.code) m.functions function
          there.0 fits.allowed there.2) code)
      | inr past ↦ absurd (omega (arith, past.0, low))
    ]

-- ---- the next point

-- A step of the call leads on to the next point.
pub goes_there : (base : Base) (f : Function) (at next : ℕ) (i : Instr) (rows after_rows : List (Option ℕ))
    (hand after_hand : HandState) → IsAcceptableFunction f → slice_get f.code at ≡ Some i
    → GoesTo base f at rows hand → GoesOn i at rows hand next after_rows after_hand
    → GoesTo base f next after_rows after_hand
goes_there base f at next i rows after_rows hand after_hand accepted found goes steps =
    goes_to base f at next goes.state i steps.0 after_rows after_hand accepted goes.reaches found steps.1
    (steps.2 base goes.state goes.fits (passes_none f at goes.state i accepted goes.reaches found))

-- ---- a point's state

-- A table that is true where paths reach gives a point that they reach their state.
pub state_known : (m : Module) (states : ℕ → ℕ → Option State) (function at : ℕ) (s : State)
    → AreTrueWhereReached m states → function < length m.functions
    → Reaches (function_at m.functions function) at s → states function at ≡ Some s
state_known m states function at s truth low reaches =
    elim (slice_get_cases m.functions function).1 [
      | inl found ↦
          truth function at found.0 s found.2
          (subst (λ (o : Option Function). Reaches (function_of o) at s) found.2 reaches)
      | inr past ↦ absurd (omega (arith, past.0, low))
    ]
