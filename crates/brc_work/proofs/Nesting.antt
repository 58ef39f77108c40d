-- A call that a function makes: how it begins, and how the function goes on behind it, as paths do.
use Rattle.std.proofs.Common.{◌≡◌, ℕ, ◌+◌, ◌*◌, ◌<◌, ◌≤◌, true, List, length, Option, None, Some, refl, sym, subst, arith}
use Rattle.std.specs.Prelude.{is_some, slice_get, slice_set}
use Rattle.std.specs.List.{list_all}
use Rattle.std.proofs.lemmas.Option.{slice_get_within}
use Rattle.brc_host.specs.HostCalls.{HostCall}
use Rattle.brc_lang.specs.Grammar.{IsInstruction, IsModule}
use Rattle.brc_lang.specs.Limits.{instruction_limit}
use Rattle.brc_lang.specs.declared.module.Function.{Function}
use Rattle.brc_lang.specs.declared.module.Instr.{Instr}
use Rattle.brc_lang.specs.declared.module.Instr.TheVariants.{Call, Ret}
use Rattle.brc_lang.specs.declared.module.Module.{Module}
use Rattle.brc_lang.specs.declared.parameter.Argument.{Argument}
use Rattle.brc_model.specs.Actions.{kept_rows, argument_rows, passed_variables}
use Rattle.brc_model.specs.Layout.{root_row}
use Rattle.brc_model.specs.Paths.{IsAcceptable}
use Rattle.brc_model.specs.Tables.{AreTrueWhereReached}
use Rattle.brc_model.specs.Threads.{function_at, row_of}
use Rattle.brc_model.specs.SlotStates.{var_of, is_empty, lowest, after}
use Rattle.brc_model.specs.declared.state.Exit.TheVariants.{Success, Fault}
use Rattle.brc_model.specs.declared.state.State.{State}
use Rattle.brc_model.proofs.Basics.Lists.{all_of_found}
use Rattle.brc_model.proofs.Dispatch.Calls.{call_met}
use Rattle.brc_model.proofs.Dispatch.Passing.{are_met}
use Rattle.brc_model.proofs.Dispatch.Programs.{CalleeFits}
use Rattle.brc_model.proofs.Keeping.Sound.{module_sound}
use Rattle.brc_table.specs.Hands.{TableState, HandState, most_references}
use Rattle.brc_table.specs.declared.view.View.{View}
use Rattle.brc_work.specs.declared.end.End.{End}
use Rattle.brc_work.specs.declared.end.End.TheVariants.{Returned, Failed, Stopped}
use Rattle.brc_work.specs.Acts.{KnowsMore}
use Rattle.brc_work.specs.Calls.{IsChecked, Begins, MayBegin, GoesTo, EndsAs, call_room}
use Rattle.brc_work.specs.Fits.{Base, Fits}
use Rattle.brc_work.specs.Runs.{Runs}
use Rattle.brc_work.specs.Stopping.{unchained, OwnsAsMuch}
use Rattle.brc_work.proofs.Conditions.{kept as kept_condition}
use Rattle.brc_work.proofs.Handing.{callee_begins, IsCalling, waiting, inner_base, goes_on_without, goes_on_with, left_unlocked}
use Rattle.brc_work.proofs.Handing.{arguments_named}
use Rattle.brc_work.proofs.Holding.{names_object}
use Rattle.brc_work.proofs.Stepping.{passes_at, passes_none, goes_to}

-- ---- a point that paths reach

module _ (f : Function) (checked : IsChecked f) (base : Base) (at : ℕ) (rows : List (Option ℕ)) (hand : HandState)
    (goes : GoesTo base f at rows hand) where
  pub point_there : at < length f.code
  point_there =
      let passes = passes_at f at goes.state checked.accepted goes.reaches in
      slice_get_within f.code at passes.here passes.found

  pub point_low : at < instruction_limit
  point_low = omega (arith, point_there, checked.few)

  -- Its instruction breaks no condition.
  pub point_passes : (i : Instr) → slice_get f.code at ≡ Some i → lowest i goes.state ≡ None
  point_passes i found = passes_none f at goes.state i checked.accepted goes.reaches found

  -- What a function returns is named.
  pub ret_names : (from : ℕ) → slice_get f.code at ≡ Some (Ret from) → (x : ℕ) × (row_of rows from ≡ Some x)
  ret_names from found =
      let met = are_met (Ret from) goes.state (point_passes (Ret from) found) in
      names_object base goes.state rows hand goes.fits from
      (kept_condition (is_empty (var_of goes.state from)) met.not_empty)

-- ---- a call

module _ (m : Module) (states : ℕ → ℕ → Option State) (form : IsModule m) (acceptable : IsAcceptable m)
    (truth : AreTrueWhereReached m states) (number : ℕ) (low : number < length m.functions)
    (checked : IsChecked (function_at m.functions number)) (at : ℕ) (rows : List (Option ℕ)) (hand : HandState)
    (to callee : ℕ) (arguments : List Argument) (otherwise : ℕ)
    (found : slice_get (function_at m.functions number).code at ≡ Some (Call to callee arguments otherwise)) where
  abbrev f : Function
  f = function_at m.functions number

  abbrev i : Instr
  i = Call to callee arguments otherwise

  abbrev kept : List (Option ℕ)
  kept = kept_rows rows arguments to

  -- The callee is a function above, with these parameters.
  pub its_callee : CalleeFits m.functions number callee arguments
  its_callee =
      (module_sound m m.version states form.functions form.calls acceptable truth).calls number at to callee otherwise
      arguments low found

  module _ (base : Base) (goes : GoesTo base f at rows hand) where
    calling : IsCalling base goes.state rows hand to arguments
    calling =
        let is = all_of_found IsInstruction f.code at i checked.each found in
        record {
          fits = goes.fits;
          met = call_met goes.state to callee otherwise arguments
              (are_met i goes.state (point_passes f checked base at rows hand goes i found));
          low = is.3;
          to_low = is.0;
          few = is.2;
        }

    -- Each argument names a row.
    pub all_named : list_all is_some (argument_rows rows arguments) ≡ true
    all_named = arguments_named base goes.state rows hand goes.fits arguments calling.met.each

    -- what the callee stands on
    abbrev pub within : Base
    within = inner_base base (waiting goes.state to arguments) kept

    module _ (root : 1 ≤ base.held root_row) (room : base.most + call_room * (number + 1) < most_references) where
      -- The callee begins,
      pub callee_may : Begins within (function_at m.functions callee) callee (passed_variables rows arguments) hand
      callee_may =
          callee_begins base goes.state rows hand to arguments calling (function_at m.functions callee) number callee
          its_callee.above its_callee.same root room

      -- and the function goes on behind it, with the reference that it returns,
      pub goes_on_returned : (later : HandState) (row : ℕ)
          → EndsAs (function_at m.functions callee) callee (Returned row) (passed_variables rows arguments) hand later
          → KnowsMore hand.view later.view → GoesTo base f (at + 1) (slice_set kept to (Some row)) later
      goes_on_returned later row ends more =
          goes_to base f at (at + 1) goes.state i Success (slice_set kept to (Some row)) later checked.accepted
          goes.reaches found refl
          (goes_on_with base goes.state rows hand to arguments calling later row (ends within callee_may) more)

      -- or without one,
      pub goes_on_failed : (later : HandState)
          → EndsAs (function_at m.functions callee) callee Failed (passed_variables rows arguments) hand later
          → KnowsMore hand.view later.view → GoesTo base f otherwise kept later
      goes_on_failed later ends more =
          goes_to base f at otherwise goes.state i Fault kept later checked.accepted goes.reaches found refl
          (goes_on_without base goes.state rows hand to arguments calling later (ends within callee_may) more)

      -- or it has its own to give up, where the hand has stopped.
      pub holds_still : (later : HandState)
          → EndsAs (function_at m.functions callee) callee Stopped (passed_variables rows arguments) hand later
          → KnowsMore hand.view later.view → Fits base (after i Fault goes.state) kept (unchained later)
      holds_still later ends more =
          goes_on_without base goes.state rows hand to arguments calling (unchained later) (ends within callee_may)
          (record { layout = more.layout; kinds = more.kinds })

      pub owns_as_much : (state : State) → state ≡ after i Fault goes.state
          → OwnsAsMuch state (after i Fault goes.state)
      owns_as_much state same =
          subst (λ (t : State). OwnsAsMuch t (after i Fault goes.state)) (sym same) (record {
            unlocked = left_unlocked base goes.state rows hand to arguments calling;
            owned = λ v. refl;
          })

-- ---- the same call, told otherwise

pub same_ends : (functions : List Function) (n callee : ℕ) (rows inner : List (Option ℕ)) (end : End)
    (hand later : HandState) → n ≡ callee → rows ≡ inner → EndsAs (function_at functions n) n end rows hand later
    → EndsAs (function_at functions callee) callee end inner hand later
same_ends functions n callee rows inner end hand later same same_rows ends =
    subst (λ (rs : List (Option ℕ)). EndsAs (function_at functions callee) callee end rs hand later) same_rows
    (subst (λ (k : ℕ). EndsAs (function_at functions k) k end rows hand later) same ends)

pub same_runs : (functions : List Function) (n callee : ℕ) (rows inner : List (Option ℕ)) (may left : ℕ) (end : End)
    (cs : List HostCall) (v u : View) → n ≡ callee → rows ≡ inner → Runs functions n rows may left end cs v u
    → Runs functions callee inner may left end cs v u
same_runs functions n callee rows inner may left end cs v u same same_rows runs =
    subst (λ (rs : List (Option ℕ)). Runs functions callee rs may left end cs v u) same_rows
    (subst (λ (k : ℕ). Runs functions k rows may left end cs v u) same runs)

pub same_begins : (heap : TableState) (functions : List Function) (n callee : ℕ) (rows inner : List (Option ℕ))
    (hand : HandState) → n ≡ callee → rows ≡ inner → MayBegin heap (function_at functions callee) callee inner hand
    → MayBegin heap (function_at functions n) n rows hand
same_begins heap functions n callee rows inner hand same same_rows may =
    subst (λ (k : ℕ). MayBegin heap (function_at functions k) k rows hand) (sym same)
    (subst (λ (rs : List (Option ℕ)). MayBegin heap (function_at functions callee) callee rs hand) (sym same_rows) may)
