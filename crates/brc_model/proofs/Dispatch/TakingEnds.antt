-- What a thread takes up at the end of a call meets its condition: the caller of an outermost call releases what is
-- returned, and a call that waits goes on with it, or where a fault leads.
use Rattle.std.proofs.Common.{◌≡◌, ℕ, suc, ◌+◌, ◌<◌, true, false, List, [], ◌∷◌, ◌++◌, length, Option, None, Some, refl, sym, ap, ◌∙◌, subst, arith}
use Rattle.std.specs.Prelude.{fold, slice_set}
use Rattle.std.specs.List.{list_any}
use Rattle.std.proofs.lemmas.List.{length-set}
use Rattle.brc_lang.specs.declared.kind.Kind.TheVariants as kinds
use Rattle.brc_lang.specs.declared.module.Instr.TheVariants.{Call}
use Rattle.brc_model.specs.declared.state.Slot.{Slot}
use Rattle.brc_model.specs.declared.state.Slot.TheVariants.{Empty, Owned}
use Rattle.brc_model.specs.declared.state.State.{State}
use Rattle.brc_model.specs.declared.state.Exit.TheVariants.{Success, Fault}
use Rattle.brc_model.specs.SlotStates.{var_of, is_owned, put, emptied, stolen, without_stolen}
use Rattle.brc_model.specs.Paths.{At}
use Rattle.brc_model.specs.Threads.{row_of}
use Rattle.brc_model.specs.declared.duty.Holding.TheVariants.{ByVariable}
use Rattle.brc_model.specs.declared.duty.Duty.TheVariants.{ReleaseLoad, Settle}
use Rattle.brc_model.specs.declared.actor.Place.TheVariants.{Idle, InCall}
use Rattle.brc_model.specs.declared.actor.OpenCall.{OpenCall}
use Rattle.brc_model.specs.Actions.{waiting_context, ret_action, fail_action}
use Rattle.brc_model.specs.Moves.{pass_on}
use Rattle.brc_model.specs.References.{held, one_if, reference_of}
use Rattle.brc_model.specs.AbstractState.{without}
use Rattle.brc_model.proofs.Basics.Bag.{held_has}
use Rattle.brc_model.proofs.Basics.Lists.{none_some}
use Rattle.brc_model.proofs.Keeping.SilentMoves.{Stays, PassesOn}
use Rattle.brc_model.proofs.Frame.Aside.{HoldsAlone}
use Rattle.brc_model.proofs.Dispatch.Programs.{Program, running, IsSound}
use Rattle.brc_model.proofs.Dispatch.Holds.{once_each, activation, of_variables, outer_holds, Holds, owned_has, ended_says, holds-ended}
use Rattle.brc_model.proofs.Dispatch.Grounded.{IsInside, AreOpen, left_by, outside_is, is_activation, running_accepted, grounded-put, var_of-put_same}
use Rattle.brc_model.proofs.Dispatch.Guards.{Guards}
use Rattle.brc_model.proofs.Dispatch.Passing.{passes_by}
use Rattle.brc_model.proofs.Dispatch.Calls.{put_twice}
use Rattle.brc_model.proofs.Dispatch.Coded.{has_calls}
use Rattle.brc_model.proofs.Dispatch.Standing.{given_referenced}
use Rattle.brc_model.proofs.Dispatch.TakingUp.{Scene, holds_at_none, Gives, Settles, Taken, IsTaken, SilentTaken, idle_stays, in_call_stays}
use Rattle.brc_model.proofs.Dispatch.OneMoreOrLess.{newref_held, emptied_held}
use Rattle.brc_model.proofs.Dispatch.TakingSilent.{gained_holds, lost_holds}

-- ---- a waiting call has locked nothing

-- Variables that become empty leave the lock.
lock_stays : (s : State) (xs : List ℕ) → (fold emptied s xs).locked ≡ s.locked
lock_stays s [] = refl
lock_stays s (x ∷ xs) = lock_stays (put s x Empty) xs

-- If the state says that nothing is locked, so it is.
guards_no_lock : (s : State) (rows : List (Option ℕ)) (o locked : Option ℕ) → o ≡ None → locked ≡ None
    → Guards s rows o locked
guards_no_lock s rows None locked none free = free
guards_no_lock s rows (Some c) locked none free = absurd (none_some c (sym none))

-- ---- what a call leaves that ends

-- What is true of the call that ends: no variable but this one owns a reference, and nothing is locked.
pub record Ends (program : Program) (g : Scene) (outer : List OpenCall) (s : State) (rows : List (Option ℕ)) : Type 0
  where
    pub sound : IsSound program
    pub opened : AreOpen program outer
    pub holds : Holds g.bag g.thread (of_variables (activation program outer) s rows)
    pub unlocked : g.locked ≡ None

-- The call that waits goes on at L, if the one that it has made fails.
pub fail_by : (program : Program) (g : Scene) (left : ℕ) (outer : List OpenCall) (s : State) (rows : List (Option ℕ))
    → Ends program g outer s rows → list_any is_owned s.slots ≡ false
    → IsTaken program g (fail_action left outer)
fail_by program g left [] s rows ends none =
    let taken : SilentTaken program g [] (Idle left) = record {
      moves_fit = Stays;
      placed = (
        ends.unlocked,
        holds_at_none g.bag g.thread (outer_holds program [])
            (holds-ended g.bag g.thread program [] s rows none ends.holds),
        has_calls program left ends.opened,
      );
      stays = idle_stays left;
    } in
    taken
fail_by program g left (o ∷ outer) s rows ends none =
    let waits = ends.opened.0 in
    let call = activation program outer in
    let state = left_by o waits.arguments waits.state in
    let on = passes_by (running program outer) waits.exits o.at waits.state
    (Call o.to o.callee waits.arguments o.otherwise) (running_accepted program outer ends.sound ends.opened.1)
    waits.arrived waits.found in
    let there : IsInside call o.otherwise o.variables state = record {
      is_call = is_activation program outer ends.opened.1;
      exits = waits.exits ++ Fault ∷ [];
      arrived = on.leads Fault o.otherwise refl;
      slots = waits.slots;
      rows = waits.rows;
      grounded = waits.grounded;
    } in
    let holds : Holds g.bag g.thread (of_variables call state o.variables) =
    subst (Holds g.bag g.thread) (outside_is program outer o waits)
    (holds-ended g.bag g.thread program (o ∷ outer) s rows none ends.holds) in
    let taken : SilentTaken program g [] (InCall (waiting_context left o outer) o.otherwise o.variables) = record {
      moves_fit = Stays;
      placed = (
        state,
        there,
        guards_no_lock state o.variables state.locked g.locked
            (lock_stays waits.state (stolen waits.arguments) ∙ waits.unlocked) ends.unlocked,
        holds_at_none g.bag g.thread (of_variables call state o.variables) holds,
      );
      stays = in_call_stays (waiting_context left o outer) o.otherwise o.variables;
    } in
    taken

-- The call that waits goes on with what is returned.
pub ret_by : (program : Program) (g : Scene) (left from row : ℕ) (outer : List OpenCall) (s : State)
    (rows : List (Option ℕ)) → Ends program g outer s rows → from < length s.slots
    → is_owned (var_of s from) ≡ true → row_of rows from ≡ Some row
    → list_any is_owned (put s from Empty).slots ≡ false
    → IsTaken program g (ret_action g.thread left from row outer)
ret_by program g left from row [] s rows ends in_slots owned is none =
    let call = activation program [] in
    let held_now : HoldsAlone g.bag g.thread (once_each (outer_holds program []))
    (ReleaseLoad row (ByVariable 0 from) ∷ Settle ∷ []) =
    record {
      each = λ k object.
          let said = ap one_if (ended_says program [] (put s from Empty) (slice_set rows from None) k object none) in
          omega (
            arith,
            emptied_held g.bag g.thread call s rows from row in_slots owned is ends.holds k object,
            said,
          );
    } in
    let taken : (found : ℕ) → Taken program g found (Idle left) (ReleaseLoad row (ByVariable 0 from)) (Settle ∷ []) =
    λ found. record {
      placed = (ends.unlocked, held_now, has_calls program left ends.opened);
      starts =
          Gives row (ByVariable 0 from) (Settle ∷ [])
          (given_referenced g.bag g.thread call s rows from row owned is ends.holds);
      follows = Settles (idle_stays left);
      keeps = λ x locked. absurd (none_some x (sym ends.unlocked ∙ locked));
    } in
    taken
ret_by program g left from row (o ∷ outer) s rows ends in_slots owned is none =
    let waits = ends.opened.0 in
    let call = activation program outer in
    let callee = activation program (o ∷ outer) in
    let state = left_by o waits.arguments waits.state in
    let var : Slot = Owned kinds.Any in
    let out = ByVariable (suc (length outer)) from in
    let to = ByVariable (length outer) o.to in
    let r = reference_of g.thread out row in
    let variables = slice_set o.variables o.to (Some row) in
    let on = passes_by (running program outer) waits.exits o.at waits.state
    (Call o.to o.callee waits.arguments o.otherwise) (running_accepted program outer ends.sound ends.opened.1)
    waits.arrived waits.found in
    let to_slots : o.to < length state.slots = omega (arith, waits.low, waits.slots) in
    let to_rows : o.to < length o.variables = omega (arith, waits.low, waits.rows) in
    let there : IsInside call (o.at + 1) variables (put state o.to var) = record {
      is_call = is_activation program outer ends.opened.1;
      exits = waits.exits ++ Success ∷ [];
      arrived =
          on.leads Success (o.at + 1) refl
          ∙ ap (At (o.at + 1)) (sym (put_twice (without_stolen waits.state waits.arguments) o.to Empty var));
      slots = length-set state.slots o.to var ∙ waits.slots;
      rows = length-set o.variables o.to (Some row) ∙ waits.rows;
      grounded = grounded-put call state o.variables o.to var (Some row) to_slots to_rows (row, refl) waits.grounded;
    } in
    let one : held r g.bag ≡ 1 = owned_has g.bag g.thread callee s rows from row owned is ends.holds in
    let has = held_has r g.bag (omega (arith, one)) in
    let fewer = lost_holds g.bag g.thread callee s rows from row in_slots owned is ends.holds has in
    let waiting : Holds (without r g.bag) g.thread (of_variables call state o.variables) =
    subst (Holds (without r g.bag) g.thread) (outside_is program outer o waits)
    (holds-ended (without r g.bag) g.thread program (o ∷ outer) (put s from Empty) (slice_set rows from None) none
    fewer) in
    let free : is_owned (var_of state o.to) ≡ false =
    ap is_owned (var_of-put_same (without_stolen waits.state waits.arguments) o.to Empty
    (omega (
      arith,
      waits.low,
      waits.slots,
      length-set (without_stolen waits.state waits.arguments).slots o.to Empty,
    ))) in
    let holds : Holds (reference_of g.thread to row ∷ without r g.bag) g.thread
    (of_variables call (put state o.to var) variables) = record {
      each = gained_holds (without r g.bag) g.thread to row _
          (newref_held (without r g.bag) g.thread call state o.variables o.to row var to_slots to_rows free refl
          waiting);
    } in
    let taken : SilentTaken program g (pass_on g.thread out to row)
    (InCall (waiting_context left o outer) (o.at + 1) variables) = record {
      moves_fit = PassesOn out to row [] has Stays;
      placed = (
        put state o.to var,
        there,
        guards_no_lock (put state o.to var) variables state.locked g.locked
            (lock_stays waits.state (stolen waits.arguments) ∙ waits.unlocked) ends.unlocked,
        holds_at_none _ g.thread (of_variables call (put state o.to var) variables) holds,
      );
      stays = in_call_stays (waiting_context left o outer) (o.at + 1) variables;
    } in
    taken
