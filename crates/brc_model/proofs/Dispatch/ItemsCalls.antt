-- What a call, and the end of a call that another one has made, leave a thread to know of borrowed items: it has locked
-- nothing, so there are none.
use Rattle.std.proofs.Common.{◌≡◌, ℕ, ◌+◌, false, List, [], ◌∷◌, ◌++◌, Option, Some, refl, subst, arith}
use Rattle.std.specs.Prelude.{map, is_some, slice_set}
use Rattle.std.specs.List.{AllByRecursion, list_all}
use Rattle.brc_lang.specs.declared.kind.Kind.TheVariants as kinds
use Rattle.brc_lang.specs.declared.module.Instr.TheVariants.{Call}
use Rattle.brc_lang.specs.declared.parameter.Argument.{Argument}
use Rattle.brc_lang.specs.declared.parameter.Parameter.{Parameter}
use Rattle.brc_lang.specs.declared.parameter.Passing.{Passing}
use Rattle.brc_lang.specs.declared.parameter.Passing.TheVariants.{Borrow, Steal}
use Rattle.brc_model.specs.declared.address.Address.{Address}
use Rattle.brc_model.specs.declared.actor.Context.{Context}
use Rattle.brc_model.specs.declared.actor.OpenCall.{OpenCall}
use Rattle.brc_model.specs.declared.actor.Place.TheVariants.{InCall}
use Rattle.brc_model.specs.declared.state.Slot.{Slot}
use Rattle.brc_model.specs.declared.state.Slot.TheVariants.{Empty, Owned}
use Rattle.brc_model.specs.declared.state.State.{State}
use Rattle.brc_model.specs.declared.state.Exit.{Exit}
use Rattle.brc_model.specs.declared.state.Exit.TheVariants.{Success, Fault}
use Rattle.brc_model.specs.SlotStates.{after, target, entry_of, parameter_var, passed_var, without_stolen}
use Rattle.brc_model.specs.Actions.{waiting_context, argument_rows, passed_variables, call_action, ret_action, fail_action}
use Rattle.brc_model.specs.Items.{borrows_item, HaveItems}
use Rattle.brc_model.proofs.Basics.Lists.{either}
use Rattle.brc_model.proofs.Dispatch.Programs.{Program, number_of, running, IsSound}
use Rattle.brc_model.proofs.Dispatch.Holds.{activation}
use Rattle.brc_model.proofs.Dispatch.Grounded.{IsWaiting, AreOpen, left_by, number_there, running_accepted}
use Rattle.brc_model.proofs.Dispatch.Passing.{passes_by}
use Rattle.brc_model.proofs.Dispatch.Calls.{put_twice, passed_each}
use Rattle.brc_model.proofs.Dispatch.Items.{ItemsAt, items_put, needs_none, BorrowsNone, none_borrowed}
use Rattle.brc_model.proofs.Dispatch.ItemsUsed.{LeavesItems, UsesAt}
use Rattle.brc_model.specs.Threads.{function_at}
use Rattle.brc_lang.specs.declared.kind.Kind.{Kind}

-- ---- a call

passed_free : (p : Passing) (kind : Kind) → borrows_item (passed_var p kind) ≡ false
passed_free Borrow kind = refl
passed_free Steal kind = refl

-- What is passed borrows from no list.
parameters_free : (arguments : List Argument)
    → AllByRecursion (λ a. borrows_item (parameter_var a.parameter) ≡ false) arguments
parameters_free [] = tt
parameters_free (a ∷ others) = (passed_free a.parameter.passing a.parameter.kind, parameters_free others)

-- No variable of the callee borrows from a list.
passed_borrows_none : (arguments : List Argument) → BorrowsNone (entry_of (map (λ a. a.parameter) arguments))
passed_borrows_none arguments =
    passed_each (λ var row. borrows_item var ≡ false) refl refl [] arguments (parameters_free arguments)

-- At its entry the callee has borrowed no item.
pub call_uses : (program : Program) (memory : Address → ℕ) (locked : Option ℕ) (t : ℕ) (context : Context) (at : ℕ)
    (variables : List (Option ℕ)) (s : State) (to callee : ℕ) (arguments : List Argument) (otherwise : ℕ)
    → UsesAt program context.outer memory locked at variables s (Call to callee arguments otherwise)
    → LeavesItems program memory locked (call_action t context at variables to callee arguments otherwise)
call_uses program memory locked t context at variables s to callee arguments otherwise here =
    let there = number_there program context.outer here.inside.is_call.open_calls in
    let fits = here.sound.calls (number_of program context.outer) at to callee otherwise arguments there here.found in
    let f = function_at program.functions callee in
    let entered : HaveItems memory locked (entry_of f.parameters) (passed_variables variables arguments) =
    subst (λ (ps : List Parameter). HaveItems memory locked (entry_of ps) (passed_variables variables arguments))
    fits.same
    (none_borrowed memory locked (entry_of (map (λ a. a.parameter) arguments)) (passed_variables variables arguments)
    (passed_borrows_none arguments)) in
    either (LeavesItems program memory locked) (list_all is_some (argument_rows variables arguments)) _ _
    (λ named exits other arrived.
    subst (λ (state : State). HaveItems memory locked state (passed_variables variables arguments))
    ((here.sound.accepted callee (omega (arith, fits.above, there))).states_agree [] exits 0 (entry_of f.parameters)
    other refl arrived) entered) tt

-- ---- the end of a call

-- A waiting call goes on by an exit of its instruction, in the state of that exit.
resumes : (program : Program) (memory : Address → ℕ) (locked : Option ℕ) (left : ℕ) (outer : List OpenCall)
    (o : OpenCall) (exit : Exit) (next : ℕ) (rows : List (Option ℕ)) → IsSound program
    → (opened : AreOpen program (o ∷ outer))
    → target (Call o.to o.callee opened.0.arguments o.otherwise) exit o.at ≡ Some next
    → HaveItems memory locked (after (Call o.to o.callee opened.0.arguments o.otherwise) exit opened.0.state) rows
    → ItemsAt program memory locked (InCall (waiting_context left o outer) next rows)
resumes program memory locked left outer o exit next rows sound opened to items =
    let waits = opened.0 in
    let accepted = running_accepted program outer sound opened.1 in
    let on = passes_by (running program outer) waits.exits o.at waits.state
    (Call o.to o.callee waits.arguments o.otherwise) accepted waits.arrived waits.found in
    λ exits other arrived.
    subst (λ (state : State). HaveItems memory locked state rows)
    (accepted.states_agree (waits.exits ++ exit ∷ []) exits next
    (after (Call o.to o.callee waits.arguments o.otherwise) exit waits.state) other (on.leads exit next to)
    arrived) items

-- A waiting call has borrowed none.
waiting_items : (program : Program) (memory : Address → ℕ) (locked : Option ℕ) (outer : List OpenCall) (o : OpenCall)
    → (waits : IsWaiting (activation program outer) o)
    → HaveItems memory locked (left_by o waits.arguments waits.state) o.variables
waiting_items program memory locked outer o waits v x borrows is = absurd (waits.no_items v x borrows is)

-- So it has none to know of where it goes on.
pub ret_uses : (program : Program) (memory : Address → ℕ) (locked : Option ℕ) (t left from row : ℕ)
    (outer : List OpenCall) → IsSound program → AreOpen program outer
    → LeavesItems program memory locked (ret_action t left from row outer)
ret_uses program memory locked t left from row [] sound opened = λ new found done. tt
ret_uses program memory locked t left from row (o ∷ outer) sound opened =
    let waits = opened.0 in
    let s = left_by o waits.arguments waits.state in
    let var : Slot = Owned kinds.Any in
    resumes program memory locked left outer o Success (o.at + 1) (slice_set o.variables o.to (Some row)) sound opened
    refl
    (subst (λ (state : State). HaveItems memory locked state (slice_set o.variables o.to (Some row)))
    (put_twice (without_stolen waits.state waits.arguments) o.to Empty var)
    (items_put memory locked s o.variables o.to var (Some row) (omega (arith, waits.low, waits.slots))
    (omega (arith, waits.low, waits.rows)) (needs_none memory locked var (Some row) refl)
    (waiting_items program memory locked outer o waits)))

pub fail_uses : (program : Program) (memory : Address → ℕ) (locked : Option ℕ) (left : ℕ) (outer : List OpenCall)
    → IsSound program → AreOpen program outer → LeavesItems program memory locked (fail_action left outer)
fail_uses program memory locked left [] sound opened = tt
fail_uses program memory locked left (o ∷ outer) sound opened =
    resumes program memory locked left outer o Fault o.otherwise o.variables sound opened refl
    (waiting_items program memory locked outer o opened.0)
