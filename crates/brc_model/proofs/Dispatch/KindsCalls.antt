-- What a call, and the end of a call that another one has made, leave in the variables: objects of the kinds that the
-- checker says.
use Rattle.std.proofs.Common.{◌≡◌, ℕ, ◌+◌, ◌<◌, List, [], ◌∷◌, ◌++◌, length, inl, inr, Option, None, Some, refl, sym, ap, ◌∙◌, subst, arith}
use Rattle.std.specs.Prelude.{is_some, slice_set}
use Rattle.std.specs.List.{AllByRecursion, list_all}
use Rattle.brc_lang.specs.declared.kind.Kind.TheVariants as kinds
use Rattle.brc_lang.specs.declared.module.Instr.TheVariants.{Call}
use Rattle.brc_lang.specs.declared.parameter.Argument.{Argument}
use Rattle.brc_lang.specs.declared.parameter.Parameter.{Parameter}
use Rattle.brc_lang.specs.declared.parameter.Passing.{Passing}
use Rattle.brc_lang.specs.declared.parameter.Passing.TheVariants.{Borrow, Steal}
use Rattle.brc_model.specs.declared.actor.Context.{Context}
use Rattle.brc_model.specs.declared.actor.OpenCall.{OpenCall}
use Rattle.brc_model.specs.declared.actor.Place.TheVariants.{InCall}
use Rattle.brc_model.specs.declared.state.Slot.{Slot}
use Rattle.brc_model.specs.declared.state.Slot.TheVariants.{Empty, Owned}
use Rattle.brc_model.specs.declared.state.State.{State}
use Rattle.brc_model.specs.declared.state.Exit.{Exit}
use Rattle.brc_model.specs.declared.state.Exit.TheVariants.{Success, Fault}
use Rattle.brc_model.specs.SlotStates.{after, target, entry_of, parameter_var, passed_var, without_stolen}
use Rattle.brc_model.specs.Threads.{row_of}
use Rattle.brc_model.specs.Layout.{root_row}
use Rattle.brc_model.specs.Actions.{waiting_context, argument_rows, passed_variables, kept_rows, call_action, ret_action, fail_action, waiting_state}
use Rattle.brc_model.specs.KnownKinds.{IsTrueKind, HasTrueKind, HaveTrueKinds}
use Rattle.brc_model.proofs.Basics.Lists.{some_is, either}
use Rattle.brc_model.proofs.Dispatch.Programs.{Program, number_of, running, IsSound}
use Rattle.brc_model.proofs.Dispatch.Holds.{activation}
use Rattle.brc_model.proofs.Dispatch.Grounded.{IsWaiting, AreOpen, left_by, waiting_is, number_there, running_accepted}
use Rattle.brc_model.proofs.Dispatch.Passing.{passes_by}
use Rattle.brc_model.proofs.Dispatch.Kinds.{true_put, empty_true, HaveKinds, OpenKinds, KnowsAll}
use Rattle.brc_model.proofs.Dispatch.Calls.{AreSixteen, left_keeps, put_twice, ArgumentMet, call_met, passed_each}
use Rattle.brc_model.proofs.Dispatch.KindsKnown.{LeavesKinds, KnowsAt}
use Rattle.brc_lang.specs.declared.module.Instr.{Instr}
use Rattle.brc_model.specs.Stops.{fault_state}
use Rattle.brc_model.specs.Kinds.{kind_of_word}
use Rattle.brc_lang.specs.declared.kind.Kind.{Kind}

-- ---- a call

passed_true : (words : ℕ → ℕ) (p : Passing) (kind : Kind) (row : Option ℕ)
    → ((x : ℕ) → row ≡ Some x → IsTrueKind kind (words x)) → HasTrueKind words (passed_var p kind) row
passed_true words Borrow kind row is_true = is_true
passed_true words Steal kind row is_true = is_true

-- The callee's variable of a parameter has the parameter's kind.
parameter_true : (words : ℕ → ℕ) (s : State) (rows : List (Option ℕ)) → HaveTrueKinds words s rows
    → (arguments : List Argument) → AllByRecursion (ArgumentMet s) arguments
    → AllByRecursion (λ a. HasTrueKind words (parameter_var a.parameter) (row_of rows a.from)) arguments
parameter_true words s rows known [] each = tt
parameter_true words s rows known (a ∷ others) each = (
  passed_true words a.parameter.passing a.parameter.kind (row_of rows a.from) (λ x is.
      elim each.0.kind [
        | inl any ↦ inl any
        | inr same ↦ subst (λ (k : Kind). IsTrueKind k (words x)) same (known a.from x is)
      ]),
  parameter_true words s rows known others each.1,
)

-- The variables of a call that waits have the kinds of the fault exit's state.
left_true : (words : ℕ → ℕ) (s : State) (rows : List (Option ℕ)) (arguments : List Argument) (o : OpenCall)
    → AllByRecursion (λ a. a.from < 16) arguments → o.to < 16 → AreSixteen s rows → HaveTrueKinds words s rows
    → HaveTrueKinds words (left_by o arguments s) (kept_rows rows arguments o.to)
left_true words s rows arguments o low to_low all known =
    (left_keeps (HaveTrueKinds words)
    (λ state variables x sixteen less holds.
    true_put words state variables x Empty None (omega (arith, less, sixteen.slots))
    (omega (arith, less, sixteen.named))
    (empty_true words None) holds)
    s rows arguments o low to_low all known).1

-- A call leaves the callee's variables objects of the parameters' kinds, and its own what they had.
pub call_leaves : (program : Program) (words : ℕ → ℕ) (t : ℕ) (context : Context) (at : ℕ)
    (variables : List (Option ℕ)) (s : State) (to callee : ℕ) (arguments : List Argument) (otherwise : ℕ)
    → KnowsAt program context.outer words at variables s (Call to callee arguments otherwise)
    → LeavesKinds program words (call_action t context at variables to callee arguments otherwise)
call_leaves program words t context at variables s to callee arguments otherwise here =
    let number = number_of program context.outer in
    let there = number_there program context.outer here.inside.is_call.open_calls in
    let fits = here.sound.calls number at to callee otherwise arguments there here.found in
    let met = call_met s to callee otherwise arguments here.met in
    let o : OpenCall = record {
      callee = callee;
      at = at;
      variables = kept_rows variables arguments to;
      turns = context.turns;
      to = to;
      otherwise = otherwise;
    } in
    let f = running program (o ∷ context.outer) in
    let entered : HaveTrueKinds words (entry_of f.parameters) (passed_variables variables arguments) =
    subst (λ (ps : List Parameter). HaveTrueKinds words (entry_of ps) (passed_variables variables arguments)) fits.same
    (passed_each (HasTrueKind words)
    (λ x is. inr (ap (λ (y : ℕ). kind_of_word (words y)) (sym (some_is root_row x is)) ∙ here.named.root))
    (empty_true words None) variables arguments (parameter_true words s variables here.known arguments met.each)) in
    let callee_there : callee < length program.functions = omega (arith, fits.above, there) in
    let known : program.states number at ≡ Some s =
    here.sound.states_true number at s there (record { exits = here.inside.exits; reaches = here.inside.arrived }) in
    let waits : HaveKinds words (waiting_state program.functions program.states number o) o.variables =
    subst (λ (w : Option State). HaveKinds words w o.variables)
    (sym (ap (λ (i : Option Instr). fault_state i (program.states number at)) here.found
    ∙ ap (fault_state (Some (Call to callee arguments otherwise))) known))
    (left_true words s variables arguments o here.operands.3 here.operands.0
    (record { slots = here.inside.slots; named = here.inside.rows }) here.known) in
    either (LeavesKinds program words) (list_all is_some (argument_rows variables arguments)) _ _
    (λ named. (
      λ exits other arrived.
          subst (λ (state : State). HaveTrueKinds words state (passed_variables variables arguments))
          ((here.sound.accepted callee callee_there).states_agree [] exits 0 (entry_of f.parameters) other refl arrived)
          entered,
      (waits, here.open_known),
    )) tt

-- ---- the end of a call

-- A waiting call goes on by an exit of its instruction, in the state of that exit.
resumes : (program : Program) (words : ℕ → ℕ) (left : ℕ) (outer : List OpenCall) (o : OpenCall) (exit : Exit)
    (next : ℕ) (rows : List (Option ℕ)) → IsSound program
    → (opened : AreOpen program (o ∷ outer)) → OpenKinds program words outer
    → target (Call o.to o.callee opened.0.arguments o.otherwise) exit o.at ≡ Some next
    → HaveTrueKinds words (after (Call o.to o.callee opened.0.arguments o.otherwise) exit opened.0.state) rows
    → KnowsAll program words (InCall (waiting_context left o outer) next rows)
resumes program words left outer o exit next rows sound opened known to true_then =
    let waits = opened.0 in
    let accepted = running_accepted program outer sound opened.1 in
    let on = passes_by (running program outer) waits.exits o.at waits.state
    (Call o.to o.callee waits.arguments o.otherwise) accepted waits.arrived waits.found in (
      λ exits other arrived.
          subst (λ (state : State). HaveTrueKinds words state rows)
          (accepted.states_agree (waits.exits ++ exit ∷ []) exits next
          (after (Call o.to o.callee waits.arguments o.otherwise) exit waits.state) other (on.leads exit next to)
          arrived) true_then,
      known,
    )

-- What its variables have while it waits.
waiting_true : (program : Program) (words : ℕ → ℕ) (outer : List OpenCall) (o : OpenCall)
    → (waits : IsWaiting (activation program outer) o) → OpenKinds program words (o ∷ outer)
    → HaveTrueKinds words (left_by o waits.arguments waits.state) o.variables
waiting_true program words outer o waits known =
    subst (λ (w : Option State). HaveKinds words w o.variables) (waiting_is (activation program outer) o waits) known.0

-- A call that ends leaves the waiting one what it had, and a result of any kind.
pub ret_leaves : (program : Program) (words : ℕ → ℕ) (t left from row : ℕ) (outer : List OpenCall) → IsSound program
    → AreOpen program outer → OpenKinds program words outer
    → LeavesKinds program words (ret_action t left from row outer)
ret_leaves program words t left from row [] sound opened known = λ found stored. (tt, tt)
ret_leaves program words t left from row (o ∷ outer) sound opened known =
    let waits = opened.0 in
    let s = left_by o waits.arguments waits.state in
    let var : Slot = Owned kinds.Any in
    resumes program words left outer o Success (o.at + 1) (slice_set o.variables o.to (Some row)) sound opened known.1
    refl
    (subst (λ (state : State). HaveTrueKinds words state (slice_set o.variables o.to (Some row)))
    (put_twice (without_stolen waits.state waits.arguments) o.to Empty var)
    (true_put words s o.variables o.to var (Some row) (omega (arith, waits.low, waits.slots))
    (omega (arith, waits.low, waits.rows)) (λ x is. inl refl) (waiting_true program words outer o waits known)))

pub fail_leaves : (program : Program) (words : ℕ → ℕ) (left : ℕ) (outer : List OpenCall) → IsSound program
    → AreOpen program outer → OpenKinds program words outer → LeavesKinds program words (fail_action left outer)
fail_leaves program words left [] sound opened known = (tt, tt)
fail_leaves program words left (o ∷ outer) sound opened known =
    resumes program words left outer o Fault o.otherwise o.variables sound opened known.1 refl
    (waiting_true program words outer o opened.0 known)
