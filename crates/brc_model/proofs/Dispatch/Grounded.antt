-- A thread in a call is at a point that some path reaches, and what the path's state says of each variable is true of
-- the row in that variable.
use Rattle.std.proofs.Common.{◌≡◌, ◌≢◌, ℕ, zero, suc, ◌+◌, ◌<◌, ◌≤◌, Bool, true, false, List, [], ◌∷◌, length, Option, None, Some, cond, refl, sym, ap, ◌∙◌, subst, arith, inl, inr, get_or-set_same, get_or-set_other}
use Rattle.std.specs.Prelude.{◌==◌, ◌&&◌, slice_get, slice_set}
use Rattle.std.proofs.lemmas.Bool.{cases_lt}
use Rattle.std.proofs.lemmas.Bool.Decides.{eqb_tells}
use Rattle.std.proofs.lemmas.List.{get_or_past}
use Rattle.std.proofs.Math.ListN.{get_or-map}
use Rattle.brc_lang.specs.declared.kind.Kind.{Kind}
use Rattle.brc_lang.specs.declared.module.Function.{Function}
use Rattle.brc_lang.specs.declared.module.Instr.{Instr}
use Rattle.brc_lang.specs.declared.module.Instr.TheVariants.{Call}
use Rattle.brc_lang.specs.declared.parameter.Argument.{Argument}
use Rattle.brc_lang.specs.declared.parameter.Parameter.{Parameter}
use Rattle.brc_model.specs.declared.state.Slot.{Slot}
use Rattle.brc_model.specs.declared.state.Slot.TheVariants.{Empty, Owned, Caller, Locked}
use Rattle.brc_model.specs.declared.state.State.{State}
use Rattle.brc_model.specs.declared.state.Exit.{Exit}
use Rattle.brc_model.specs.declared.state.Exit.TheVariants.{Fault}
use Rattle.brc_model.specs.SlotStates.{var_of, is_empty, is_owned, is_borrowed, with_kind, names, put, after, entry_of, without_item, without_items}
use Rattle.brc_model.specs.Paths.{At, path_end, IsAcceptableFunction}
use Rattle.brc_model.specs.declared.duty.Holding.{Holding}
use Rattle.brc_model.specs.declared.duty.Holding.TheVariants.{ByVariable, AsCaller, InFlight}
use Rattle.brc_model.specs.declared.actor.OpenCall.{OpenCall}
use Rattle.brc_model.specs.Actions.{waiting_state}
use Rattle.brc_model.specs.Stops.{fault_state}
use Rattle.brc_model.specs.Items.{borrows_item}
use Rattle.brc_model.specs.Threads.{row_of, entry_variables}
use Rattle.brc_model.proofs.Basics.Lists.{get_or-replicate_default, and_first}
use Rattle.brc_model.proofs.Dispatch.Programs.{Program, number_of, running, depth_at, AreInstructions, IsSound}
use Rattle.brc_model.proofs.Dispatch.Holds.{Activation, activation, IsOuter, of_variables, of_state, outer_holds, own_depth, other_depth, owning_none, Holds, the_root}
use Rattle.brc_model.specs.Layout.{root_row}
use Rattle.brc_model.specs.Limits.{depth_limit}
use Rattle.brc_model.specs.References.{one_if}
use Rattle.brc_model.specs.AbstractState.{Reference}

-- What a variable's state says of the row in its variable. What a variable borrows from its caller the thread holds
-- outside the call. (Python/C API manual, Reference Count Details: the caller lends its arguments for the whole call.)
abbrev pub IsGrounded : Activation → Slot → Option ℕ → Type 0
IsGrounded call Empty row = Unit {0}
IsGrounded call (Owned k) row = (r : ℕ) × (row ≡ Some r)
IsGrounded call (Caller k) row =
    (r : ℕ) × (row ≡ Some r) × (by : Holding) × IsOuter call.depth by × (call.outside by r ≡ true)
IsGrounded call (Locked k) row = (r : ℕ) × (row ≡ Some r)

-- ---- the calls that are open

-- the function that the call runs
abbrev pub function_of_call : Activation → Function
function_of_call call = running call.program call.outer

-- the state in which a call waits that is made with these arguments, at a point with this state
abbrev pub left_by : OpenCall → List Argument → State → State
left_by o arguments s = after (Call o.to o.callee arguments o.otherwise) Fault s

-- A call that waits for the one that it has made: it is at a `call` of that function that some path reaches, and what
-- the state of the fault exit says is true of its variables. It has locked nothing, so it has borrowed no item.
pub record IsWaiting (call : Activation) (o : OpenCall) : Type 0 where
  pub state : State
  pub arguments : List Argument
  pub found : slice_get (function_of_call call).code o.at ≡ Some (Call o.to o.callee arguments o.otherwise)
  pub exits : List Exit
  pub arrived : path_end (function_of_call call) exits ≡ At o.at state
  pub known : call.program.states (number_of call.program call.outer) o.at ≡ Some state
  pub low : o.to < 16
  pub slots : length (left_by o arguments state).slots ≡ 16
  pub rows : length o.variables ≡ 16
  pub unlocked : state.locked ≡ None
  pub grounded : (v : ℕ) → IsGrounded call (var_of (left_by o arguments state) v) (row_of o.variables v)
  pub no_items : (v x : ℕ) → borrows_item (var_of (left_by o arguments state) v) ≡ true
      → row_of o.variables v ≡ Some x → ⊥
  -- the callee leaves room for the calls that it may make
  pub there : o.callee < length call.program.functions
  pub few : suc call.depth + depth_at call.program.functions o.callee ≤ depth_limit
  pub shallow : suc call.depth < depth_limit

-- The function that a thread calls from outside has no parameters.
pub record IsCallable (program : Program) : Type 0 where
  pub there : program.first < length program.functions
  pub plain : (running program []).parameters ≡ []

-- Each of the open calls waits for the one that it has made, and the outermost is of a function without parameters.
abbrev pub AreOpen : Program → List OpenCall → Type 0
AreOpen program [] = IsCallable program
AreOpen program (o ∷ outer) = IsWaiting (activation program outer) o × AreOpen program outer

-- The calls around the call are open, and few. Outside it the thread holds references by the variables of calls further
-- out.
pub record IsActivation (call : Activation) : Type 0 where
  pub open_calls : AreOpen call.program call.outer
  pub shallow : call.depth < depth_limit
  pub outer : (depth v object : ℕ) → call.outside (ByVariable depth v) object ≡ true → (depth < call.depth) × (v < 16)

-- Some path reaches the point in this state, and the state is true of the variables.
pub record IsInside (call : Activation) (at : ℕ) (variables : List (Option ℕ)) (s : State) : Type 0 where
  pub is_call : IsActivation call
  pub exits : List Exit
  pub arrived : path_end (function_of_call call) exits ≡ At at s
  pub slots : length s.slots ≡ 16
  pub rows : length variables ≡ 16
  pub grounded : (v : ℕ) → IsGrounded call (var_of s v) (row_of variables v)

-- ---- a variable changes

pub var_of-put_same : (s : State) (x : ℕ) (var : Slot) → x < length s.slots → var_of (put s x var) x ≡ var
var_of-put_same s x var h = get_or-set_same s.slots x var Empty h

pub var_of-put_other : (s : State) (x v : ℕ) (var : Slot) → v ≢ x → var_of (put s x var) v ≡ var_of s v
var_of-put_other s x v var ne = get_or-set_other s.slots x v var Empty ne

pub row_of-set_same : (rows : List (Option ℕ)) (x : ℕ) (row : Option ℕ) → x < length rows
    → row_of (slice_set rows x row) x ≡ row
row_of-set_same rows x row h = get_or-set_same rows x row None h

pub row_of-set_other : (rows : List (Option ℕ)) (x v : ℕ) (row : Option ℕ) → v ≢ x
    → row_of (slice_set rows x row) v ≡ row_of rows v
row_of-set_other rows x v row ne = get_or-set_other rows x v row None ne

pub grounded-put : (call : Activation) (s : State) (rows : List (Option ℕ)) (x : ℕ) (var : Slot) (row : Option ℕ)
    → x
    < length s.slots
    → x < length rows → IsGrounded call var row
    → ((v : ℕ) → IsGrounded call (var_of s v) (row_of rows v)) → (v : ℕ)
    → IsGrounded call (var_of (put s x var) v) (row_of (slice_set rows x row) v)
grounded-put call s rows x var row in_slots in_rows new old v =
    elim (eqb_tells v x) [
      | inl this ↦
          let P : ℕ → Type 0 = λ w. IsGrounded call (var_of (put s x var) w) (row_of (slice_set rows x row) w) in
          let there : IsGrounded call (var_of (put s x var) x) row =
          subst (λ (w : Slot). IsGrounded call w row) (sym (var_of-put_same s x var in_slots)) new in
          subst P (sym this.1) (subst (λ (w : Option ℕ). IsGrounded call (var_of (put s x var) x) w)
          (sym (row_of-set_same rows x row in_rows)) there)
      | inr other ↦
          let there : IsGrounded call (var_of (put s x var) v) (row_of rows v) =
          subst (λ (w : Slot). IsGrounded call w (row_of rows v)) (sym (var_of-put_other s x v var other.1)) (old v)
          in
          subst (λ (w : Option ℕ). IsGrounded call (var_of (put s x var) v) w)
          (sym (row_of-set_other rows x v row other.1)) there
    ]

-- ---- a variable's kind becomes known

kind_grounded : (call : Activation) (var : Slot) (k : Kind) (row : Option ℕ) → IsGrounded call var row
    → IsGrounded call (with_kind var k) row
kind_grounded call Empty k row grounded = tt
kind_grounded call (Owned old) k row grounded = grounded
kind_grounded call (Caller old) k row grounded = grounded
kind_grounded call (Locked old) k row grounded = grounded

pub grounded-with_kind : (call : Activation) (s : State) (rows : List (Option ℕ)) (x : ℕ) (k : Kind) → x
    < length s.slots
    → ((v : ℕ) → IsGrounded call (var_of s v) (row_of rows v)) → (v : ℕ)
    → IsGrounded call (var_of (put s x (with_kind (var_of s x) k)) v) (row_of rows v)
grounded-with_kind call s rows x k in_slots old v =
    let var = with_kind (var_of s x) k in
    elim (eqb_tells v x) [
      | inl this ↦
          let P : ℕ → Type 0 = λ w. IsGrounded call (var_of (put s x var) w) (row_of rows w) in
          subst P (sym this.1) (subst (λ (w : Slot). IsGrounded call w (row_of rows x))
          (sym (var_of-put_same s x var in_slots)) (kind_grounded call (var_of s x) k (row_of rows x) (old x)))
      | inr other ↦
          subst (λ (w : Slot). IsGrounded call w (row_of rows v)) (sym (var_of-put_other s x v var other.1)) (old v)
    ]

kind_owned : (var : Slot) (k : Kind) → is_owned (with_kind var k) ≡ is_owned var
kind_owned Empty k = refl
kind_owned _ k = cc

var-with_kind : (s : State) (x v : ℕ) (k : Kind) → x < length s.slots
    → is_owned (var_of (put s x (with_kind (var_of s x) k)) v) ≡ is_owned (var_of s v)
var-with_kind s x v k in_slots =
    let var = with_kind (var_of s x) k in
    elim (eqb_tells v x) [
      | inl this ↦
          subst (λ (w : ℕ). is_owned (var_of (put s x var) w) ≡ is_owned (var_of s w)) (sym this.1)
          (ap is_owned (var_of-put_same s x var in_slots) ∙ kind_owned (var_of s x) k)
      | inr other ↦ ap is_owned (var_of-put_other s x v var other.1)
    ]

-- Another kind for a variable doesn't change what the thread is to hold.
pub says-with_kind : (call : Activation) (s : State) (variables : List (Option ℕ)) (x : ℕ) (k : Kind) (h : Holding)
    (object : ℕ) → x < length s.slots
    → of_variables call s variables h object
    ≡ of_variables call (put s x (with_kind (var_of s x) k)) variables h object
says-with_kind call s variables x k AsCaller object in_slots = refl
says-with_kind call s variables x k InFlight object in_slots = refl
says-with_kind call s variables x k (ByVariable depth v) object in_slots =
    ap (λ (b : Bool). cond (depth == call.depth) (b && names (row_of variables v) object)
    (call.outside (ByVariable depth v) object)) (sym (var-with_kind s x v k in_slots))

-- ---- the variables that borrow from the locked list become empty

pub var_of-without : (s : State) (v : ℕ) → var_of (without_items s) v ≡ without_item (var_of s v)
var_of-without s v = get_or-map without_item s.slots v Empty

without_grounded : (call : Activation) (var : Slot) (row : Option ℕ) → IsGrounded call var row
    → IsGrounded call (without_item var) row
without_grounded call Empty row grounded = tt
without_grounded call (Owned k) row grounded = grounded
without_grounded call (Caller k) row grounded = grounded
without_grounded call (Locked k) row grounded = tt

-- What is true of the variables is true of them once those that borrowed from the locked list are empty.
pub grounded-without : (call : Activation) (s : State) (rows : List (Option ℕ))
    → ((v : ℕ) → IsGrounded call (var_of s v) (row_of rows v))
    → (v : ℕ) → IsGrounded call (var_of (without_items s) v) (row_of rows v)
grounded-without call s rows old v =
    subst (λ (var : Slot). IsGrounded call var (row_of rows v)) (sym (var_of-without s v))
    (without_grounded call (var_of s v) (row_of rows v) (old v))

without_owned : (var : Slot) → is_owned (without_item var) ≡ is_owned var
without_owned Empty = refl
without_owned _ = cc

-- A variable that borrows from the locked list owns nothing, so the thread is to hold what it held.
pub says-without : (call : Activation) (s : State) (variables : List (Option ℕ)) (h : Holding) (object : ℕ)
    → of_variables call s variables h object ≡ of_variables call (without_items s) variables h object
says-without call s variables AsCaller object = refl
says-without call s variables InFlight object = refl
says-without call s variables (ByVariable depth v) object =
    ap (λ (b : Bool). cond (depth == call.depth) (b && names (row_of variables v) object)
    (call.outside (ByVariable depth v) object))
    (sym (without_owned (var_of s v)) ∙ ap is_owned (sym (var_of-without s v)))

-- ---- what a variable's state says

-- A variable that owns a reference is one of the sixteen.
pub owned_low : (s : State) (v : ℕ) → length s.slots ≡ 16 → is_owned (var_of s v) ≡ true → v < 16
owned_low s v slots owned =
    elim (cases_lt v 16) [
      | inl lt ↦ lt
      | inr past ↦
          let empty : var_of s v ≡ Empty = get_or_past s.slots v Empty (omega (arith, slots, past)) in
          let no : false ≡ true = sym (ap is_owned empty) ∙ owned in
          absurd cc
    ]

-- A variable that isn't empty names a row.
pub named_row : (call : Activation) (var : Slot) (row : Option ℕ) → is_empty var ≡ false → IsGrounded call var row
    → (x : ℕ) × (row ≡ Some x)
named_row call Empty row some grounded = absurd cc
named_row call (Owned k) row some grounded = grounded
named_row call (Caller k) row some grounded = (grounded.0, grounded.1)
named_row call (Locked k) row some grounded = grounded

-- A variable's state that is neither empty nor borrowed owns its reference.
pub owned_var : (var : Slot) → is_empty var ≡ false → is_borrowed var ≡ false → is_owned var ≡ true
owned_var Empty e b = absurd cc
owned_var _ e b = cc

pub owned_row : (call : Activation) (var : Slot) (row : Option ℕ) → is_owned var ≡ true → IsGrounded call var row
    → (r : ℕ) × (row ≡ Some r)
owned_row call Empty row owned grounded = absurd cc
owned_row call (Owned k) row owned grounded = grounded
owned_row call (Caller k) row owned grounded = absurd cc
owned_row call (Locked k) row owned grounded = absurd cc

-- ---- calls that wait

-- The state in which a call waits is the one that the fault exit leaves.
pub waiting_is : (call : Activation) (o : OpenCall) → (waits : IsWaiting call o)
    → waiting_state call.program.functions call.program.states (number_of call.program call.outer) o
    ≡ Some (left_by o waits.arguments waits.state)
waiting_is call o waits =
    ap (λ (i : Option Instr). fault_state i (call.program.states (number_of call.program call.outer) o.at)) waits.found
    ∙ ap (fault_state (Some (Call o.to o.callee waits.arguments o.otherwise))) waits.known

-- Outside the call that it has made the thread holds what the waiting call holds, and what is outside that one.
pub outside_is : (program : Program) (outer : List OpenCall) (o : OpenCall)
    → (waits : IsWaiting (activation program outer) o)
    → outer_holds program (o ∷ outer)
    ≡ of_variables (activation program outer) (left_by o waits.arguments waits.state) o.variables
outside_is program outer o waits =
    ap (λ (s : Option State). of_state (activation program outer) s o.variables)
    (waiting_is (activation program outer) o waits)

-- What is held outside the call by a variable is so by one of the sixteen of a call further out.
outer_low : (program : Program) (outer : List OpenCall) (depth v object : ℕ) → AreOpen program outer
    → outer_holds program outer (ByVariable depth v) object ≡ true → (depth < length outer) × (v < 16)
outer_low program [] depth v object opened held = absurd cc
outer_low program (o ∷ outer) depth v object opened held =
    let waits = opened.0 in
    let call = activation program outer in
    let s = left_by o waits.arguments waits.state in
    let by : of_variables call s o.variables (ByVariable depth v) object ≡ true =
    sym (ap (λ (holds : Holding → ℕ → Bool). holds (ByVariable depth v) object) (outside_is program outer o waits))
    ∙ held in
    elim (eqb_tells depth (length outer)) [
      | inl this ↦
          let own : (is_owned (var_of s v) && names (row_of o.variables v) object) ≡ true =
          sym (own_depth call s o.variables v object)
          ∙ subst (λ (d : ℕ). of_variables call s o.variables (ByVariable d v) object ≡ true) this.1 by in
          (omega (arith, this.1), owned_low s v waits.slots (and_first _ _ own))
      | inr apart ↦
          let low = outer_low program outer depth v object opened.1
          (sym (other_depth call s o.variables depth v object apart.0) ∙ by) in
          (omega (arith, low.0), low.1)
    ]

-- With these calls open there is room for one more.
few_open : (program : Program) (outer : List OpenCall) → AreOpen program outer → length outer < depth_limit
few_open program [] opened = omega arith
few_open program (o ∷ outer) opened = opened.0.shallow

-- A call around which these calls are open is one of few.
pub is_activation : (program : Program) (outer : List OpenCall) → AreOpen program outer
    → IsActivation (activation program outer)
is_activation program outer opened = record {
  open_calls = opened;
  shallow = few_open program outer opened;
  outer = λ depth v object held. outer_low program outer depth v object opened held;
}

-- The function of the innermost call is one of the module's.
pub number_there : (program : Program) (outer : List OpenCall) → AreOpen program outer
    → number_of program outer < length program.functions
number_there program [] opened = opened.there
number_there program (o ∷ outer) opened = opened.0.there

-- The calls are few, with those that the innermost one may make.
pub few_calls : (program : Program) (outer : List OpenCall) → IsSound program → AreOpen program outer
    → length outer + depth_at program.functions (number_of program outer) ≤ depth_limit
few_calls program [] sound opened =
    let few = sound.calls_few program.first opened.there in omega (arith, few)
few_calls program (o ∷ outer) sound opened = opened.0.few

-- The function of the innermost call is accepted, and its code has instructions.
pub running_accepted : (program : Program) (outer : List OpenCall) → IsSound program → AreOpen program outer
    → IsAcceptableFunction (running program outer)
running_accepted program outer sound opened =
    sound.accepted (number_of program outer) (number_there program outer opened)

pub running_instructions : (program : Program) (outer : List OpenCall) → IsSound program → AreOpen program outer
    → AreInstructions (running program outer).code
running_instructions program outer sound opened =
    sound.instructions (number_of program outer) (number_there program outer opened)

-- ---- the beginning of an outermost call

entry_grounded : (program : Program) (v : ℕ)
    → IsGrounded (activation program []) (var_of (entry_of []) v) (row_of entry_variables v)
entry_grounded program zero = (root_row, refl, AsCaller, tt, refl)
entry_grounded program (suc v) =
    subst (λ (var : Slot). IsGrounded (activation program []) var (row_of entry_variables (suc v)))
    (sym (get_or-replicate_default 15 v Empty)) tt

entry_owns_none : (v : ℕ) → is_owned (var_of (entry_of []) v) ≡ false
entry_owns_none zero = refl
entry_owns_none (suc v) = ap is_owned (get_or-replicate_default 15 v Empty)

-- At the beginning of an outermost call a thread holds the root alone.
pub entry_holds : (bag : List Reference) (t : ℕ) (program : Program) → Holds bag t the_root
    → Holds bag t (of_variables (activation program []) (entry_of []) entry_variables)
entry_holds bag t program holds = record {
  each = λ h object.
      holds.each h object
      ∙ ap one_if (sym (owning_none (activation program []) (entry_of []) entry_variables entry_owns_none (λ v o. refl)
      (λ o. refl) h object));
}

pub entry_in_call : (program : Program) → IsCallable program
    → IsInside (activation program []) 0 entry_variables (entry_of [])
entry_in_call program callable = record {
  is_call = is_activation program [] callable;
  exits = [];
  arrived = ap (λ (ps : List Parameter). At 0 (entry_of ps)) callable.plain;
  slots = refl;
  rows = refl;
  grounded = entry_grounded program;
}
