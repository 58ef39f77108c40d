-- The account of a thread of accepted code is the one that its place gives, and its place says whether its exit is
-- under way. The step world has this layer of the invariant on top of what holds of any thread.
use Rattle.std.proofs.Common.{◌≡◌, ◌≢◌, ℕ, zero, suc, ◌<◌, ◌≤◌, inl, inr, Bool, true, false, List, [], Option, length, refl, sym, ap, subst, arith, None, Some, ◌∙◌}
use Rattle.std.specs.Prelude.{◌==◌, ◌&&◌, ◌||◌, is_some, slice_get, sum_by}
use Rattle.std.proofs.lemmas.Bool.{ne_eqb}
use Rattle.std.proofs.lemmas.Bool.Decides.{eqb_tells}
use Rattle.std.proofs.lemmas.List.{get_or_past}
use Rattle.brc_model.specs.declared.state.Slot.TheVariants.{Empty}
use Rattle.brc_model.specs.SlotStates.{var_of, is_owned, names}
use Rattle.brc_model.specs.Threads.{row_of}
use Rattle.brc_lang.specs.declared.module.Instr.{Instr}
use Rattle.brc_model.specs.declared.state.State.{State}
use Rattle.brc_model.specs.declared.duty.Holding.{Holding}
use Rattle.brc_model.specs.declared.duty.Holding.TheVariants.{ByVariable, AsCaller}
use Rattle.brc_model.specs.AbstractState.{Reference}
use Rattle.brc_model.specs.declared.duty.Duty.{Duty}
use Rattle.brc_model.specs.declared.actor.Place.{Place}
use Rattle.brc_model.specs.declared.actor.Place.TheVariants.{Idle, InCall, Inside, Stopping, Exiting}
use Rattle.brc_model.specs.declared.actor.Stage.{Stage}
use Rattle.brc_model.specs.declared.actor.Stage.TheVariants.{InRange, OutOfRange, Found, Retained, Loaded, Lent, Called, Granted}
use Rattle.brc_lang.specs.declared.module.Instr.TheVariants.{Borrow, Fetch, Set, Put, Open, Connect, Read, Write}
use Rattle.brc_model.specs.Actions.{StepActor, holds_some}
use Rattle.brc_model.specs.References.{one_if}
use Rattle.brc_model.specs.Accounts.{Account, HoldsNone, IsBounded, lacks_of, extra_of}
use Rattle.brc_model.specs.OpenWork.{exits}
use Rattle.brc_model.proofs.Dispatch.Stopped.{of_stopped, IsStopped, stopped_bounded}
use Rattle.brc_model.proofs.Dispatch.Holds.{once_each, nothing, the_root, Activation, call_of, of_variables, of_inside, own_depth, other_depth}
use Rattle.brc_model.proofs.Dispatch.AtOnce.{at_once}
use Rattle.brc_model.proofs.Dispatch.Lending.{lent_at}
use Rattle.brc_model.proofs.Dispatch.Guards.{LocksAgree}
use Rattle.brc_model.proofs.Dispatch.Grounded.{IsInside, IsActivation, IsCallable}
use Rattle.brc_model.proofs.Frame.Aside.{HoldsAlone}
use Rattle.brc_model.proofs.Basics.Bag.{one_if_low}
use Rattle.brc_model.specs.declared.layout.Layout.{Layout}
use Rattle.brc_model.specs.Layout.{root_row}
use Rattle.brc_model.specs.Limits.{depth_limit}
use Rattle.brc_model.proofs.Dispatch.Programs.{Program, code_in}

-- Says whether a thread can be so far inside the instruction.
abbrev pub has_stage : Option Instr → Stage → Bool
has_stage (Some (Borrow to list index otherwise)) InRange = true
has_stage (Some (Fetch to list index otherwise)) InRange = true
has_stage (Some (Fetch to list index otherwise)) (Found item) = true
has_stage (Some (Set list index from otherwise)) InRange = true
has_stage (Some (Set list index from otherwise)) OutOfRange = true
has_stage (Some (Put list index from otherwise)) InRange = true
has_stage (Some (Put list index from otherwise)) Retained = true
has_stage (Some (Open to path mode otherwise)) Granted = true
has_stage (Some (Connect to peer otherwise)) Granted = true
has_stage (Some (Read to file most otherwise)) Lent = true
has_stage (Some (Read to file most otherwise)) (Called exit) = true
has_stage (Some (Read to file most otherwise)) Granted = true
has_stage (Some (Write file number otherwise)) Loaded = true
has_stage (Some (Write file number otherwise)) Lent = true
has_stage (Some (Write file number otherwise)) (Called exit) = true
has_stage i stage = false

-- The row to which a thread so far inside the instruction has a reference in flight: `put` makes one for the cell.
abbrev pub in_flight : Option Instr → Stage → List (Option ℕ) → Option ℕ
in_flight (Some (Put list index from otherwise)) Retained variables = row_of variables from
in_flight i stage variables = None

-- A thread that has calls left calls a function without parameters.
abbrev pub HasCalls : Program → ℕ → Type 0
HasCalls program zero = Unit {0}
HasCalls program (suc left) = IsCallable program

-- A thread whose function has no parameters may call it once more.
pub has_calls : (program : Program) (left : ℕ) → IsCallable program → HasCalls program left
has_calls program zero callable = tt
has_calls program (suc left) callable = callable

-- What the place says of the row that the thread has locked, and the account that it gives the thread, which the thread
-- has once its agenda is done.
abbrev pub PlaceSays : Program → Place → Option ℕ → Account → Type 0
PlaceSays program (Idle left) locked account =
    (locked ≡ None) × (account ≡ once_each the_root) × HasCalls program left
PlaceSays program (InCall context at variables) locked account =
    (s : State) × IsInside (call_of program context) at variables s × LocksAgree s variables locked
    × (account ≡ once_each (of_variables (call_of program context) s variables))
PlaceSays program (Inside context at variables stage) locked account =
    (s : State) × IsInside (call_of program context) at variables s × LocksAgree s variables locked
    × (account
    ≡ once_each (of_inside (call_of program context) (in_flight (slice_get (code_in program context) at) stage
    variables) s variables))
    × (has_stage (slice_get (code_in program context) at) stage ≡ true)
PlaceSays program (Stopping lock calls) locked account =
    (locked ≡ lock) × IsStopped lock calls × ((is_some lock || holds_some calls) ≡ true)
    × (account ≡ once_each (of_stopped calls))
PlaceSays program Exiting locked account = (locked ≡ None) × (account ≡ once_each nothing)

-- Says whether the place is that of a thread whose exit is under way or done.
abbrev pub is_departing : Place → Bool
is_departing (Idle left) = false
is_departing (InCall context at variables) = false
is_departing (Inside context at variables stage) = false
is_departing (Stopping lock calls) = false
is_departing Exiting = true

pub departing_is : (place : Place) → is_departing place ≡ true → place ≡ Exiting
departing_is (Idle left) e = absurd cc
departing_is _ e = cc

pub stays_elsewhere : (place : Place) → place ≢ Exiting → is_departing place ≡ false
stays_elsewhere Exiting stays = absurd (stays refl)
stays_elsewhere _ stays = cc

pub record InCode (program : Program) (a : StepActor) (account : Account) : Type 0 where
  -- Code does one piece of work at a time.
  pub alone : a.actor.aside ≡ []
  -- A lock, an unlock, a swap of a cell, and lending or returning a resource are one step each, so no agenda has one.
  pub plain : sum_by at_once a.actor.agenda ≡ 0
  pub says : PlaceSays program a.place a.actor.locked account
  pub departs : exits a.actor.status a.actor.agenda ≡ is_departing a.place
  -- The place says what the thread has lent.
  pub lent : a.actor.lent ≡ lent_at program a.place

-- ---- what the thread holds

alone_with : (bag : List Reference) (t : ℕ) (account : Account) (agenda : List Duty)
    → ((k : Holding) (object : ℕ) → lacks_of agenda k object ≡ false)
    → ((k : Holding) (object : ℕ) → extra_of agenda k object ≡ false)
    → HoldsAlone bag t account [] → HoldsAlone bag t account agenda
alone_with bag t account agenda lacks extra holds = record {
  each = λ k object.
      omega (arith, holds.each k object, ap one_if (lacks k object), ap one_if (extra k object));
}

-- The place is true of the thread's lock, and the bag has just the references that the place gives the thread, but for
-- what the first duty makes or gives up.
abbrev pub PlaceFits : Program → List Reference → ℕ → List Duty → Option ℕ → Place → Type 0
PlaceFits program bag t agenda locked (Idle left) =
    (locked ≡ None) × HoldsAlone bag t (once_each the_root) agenda × HasCalls program left
PlaceFits program bag t agenda locked (InCall context at variables) =
    (s : State) × IsInside (call_of program context) at variables s × LocksAgree s variables locked
    × HoldsAlone bag t (once_each (of_variables (call_of program context) s variables)) agenda
PlaceFits program bag t agenda locked (Inside context at variables stage) =
    (s : State) × IsInside (call_of program context) at variables s × LocksAgree s variables locked
    × HoldsAlone bag t
    (once_each (of_inside (call_of program context) (in_flight (slice_get (code_in program context) at) stage variables)
    s variables)) agenda
    × (has_stage (slice_get (code_in program context) at) stage ≡ true)
PlaceFits program bag t agenda locked (Stopping lock calls) =
    (locked ≡ lock) × IsStopped lock calls × ((is_some lock || holds_some calls) ≡ true)
    × HoldsAlone bag t (once_each (of_stopped calls)) agenda
PlaceFits program bag t agenda locked Exiting = (locked ≡ None) × HoldsAlone bag t (once_each nothing) agenda

pub place_fits : (program : Program) (bag : List Reference) (t : ℕ) (agenda : List Duty) (locked : Option ℕ)
    (place : Place) (account : Account)
    → PlaceSays program place locked account → HoldsAlone bag t account agenda
    → PlaceFits program bag t agenda locked place
place_fits program bag t agenda locked (Idle left) account says holds =
    (says.0, subst (λ (c : Account). HoldsAlone bag t c agenda) says.1 holds, says.2)
place_fits program bag t agenda locked (InCall context at variables) account says holds =
    (says.0, says.1, says.2, subst (λ (c : Account). HoldsAlone bag t c agenda) says.3 holds)
place_fits program bag t agenda locked (Inside context at variables stage) account says holds =
    (says.0, says.1, says.2, subst (λ (c : Account). HoldsAlone bag t c agenda) says.3 holds, says.4)
place_fits program bag t agenda locked (Stopping lock calls) account says holds =
    (says.0, says.1, says.2, subst (λ (c : Account). HoldsAlone bag t c agenda) says.3 holds)
place_fits program bag t agenda locked Exiting account says holds =
    (says.0, subst (λ (c : Account). HoldsAlone bag t c agenda) says.1 holds)

-- The account that the place gives, with the bag that it fits.
pub record Placed (program : Program) (bag : List Reference) (t : ℕ) (agenda : List Duty) (locked : Option ℕ)
    (place : Place) : Type 0 where
  pub account : Account
  pub says : PlaceSays program place locked account
  pub holds : HoldsAlone bag t account agenda

pub placed_by : (program : Program) (bag : List Reference) (t : ℕ) (agenda : List Duty) (locked : Option ℕ)
    (place : Place)
    → PlaceFits program bag t agenda locked place → Placed program bag t agenda locked place
placed_by program bag t agenda locked (Idle left) fits =
    record { account = once_each the_root; says = (fits.0, refl, fits.2); holds = fits.1 }
placed_by program bag t agenda locked (InCall context at variables) fits =
    record {
      account = once_each (of_variables (call_of program context) fits.0 variables);
      says = (fits.0, fits.1, fits.2, refl);
      holds = fits.3;
    }
placed_by program bag t agenda locked (Inside context at variables stage) fits =
    record {
      account =
          once_each (of_inside (call_of program context) (in_flight (slice_get (code_in program context) at) stage
          variables) fits.0 variables);
      says = (fits.0, fits.1, fits.2, refl, fits.4);
      holds = fits.3;
    }
placed_by program bag t agenda locked (Stopping lock calls) fits = record {
  account = once_each (of_stopped calls);
  says = (fits.0, fits.1, fits.2, refl);
  holds = fits.3;
}
placed_by program bag t agenda locked Exiting fits =
    record { account = once_each nothing; says = (fits.0, refl); holds = fits.1 }

-- A place that fits a thread at rest fits it with a duty that neither makes nor gives up a reference.
pub fits_with : (program : Program) (bag : List Reference) (t : ℕ) (agenda : List Duty) (locked : Option ℕ)
    (place : Place)
    → ((k : Holding) (object : ℕ) → lacks_of agenda k object ≡ false)
    → ((k : Holding) (object : ℕ) → extra_of agenda k object ≡ false)
    → PlaceFits program bag t [] locked place → PlaceFits program bag t agenda locked place
fits_with program bag t agenda locked (Idle left) lacks extra fits =
    (fits.0, alone_with bag t (once_each the_root) agenda lacks extra fits.1, fits.2)
fits_with program bag t agenda locked (InCall context at variables) lacks extra fits =
    let holds = once_each (of_variables (call_of program context) fits.0 variables) in
    (fits.0, fits.1, fits.2, alone_with bag t holds agenda lacks extra fits.3)
fits_with program bag t agenda locked (Inside context at variables stage) lacks extra fits =
    let holds =
    once_each (of_inside (call_of program context) (in_flight (slice_get (code_in program context) at) stage variables)
    fits.0 variables) in
    (fits.0, fits.1, fits.2, alone_with bag t holds agenda lacks extra fits.3, fits.4)
fits_with program bag t agenda locked (Stopping lock calls) lacks extra fits =
    (fits.0, fits.1, fits.2, alone_with bag t (once_each (of_stopped calls)) agenda lacks extra fits.3)
fits_with program bag t agenda locked Exiting lacks extra fits =
    (fits.0, alone_with bag t (once_each nothing) agenda lacks extra fits.1)

-- A thread whose exit is under way holds nothing.
pub exited_none : (program : Program) (place : Place) (locked : Option ℕ) (account : Account)
    → PlaceSays program place locked account
    → place ≡ Exiting → HoldsNone account
exited_none program Exiting locked account says e k object = ap (λ (c : Account). c k object) says.1
exited_none program _ locked account says e k object = cc

-- A thread outside its calls has locked nothing.
pub idle_unlocked : (program : Program) (left : ℕ) (place : Place) (locked : Option ℕ) (account : Account)
    → PlaceSays program place locked account → place ≡ Idle left → locked ≡ None
idle_unlocked program left (Idle other) locked account says e = says.0
idle_unlocked program left Exiting locked account says e = says.0
idle_unlocked program left _ locked account says e = cc

-- ---- how much the thread holds

pub root_bounded : (layout : Layout) → IsBounded layout (once_each the_root)
root_bounded layout = record {
  by_variable = λ depth v object. omega arith;
  sixteen = λ depth v object past. refl;
  shallow = λ depth v object deep. refl;
  lent = λ object counted. omega (arith, one_if_low (object == root_row));
  in_flight = λ object. omega arith;
}

nothing_bounded : (layout : Layout) → IsBounded layout (once_each nothing)
nothing_bounded layout = record {
  by_variable = λ depth v object. omega arith;
  sixteen = λ depth v object past. refl;
  shallow = λ depth v object deep. refl;
  lent = λ object counted. omega arith;
  in_flight = λ object. omega arith;
}

-- A variable past the sixteenth owns nothing.
past_owns_none : (s : State) (v : ℕ) → length s.slots ≡ 16 → 16 ≤ v → is_owned (var_of s v) ≡ false
past_owns_none s v slots past = ap is_owned (get_or_past s.slots v Empty (omega (arith, slots, past)))

-- Outside the call the thread holds nothing by a variable that isn't one of the sixteen of a call further out.
outside_none : (call : Activation) (depth v object : ℕ) → IsActivation call
    → ((depth < call.depth) × (v < 16) → ⊥) → call.outside (ByVariable depth v) object ≡ false
outside_none call depth v object is none =
    elim (call.outside (ByVariable depth v) object) as
    (λ b. call.outside (ByVariable depth v) object ≡ b → call.outside (ByVariable depth v) object ≡ false) [
      | true ↦ λ held. absurd (none (is.outer depth v object held))
      | false ↦ λ held. held
    ] refl

-- A variable past the sixteenth holds nothing, and neither does one of a call that is too deep.
past_holds_none : (call : Activation) (s : State) (variables : List (Option ℕ)) (depth v object : ℕ)
    → IsActivation call → length s.slots ≡ 16 → 16 ≤ v
    → of_variables call s variables (ByVariable depth v) object ≡ false
past_holds_none call s variables depth v object is slots past =
    elim (eqb_tells depth call.depth) [
      | inl this ↦
          subst (λ (d : ℕ). of_variables call s variables (ByVariable d v) object ≡ false) (sym this.1)
          (own_depth call s variables v object
          ∙ ap (λ (b : Bool). b && names (row_of variables v) object) (past_owns_none s v slots past))
      | inr apart ↦
          other_depth call s variables depth v object apart.0
          ∙ outside_none call depth v object is (λ low. omega (arith, low.1, past))
    ]

deep_holds_none : (call : Activation) (s : State) (variables : List (Option ℕ)) (depth v object : ℕ)
    → IsActivation call → depth_limit ≤ depth
    → of_variables call s variables (ByVariable depth v) object ≡ false
deep_holds_none call s variables depth v object is deep =
    other_depth call s variables depth v object
    (ne_eqb depth call.depth (λ e. absurd (omega (arith, e, deep, is.shallow))))
    ∙ outside_none call depth v object is (λ low. omega (arith, low.0, deep, is.shallow))

variables_bounded : (layout : Layout) (call : Activation) (s : State) (variables : List (Option ℕ))
    → IsActivation call → length s.slots ≡ 16
    → IsBounded layout (once_each (of_variables call s variables))
variables_bounded layout call s variables is slots = record {
  by_variable = λ depth v object. one_if_low (of_variables call s variables (ByVariable depth v) object);
  sixteen = λ depth v object past. ap one_if (past_holds_none call s variables depth v object is slots past);
  shallow = λ depth v object deep. ap one_if (deep_holds_none call s variables depth v object is deep);
  lent = λ object counted. omega (arith, one_if_low (call.outside AsCaller object));
  in_flight = λ object. omega arith;
}

inside_bounded : (layout : Layout) (call : Activation) (flight : Option ℕ) (s : State) (variables : List (Option ℕ))
    → IsActivation call → length s.slots ≡ 16
    → IsBounded layout (once_each (of_inside call flight s variables))
inside_bounded layout call flight s variables is slots = record {
  by_variable = λ depth v object. one_if_low (of_variables call s variables (ByVariable depth v) object);
  sixteen = λ depth v object past. ap one_if (past_holds_none call s variables depth v object is slots past);
  shallow = λ depth v object deep. ap one_if (deep_holds_none call s variables depth v object is deep);
  lent = λ object counted. omega (arith, one_if_low (call.outside AsCaller object));
  in_flight = λ object. one_if_low (names flight object);
}

pub says_bounded : (layout : Layout) (program : Program) (place : Place) (locked : Option ℕ) (account : Account)
    → PlaceSays program place locked account → IsBounded layout account
says_bounded layout program (Idle left) locked account says =
    subst (IsBounded layout) (sym says.1) (root_bounded layout)
says_bounded layout program (InCall context at variables) locked account says =
    subst (IsBounded layout) (sym says.3) (variables_bounded layout (call_of program context) says.0 variables
    says.1.is_call says.1.slots)
says_bounded layout program (Inside context at variables stage) locked account says =
    let flight = in_flight (slice_get (code_in program context) at) stage variables in
    subst (IsBounded layout) (sym says.3)
    (inside_bounded layout (call_of program context) flight says.0 variables says.1.is_call says.1.slots)
says_bounded layout program (Stopping lock calls) locked account says =
    subst (IsBounded layout) (sym says.3) (stopped_bounded layout lock calls says.1)
says_bounded layout program Exiting locked account says =
    subst (IsBounded layout) (sym says.1) (nothing_bounded layout)
