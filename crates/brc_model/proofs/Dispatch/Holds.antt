-- What a thread holds by its place, each reference once: in a call what the variables name that own a reference in the
-- path's state, and beside it what the calls further out hold; the root as the caller that lends it.
use Rattle.std.proofs.Common.{◌≡◌, ℕ, ◌<◌, ◌≤◌, Bool, true, false, List, [], ◌∷◌, length, Option, None, Some, cond, inl, inr, refl, sym, ap, ◌∙◌, subst, arith}
use Rattle.std.specs.Prelude.{◌==◌, ◌&&◌, if◌then◌else◌}
use Rattle.std.specs.List.{list_any}
use Rattle.std.proofs.lemmas.Bool.{eq-eqb, ne_eqb}
use Rattle.std.proofs.lemmas.Bool.Decides.{eqb_tells}
use Rattle.brc_model.specs.declared.state.Slot.TheVariants.{Empty}
use Rattle.brc_model.specs.declared.state.State.{State}
use Rattle.brc_model.specs.SlotStates.{var_of, is_owned, names}
use Rattle.brc_model.specs.declared.actor.Context.{Context}
use Rattle.brc_model.specs.declared.actor.OpenCall.{OpenCall}
use Rattle.brc_model.specs.declared.duty.Holding.{Holding}
use Rattle.brc_model.specs.declared.duty.Holding.TheVariants.{ByVariable, AsCaller, InFlight}
use Rattle.brc_model.specs.AbstractState.{Reference}
use Rattle.brc_model.specs.Actions.{waiting_state}
use Rattle.brc_model.specs.Threads.{row_of}
use Rattle.brc_model.proofs.Basics.Lists.{none_at}
use Rattle.brc_model.proofs.Dispatch.Programs.{Program, number_of}
use Rattle.brc_model.specs.References.{held, one_if, reference_of}
use Rattle.brc_model.specs.Accounts.{Account}
use Rattle.brc_model.specs.Layout.{root_row}

abbrev pub nothing : Holding → ℕ → Bool
nothing h object = false

abbrev pub the_root : Holding → ℕ → Bool
the_root (ByVariable depth v) object = false
the_root AsCaller object = object == root_row
the_root InFlight object = false

-- The account of a thread that holds just these references, each once.
abbrev pub once_each : (Holding → ℕ → Bool) → Account
once_each holds k object = one_if (holds k object)

-- ---- a call

-- A call, as its own instructions see it: the program, the calls that are open around it, how many these are, and what
-- the thread holds outside it, by the variables of the calls further out and as the caller of the outermost.
pub record Activation : Type 0 where
  pub program : Program
  pub outer : List OpenCall
  pub depth : ℕ
  pub outside : Holding → ℕ → Bool

-- The references of a thread in a call: what its owning variables name, and what the thread holds outside the call.
abbrev pub of_variables : Activation → State → List (Option ℕ) → Holding → ℕ → Bool
of_variables call s variables (ByVariable depth v) object =
    if depth == call.depth then is_owned (var_of s v) && names (row_of variables v) object
    else call.outside (ByVariable depth v) object
of_variables call s variables AsCaller object = call.outside AsCaller object
of_variables call s variables InFlight object = false

-- The same of a call whose point may have no state: without one its variables hold nothing.
abbrev pub of_state : Activation → Option State → List (Option ℕ) → Holding → ℕ → Bool
of_state call None variables = call.outside
of_state call (Some s) variables = of_variables call s variables

-- What a thread holds outside a call with these calls open around it: by the variables of each what its state owns
-- while it waits, and the root as the caller of the outermost.
abbrev pub outer_holds : Program → List OpenCall → Holding → ℕ → Bool
outer_holds program [] = the_root
outer_holds program (o ∷ outer) =
    of_state (record {
      program = program;
      outer = outer;
      depth = length outer;
      outside = outer_holds program outer;
    }) (waiting_state program.functions program.states (number_of program outer) o) o.variables

-- a call around which these calls are open
abbrev pub activation : Program → List OpenCall → Activation
activation program outer =
    record { program = program; outer = outer; depth = length outer; outside = outer_holds program outer }

-- the innermost call of a thread, in this context
abbrev pub call_of : Program → Context → Activation
call_of program context = activation program context.outer

-- Not by a variable of the call itself, but by one of a call further out, or as the caller.
abbrev pub IsOuter : ℕ → Holding → Type 0
IsOuter depth (ByVariable other v) = other < depth
IsOuter depth AsCaller = Unit {0}
IsOuter depth InFlight = ⊥

-- The references of a thread in a call that has one more in flight, or none: inside an instruction it may have made a
-- reference for a cell.
abbrev pub of_inside : Activation → Option ℕ → State → List (Option ℕ) → Holding → ℕ → Bool
of_inside call flight s variables (ByVariable depth v) object =
    of_variables call s variables (ByVariable depth v) object
of_inside call flight s variables AsCaller object = call.outside AsCaller object
of_inside call flight s variables InFlight object = names flight object

-- The thread holds just these references, each once.
pub record Holds (bag : List Reference) (t : ℕ) (holds : Holding → ℕ → Bool) : Type 0 where
  pub each : (h : Holding) (object : ℕ) → held (reference_of t h object) bag ≡ one_if (holds h object)

-- With nothing in flight they are those of its variables.
pub inside_none : (call : Activation) (s : State) (variables : List (Option ℕ)) (h : Holding) (object : ℕ)
    → of_inside call None s variables h object ≡ of_variables call s variables h object
inside_none call s variables (ByVariable depth v) object = refl
inside_none call s variables AsCaller object = refl
inside_none call s variables InFlight object = refl

-- ---- by the call's own variables, and by those of other calls

-- At its own depth a call holds what its owning variables name.
pub own_depth : (call : Activation) (s : State) (variables : List (Option ℕ)) (v object : ℕ)
    → of_variables call s variables (ByVariable call.depth v) object
    ≡ (is_owned (var_of s v) && names (row_of variables v) object)
own_depth call s variables v object =
    ap (λ (b : Bool). cond b (is_owned (var_of s v) && names (row_of variables v) object)
    (call.outside (ByVariable call.depth v) object)) (eq-eqb call.depth call.depth refl)

-- At another depth the thread holds what it holds outside the call.
pub other_depth : (call : Activation) (s : State) (variables : List (Option ℕ)) (depth v object : ℕ)
    → (depth == call.depth) ≡ false
    → of_variables call s variables (ByVariable depth v) object ≡ call.outside (ByVariable depth v) object
other_depth call s variables depth v object apart =
    ap (λ (b : Bool). cond b (is_owned (var_of s v) && names (row_of variables v) object)
    (call.outside (ByVariable depth v) object)) apart

-- What holds by the call's own variables, and by those of all other depths, holds by any variable.
pub by_depth : (call : Activation) (P : Holding → Type 0) → ((v : ℕ) → P (ByVariable call.depth v))
    → ((depth v : ℕ) → (depth == call.depth) ≡ false → P (ByVariable depth v))
    → (depth v : ℕ) → P (ByVariable depth v)
by_depth call P own other depth v = elim (eqb_tells depth call.depth) [
  | inl this ↦ subst (λ (d : ℕ). P (ByVariable d v)) (sym this.1) (own v)
  | inr apart ↦ other depth v apart.0
]

pub further_holds : (call : Activation) (s : State) (variables : List (Option ℕ)) (by : Holding) (object : ℕ)
    → IsOuter call.depth by → of_variables call s variables by object ≡ call.outside by object
further_holds call s variables (ByVariable depth v) object outer =
    other_depth call s variables depth v object (ne_eqb depth call.depth (λ e. absurd (omega (arith, e, outer))))
further_holds call s variables AsCaller object outer = refl
further_holds call s variables InFlight object outer = absurd outer

-- ---- single references

-- What the thread holds by the call's variables and outside the call, whatever it has in flight.
pub record HoldsVariables (bag : List Reference) (t : ℕ) (call : Activation) (s : State) (rows : List (Option ℕ))
    : Type 0 where
  pub by_variable : (v object : ℕ) → held (reference_of t (ByVariable call.depth v) object) bag
      ≡ one_if (is_owned (var_of s v) && names (row_of rows v) object)
  pub outside : (by : Holding) (object : ℕ) → IsOuter call.depth by
      → held (reference_of t by object) bag ≡ one_if (call.outside by object)

pub holds_variables : (bag : List Reference) (t : ℕ) (call : Activation) (s : State) (rows : List (Option ℕ))
    → Holds bag t (of_variables call s rows) → HoldsVariables bag t call s rows
holds_variables bag t call s rows holds = record {
  by_variable = λ v object.
      holds.each (ByVariable call.depth v) object ∙ ap one_if (own_depth call s rows v object);
  outside = λ by object outer. holds.each by object ∙ ap one_if (further_holds call s rows by object outer);
}

inside_outer : (call : Activation) (flight : Option ℕ) (s : State) (rows : List (Option ℕ)) (by : Holding)
    (object : ℕ) → IsOuter call.depth by
    → of_inside call flight s rows by object ≡ of_variables call s rows by object
inside_outer call flight s rows (ByVariable depth v) object outer = refl
inside_outer call flight s rows AsCaller object outer = refl
inside_outer call flight s rows InFlight object outer = absurd outer

pub holds_inside : (bag : List Reference) (t : ℕ) (call : Activation) (flight : Option ℕ) (s : State)
    (rows : List (Option ℕ))
    → Holds bag t (of_inside call flight s rows) → HoldsVariables bag t call s rows
holds_inside bag t call flight s rows holds = record {
  by_variable = λ v object.
      holds.each (ByVariable call.depth v) object ∙ ap one_if (own_depth call s rows v object);
  outside = λ by object outer.
      holds.each by object ∙ ap one_if (inside_outer call flight s rows by object outer)
      ∙ ap one_if (further_holds call s rows by object outer);
}

pub variable_has : (bag : List Reference) (t : ℕ) (call : Activation) (s : State) (rows : List (Option ℕ))
    (from row : ℕ) → is_owned (var_of s from) ≡ true → row_of rows from ≡ Some row
    → HoldsVariables bag t call s rows → held (reference_of t (ByVariable call.depth from) row) bag ≡ 1
variable_has bag t call s rows from row owned is holds =
    holds.by_variable from row ∙ ap (λ (b : Bool). one_if (b && names (row_of rows from) row)) owned
    ∙ ap (λ (o : Option ℕ). one_if (names o row)) is ∙ ap one_if (eq-eqb row row refl)

pub owned_has : (bag : List Reference) (t : ℕ) (call : Activation) (s : State) (rows : List (Option ℕ))
    (from row : ℕ) → is_owned (var_of s from) ≡ true → row_of rows from ≡ Some row
    → Holds bag t (of_variables call s rows) → held (reference_of t (ByVariable call.depth from) row) bag ≡ 1
owned_has bag t call s rows from row owned is holds =
    variable_has bag t call s rows from row owned is (holds_variables bag t call s rows holds)

-- ---- the end of a call

-- If no variable owns a reference, the thread holds what it holds outside the call.
pub owning_none : (call : Activation) (s : State) (rows : List (Option ℕ))
    → ((v : ℕ) → is_owned (var_of s v) ≡ false) → ((v object : ℕ) → call.outside (ByVariable call.depth v) object
    ≡ false)
    → ((object : ℕ) → call.outside InFlight object ≡ false)
    → (h : Holding) (object : ℕ) → of_variables call s rows h object ≡ call.outside h object
owning_none call s rows none own flight AsCaller object = refl
owning_none call s rows none own flight InFlight object = sym (flight object)
owning_none call s rows none own flight (ByVariable depth v) object =
    by_depth call (λ h. of_variables call s rows h object ≡ call.outside h object)
    (λ w.
    own_depth call s rows w object ∙ ap (λ (b : Bool). b && names (row_of rows w) object) (none w)
    ∙ sym (own w object))
    (λ d w apart. other_depth call s rows d w object apart)
    depth v

-- Outside its calls a thread has nothing in flight.
pub none_in_flight : (program : Program) (outer : List OpenCall) (object : ℕ)
    → outer_holds program outer InFlight object ≡ false
none_in_flight program [] object = refl
none_in_flight program (o ∷ outer) object =
    elim (waiting_state program.functions program.states (number_of program outer) o) as
    (λ w. of_state (activation program outer) w o.variables InFlight object ≡ false) [
      | None ↦ none_in_flight program outer object
      | Some s ↦ refl
    ]

-- However many calls are open, the thread holds the root as the caller of the outermost.
pub as_caller : (program : Program) (outer : List OpenCall) (object : ℕ)
    → outer_holds program outer AsCaller object ≡ (object == root_row)
as_caller program [] object = refl
as_caller program (o ∷ outer) object =
    elim (waiting_state program.functions program.states (number_of program outer) o) as
    (λ w. of_state (activation program outer) w o.variables AsCaller object ≡ (object == root_row)) [
      | None ↦ as_caller program outer object
      | Some s ↦ as_caller program outer object
    ]

-- By the variables of calls that are as deep as these are many the thread holds nothing outside them.
pub none_as_deep : (program : Program) (outer : List OpenCall) (depth v object : ℕ) → length outer ≤ depth
    → outer_holds program outer (ByVariable depth v) object ≡ false
none_as_deep program [] depth v object deep = refl
none_as_deep program (o ∷ outer) depth v object deep =
    let further = none_as_deep program outer depth v object (omega (arith, deep)) in
    elim (waiting_state program.functions program.states (number_of program outer) o) as
    (λ w. of_state (activation program outer) w o.variables (ByVariable depth v) object ≡ false) [
      | None ↦ further
      | Some s ↦
          other_depth (activation program outer) s o.variables depth v object
          (ne_eqb depth (length outer) (λ e. absurd (omega (arith, e, deep)))) ∙ further
    ]

-- If no variable owns a reference, as at the end of a call, the thread holds what it holds outside the call.
pub ended_says : (program : Program) (outer : List OpenCall) (s : State) (variables : List (Option ℕ)) (k : Holding)
    (object : ℕ) → list_any is_owned s.slots ≡ false
    → of_variables (activation program outer) s variables k object ≡ outer_holds program outer k object
ended_says program outer s variables k object none =
    owning_none (activation program outer) s variables (λ v. none_at is_owned s.slots v Empty none refl)
    (λ v o. none_as_deep program outer (length outer) v o (omega arith)) (none_in_flight program outer) k object

pub holds-ended : (bag : List Reference) (t : ℕ) (program : Program) (outer : List OpenCall) (s : State)
    (rows : List (Option ℕ)) → list_any is_owned s.slots ≡ false
    → Holds bag t (of_variables (activation program outer) s rows) → Holds bag t (outer_holds program outer)
holds-ended bag t program outer s rows none holds = record {
  each = λ h object. holds.each h object ∙ ap one_if (ended_says program outer s rows h object none);
}
