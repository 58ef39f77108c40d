-- What a thread takes up at a call meets its condition. The call waits, and its variables hold what the fault exit's
-- state says; the callee begins with what it was given, and borrows what is held further out.
use Rattle.std.proofs.Common.{◌≡◌, ◌≢◌, ℕ, zero, suc, ◌<◌, ◌≤◌, Bool, true, false, cond, List, [], ◌∷◌, length, Option, None, Some, inl, inr, refl, sym, ap, ◌∙◌, subst, arith}
use Rattle.std.specs.Prelude.{◌&&◌, fold, is_some, map}
use Rattle.std.specs.List.{AllByRecursion, list_all, slice_index_or}
use Rattle.std.proofs.lemmas.Bool.{eq-eqb, ne_eqb, false≢true}
use Rattle.std.proofs.lemmas.Bool.Decides.{eqb_tells}
use Rattle.brc_lang.specs.declared.kind.Kind.{Kind}
use Rattle.brc_lang.specs.declared.module.Instr.TheVariants.{Call}
use Rattle.brc_lang.specs.declared.parameter.Argument.{Argument}
use Rattle.brc_lang.specs.declared.parameter.Parameter.{Parameter}
use Rattle.brc_lang.specs.declared.parameter.Passing.{Passing}
use Rattle.brc_lang.specs.declared.parameter.Passing.TheVariants.{Borrow, Steal}
use Rattle.brc_model.specs.declared.state.Slot.{Slot}
use Rattle.brc_model.specs.declared.state.Slot.TheVariants.{Empty, Owned, Caller, Locked}
use Rattle.brc_model.specs.declared.state.State.{State}
use Rattle.brc_model.specs.SlotStates.{var_of, is_empty, is_owned, names, put, steals, is_stolen, stolen, without_stolen, padded, parameter_var, passed_var, entry_of}
use Rattle.brc_model.specs.Paths.{At}
use Rattle.brc_model.specs.declared.duty.Holding.{Holding}
use Rattle.brc_model.specs.declared.duty.Holding.TheVariants.{ByVariable, AsCaller, InFlight}
use Rattle.brc_model.specs.References.{one_if}
use Rattle.brc_model.specs.Threads.{row_of}
use Rattle.brc_model.specs.Items.{borrows_item, HaveItems}
use Rattle.brc_model.specs.declared.actor.Place.{Place}
use Rattle.brc_model.specs.declared.actor.Place.TheVariants.{InCall}
use Rattle.brc_model.specs.declared.actor.Context.{Context}
use Rattle.brc_model.specs.declared.actor.OpenCall.{OpenCall}
use Rattle.brc_model.specs.Actions.{Silent, Stuck, dispatch_instruction, depth_of, kept_rows, argument_rows, passed_variables, handed_rows, callee_context, without_row}
use Rattle.brc_model.specs.Layout.{root_row}
use Rattle.brc_model.proofs.Basics.Lists.{none_some, some_is}
use Rattle.brc_model.proofs.Dispatch.Programs.{Program, number_of, CalleeFits}
use Rattle.brc_model.proofs.Dispatch.Holds.{Activation, activation, call_of, of_variables, IsOuter, as_caller, own_depth, other_depth, further_holds, none_as_deep}
use Rattle.brc_model.proofs.Dispatch.Grounded.{IsGrounded, IsInside, IsWaiting, AreOpen, left_by, outside_is, is_activation, number_there, few_calls, named_row, grounded-put, var_of-put_other, row_of-set_other}
use Rattle.brc_model.proofs.Dispatch.Guards.{guards_none}
use Rattle.brc_model.proofs.Dispatch.Items.{items_put, needs_none}
use Rattle.brc_model.proofs.Dispatch.Calls.{ArgumentsLow, AreSixteen, stolen_low, emptied_keeps, left_keeps, ArgumentMet, CallMet, call_met, passed_each, entry_length, passed_length}
use Rattle.brc_model.proofs.Dispatch.Handing.{of_both, given, AreReady, Handed, handed}
use Rattle.brc_model.proofs.Dispatch.Apart.{given_apart, IsKeptBy, borrowed_kept, kept_var, kept_row, still_unowned}
use Rattle.brc_model.proofs.Dispatch.TakingUp.{Scene, StandsAt, holds_at_none, IsTaken, SilentTaken, in_call_stays}
use Rattle.brc_model.proofs.Dispatch.OneMoreOrLess.{unowned_says}

-- ---- the arguments

-- Each argument names a row, and owns its reference if that is stolen.
arguments_ready : (call : Activation) (s : State) (rows : List (Option ℕ)) (arguments : List Argument)
    → ArgumentsLow arguments → AllByRecursion (ArgumentMet s) arguments
    → ((v : ℕ) → IsGrounded call (var_of s v) (row_of rows v)) → AreReady s rows rows arguments
arguments_ready call s rows [] low met grounded = tt
arguments_ready call s rows (a ∷ others) low met grounded =
    let named = named_row call (var_of s a.from) (row_of rows a.from) met.0.some (grounded a.from) in (
      record { low = low.0; row = named.0; named = named.1; first = named.1; owned = met.0.owned },
      arguments_ready call s rows others low.1 met.1 grounded,
    )

-- So the thread isn't stuck.
arguments_named : (s : State) (rows variables : List (Option ℕ)) (arguments : List Argument)
    → AreReady s rows variables arguments → list_all is_some (argument_rows variables arguments) ≡ true
arguments_named s rows variables [] ready = refl
arguments_named s rows variables (a ∷ others) ready =
    ap (λ (o : Option ℕ). is_some o && list_all is_some (argument_rows variables others)) ready.0.first
    ∙ arguments_named s rows variables others ready.1

-- ---- what the thread holds

none_owned : (v object : ℕ) → names (row_of (None ∷ []) v) object ≡ false
none_owned zero object = refl
none_owned (suc v) object = refl

-- Before the call the callee's variables hold nothing.
both_before : (program : Program) (outer : List OpenCall) (s : State) (rows : List (Option ℕ)) (k : Holding)
    (object : ℕ)
    → of_variables (activation program outer) s rows k object
    ≡ of_both (activation program outer) s rows (None ∷ []) k object
both_before program outer s rows AsCaller object = refl
both_before program outer s rows InFlight object = refl
both_before program outer s rows (ByVariable depth v) object =
    let call = activation program outer in
    elim (eqb_tells depth (suc (length outer))) [
      | inl this ↦
          other_depth call s rows depth v object (ne_eqb depth (length outer) (λ e. absurd (omega (arith, e, this.1))))
          ∙ none_as_deep program outer depth v object (omega (arith, this.1))
          ∙ sym (ap (λ (b : Bool). cond b (names (row_of (None ∷ []) v) object)
          (of_variables call s rows (ByVariable depth v) object)) this.0 ∙ none_owned v object)
      | inr apart ↦
          sym (ap (λ (b : Bool). cond b (names (row_of (None ∷ []) v) object)
          (of_variables call s rows (ByVariable depth v) object)) apart.0)
    ]

-- Of what is passed the callee owns what is stolen.
passed_names : (p : Passing) (kind : Kind) (row : Option ℕ) (object : ℕ)
    → (is_owned (passed_var p kind) && names row object) ≡ names (cond (steals p) row None) object
passed_names Borrow kind row object = refl
passed_names Steal kind row object = refl

-- The callee's variables own what was given to them.
own_passed : (n k : ℕ) (rows : List (Option ℕ)) (arguments : List Argument) (object : ℕ) → length arguments ≤ n
    → (is_owned (slice_index_or (padded n Empty (map parameter_var (map (λ a. a.parameter) arguments))) k Empty)
    && names (row_of (padded n None (argument_rows rows arguments)) k) object)
    ≡ names (row_of (map (given rows) arguments) k) object
own_passed zero k rows [] object few = refl
own_passed zero k rows (a ∷ others) object few = absurd (omega (arith, few))
own_passed (suc n) zero rows [] object few = refl
own_passed (suc n) (suc k) rows [] object few = own_passed n k rows [] object (omega arith)
own_passed (suc n) zero rows (a ∷ others) object few =
    passed_names a.parameter.passing a.parameter.kind (row_of rows a.from) object
own_passed (suc n) (suc k) rows (a ∷ others) object few = own_passed n k rows others object (omega (arith, few))

-- At its entry.
entry_names : (v : ℕ) (rows : List (Option ℕ)) (arguments : List Argument) (object : ℕ) → length arguments ≤ 15
    → (is_owned (var_of (entry_of (map (λ a. a.parameter) arguments)) v)
    && names (row_of (passed_variables rows arguments) v) object)
    ≡ names (row_of (None ∷ map (given rows) arguments) v) object
entry_names zero rows arguments object few = refl
entry_names (suc v) rows arguments object few = own_passed 15 v rows arguments object few

-- After it they hold what they own, and the waiting call what it has kept.
both_after : (program : Program) (outer : List OpenCall) (o : OpenCall) (rows : List (Option ℕ))
    → (waits : IsWaiting (activation program outer) o) → o.variables ≡ kept_rows rows waits.arguments o.to
    → length waits.arguments ≤ 15 → length (without_stolen waits.state waits.arguments).slots ≡ 16
    → is_owned (var_of (without_stolen waits.state waits.arguments) o.to) ≡ false → (k : Holding) (object : ℕ)
    → one_if (of_both (activation program outer) (without_stolen waits.state waits.arguments)
    (fold without_row rows (stolen waits.arguments)) (None ∷ map (given rows) waits.arguments) k object)
    ≡ one_if (of_variables (activation program (o ∷ outer))
    (entry_of (map (λ a. a.parameter) waits.arguments)) (passed_variables rows waits.arguments) k object)
both_after program outer o rows waits kept few slots free AsCaller object =
    ap (λ (holds : Holding → ℕ → Bool). one_if (holds AsCaller object)) (sym (outside_is program outer o waits))
both_after program outer o rows waits kept few slots free InFlight object = refl
both_after program outer o rows waits kept few slots free (ByVariable depth v) object =
    let call = activation program outer in
    let callee = activation program (o ∷ outer) in
    let s = without_stolen waits.state waits.arguments in
    let left = fold without_row rows (stolen waits.arguments) in
    let own = None ∷ map (given rows) waits.arguments in
    let entry = entry_of (map (λ a. a.parameter) waits.arguments) in
    let passed = passed_variables rows waits.arguments in
    elim (eqb_tells depth (suc (length outer))) [
      | inl this ↦
          ap one_if (ap (λ (b : Bool). cond b (names (row_of own v) object)
          (of_variables call s left (ByVariable depth v) object)) this.0
          ∙ sym (entry_names v rows waits.arguments object few)
          ∙ sym (ap (λ (b : Bool). cond b (is_owned (var_of entry v) && names (row_of passed v) object)
          (callee.outside (ByVariable depth v) object)) this.0))
      | inr apart ↦
          ap one_if (ap (λ (b : Bool). cond b (names (row_of own v) object)
          (of_variables call s left (ByVariable depth v) object)) apart.0)
          ∙ unowned_says call s left o.to Empty None (omega (arith, waits.low, slots)) free refl (ByVariable depth v)
          object
          ∙ ap (λ (l : List (Option ℕ)). one_if (of_variables call (put s o.to Empty) l (ByVariable depth v) object))
          (sym kept)
          ∙ ap (λ (holds : Holding → ℕ → Bool). one_if (holds (ByVariable depth v) object))
          (sym (outside_is program outer o waits))
          ∙ ap one_if (sym (other_depth callee entry passed depth v object apart.0))
    ]

-- ---- what the callee borrows

-- What is held further out than the call is held further out than the one that it makes.
outer_more : (depth : ℕ) (by : Holding) → IsOuter depth by → IsOuter (suc depth) by
outer_more depth (ByVariable other v) outer = omega (arith, outer)
outer_more depth AsCaller outer = tt
outer_more depth InFlight outer = absurd outer

-- How the thread holds the object further out.
pub record IsHeldOutside (call : Activation) (x : ℕ) : Type 0 where
  pub by : Holding
  pub outer : IsOuter call.depth by
  pub held_so : call.outside by x ≡ true

module _ {program : Program} {outer : List OpenCall} {o : OpenCall} (rows : List (Option ℕ))
    (waits : IsWaiting (activation program outer) o) (kept : o.variables ≡ kept_rows rows waits.arguments o.to)
    (free : is_owned (var_of waits.state o.to) ≡ false)
    (items : (v x : ℕ) → borrows_item (var_of waits.state v) ≡ true → row_of rows v ≡ Some x → ⊥) where
  -- What a borrowed argument's variable names is held by the variable, or further out.
  borrowed_held : (a : Argument) (x : ℕ) (var : Slot) → var_of waits.state a.from ≡ var → is_empty var ≡ false
      → row_of rows a.from ≡ Some x → IsGrounded (activation program outer) var (row_of rows a.from)
      → IsKeptBy waits.arguments a.from → IsHeldOutside (activation program (o ∷ outer)) x
  borrowed_held a x Empty is some named grounded apart = absurd cc
  borrowed_held a x (Owned k) is some named grounded apart =
      let call = activation program outer in
      let s = without_stolen waits.state waits.arguments in
      let ne : a.from ≢ o.to = λ e.
      false≢true (sym free ∙ ap (λ (v : ℕ). is_owned (var_of waits.state v)) (sym e) ∙ ap is_owned is) in
      let var_is : var_of (put s o.to Empty) a.from ≡ Owned k =
      var_of-put_other s o.to a.from Empty ne ∙ kept_var waits.state (stolen waits.arguments) a.from apart ∙ is in
      let row_is : row_of o.variables a.from ≡ Some x =
      ap (λ (l : List (Option ℕ)). row_of l a.from) kept
      ∙ row_of-set_other (fold without_row rows (stolen waits.arguments)) o.to a.from None ne
      ∙ kept_row rows (stolen waits.arguments) a.from apart ∙ named in
      record {
        by = ByVariable (length outer) a.from;
        outer = omega arith;
        held_so =
            ap (λ (holds : Holding → ℕ → Bool). holds (ByVariable (length outer) a.from) x)
            (outside_is program outer o waits)
            ∙ own_depth call (put s o.to Empty) o.variables a.from x
            ∙ ap (λ (var : Slot). is_owned var && names (row_of o.variables a.from) x) var_is
            ∙ ap (λ (row : Option ℕ). names row x) row_is ∙ eq-eqb x x refl;
      }
  borrowed_held a x (Caller k) is some named grounded apart =
      let call = activation program outer in
      let s = without_stolen waits.state waits.arguments in
      let same : grounded.0 ≡ x = some_is grounded.0 x (sym grounded.1 ∙ named) in
      record {
        by = grounded.2;
        outer = outer_more (length outer) grounded.2 grounded.3;
        held_so =
            ap (λ (holds : Holding → ℕ → Bool). holds grounded.2 x) (outside_is program outer o waits)
            ∙ further_holds call (put s o.to Empty) o.variables grounded.2 x grounded.3
            ∙ subst (λ (y : ℕ). call.outside grounded.2 y ≡ true) same grounded.4;
      }
  borrowed_held a x (Locked k) is some named grounded apart =
      absurd (items a.from x (ap borrows_item is) named)

  passed_grounded : (call : Activation) (p : Passing) (kind : Kind) (row : Option ℕ) (x : ℕ) → row ≡ Some x
      → (steals p ≡ false → IsHeldOutside call x) → IsGrounded call (passed_var p kind) row
  passed_grounded call Borrow kind row x named further =
      let there = further refl in (x, named, there.by, there.outer, there.held_so)
  passed_grounded call Steal kind row x named further = (x, named)

  -- What the callee's variables of the parameters say is true.
  parameters_grounded : (arguments : List Argument) → AreReady waits.state rows rows arguments
      → AllByRecursion (ArgumentMet waits.state) arguments
      → AllByRecursion (λ a. is_stolen a ≡ false → IsKeptBy waits.arguments a.from) arguments
      → ((v : ℕ) → IsGrounded (activation program outer) (var_of waits.state v) (row_of rows v))
      → AllByRecursion
      (λ a. IsGrounded (activation program (o ∷ outer)) (parameter_var a.parameter) (row_of rows a.from)) arguments
  parameters_grounded [] ready met apart grounded = tt
  parameters_grounded (a ∷ others) ready met apart grounded = (
    passed_grounded (activation program (o ∷ outer)) a.parameter.passing a.parameter.kind (row_of rows a.from)
        ready.0.row ready.0.named
        (λ borrowed.
        borrowed_held a ready.0.row (var_of waits.state a.from) refl met.0.some ready.0.named (grounded a.from)
        (apart.0 borrowed)),
    parameters_grounded others ready.1 met.1 apart.1 grounded,
  )

-- ---- the call that waits

module _ {program : Program} {g : Scene} {before : Place} {context : Context} {at : ℕ} {variables : List (Option ℕ)}
    {s : State} (to callee : ℕ) (arguments : List Argument) (otherwise : ℕ)
    (here : StandsAt program context g before at variables s (Call to callee arguments otherwise)) where
  abbrev outer : List OpenCall
  outer = context.outer

  -- the call, once it waits
  abbrev made : OpenCall
  made = record {
    callee = callee;
    at = at;
    variables = kept_rows variables arguments to;
    turns = context.turns;
    to = to;
    otherwise = otherwise;
  }

  -- the conditions of the call are met
  met : CallMet s to arguments
  met = call_met s to callee otherwise arguments here.met

  -- The thread has locked nothing.
  unlocked : g.locked ≡ None
  unlocked = guards_none s variables s.locked g.locked (ap is_some met.unlocked) here.guards

  there : number_of program context.outer < length program.functions
  there = number_there program context.outer here.inside.is_call.open_calls

  fits : CalleeFits program.functions (number_of program context.outer) callee arguments
  fits = here.sound.calls (number_of program context.outer) at to callee otherwise arguments there here.found

  sixteen : AreSixteen s variables
  sixteen = record { slots = here.inside.slots; named = here.inside.rows }

  -- What the waiting call's state says of its variables is true.
  waiting_grounded : (v : ℕ)
      → IsGrounded (call_of program context) (var_of (left_by made arguments s) v) (row_of made.variables v)
  waiting_grounded =
      (left_keeps (λ state rows. (v : ℕ) → IsGrounded (call_of program context) (var_of state v) (row_of rows v))
      (λ state rows x all low grounded.
      grounded-put (call_of program context) state rows x Empty None (omega (arith, low, all.slots))
      (omega (arith, low, all.named)) tt grounded)
      s variables arguments made here.variables.3 here.variables.0 sixteen here.inside.grounded).1

  -- They borrow no item of a list that isn't locked.
  waiting_items : HaveItems g.memory g.locked (left_by made arguments s) made.variables
  waiting_items =
      (left_keeps (HaveItems g.memory g.locked)
      (λ state rows x all low items.
      items_put g.memory g.locked state rows x Empty None (omega (arith, low, all.slots))
      (omega (arith, low, all.named)) (needs_none g.memory g.locked Empty None refl) items)
      s variables arguments made here.variables.3 here.variables.0 sixteen here.items).1

  -- A thread that has locked nothing has borrowed no item.
  no_items : (state : State) (rows : List (Option ℕ)) → HaveItems g.memory g.locked state rows → (v x : ℕ)
      → borrows_item (var_of state v) ≡ true → row_of rows v ≡ Some x → ⊥
  no_items state rows items v x borrows is =
      let item = items v x borrows is in none_some item.list (sym unlocked ∙ item.is_locked)

  -- The call waits for the one that it makes.
  waits : IsWaiting (call_of program context) made
  waits =
      let number = number_of program context.outer in
      let kept = (left_keeps (λ state rows. Unit {0}) (λ state rows x all low any. tt) s variables arguments made
      here.variables.3 here.variables.0 sixteen tt).0 in
      let few = few_calls program context.outer here.sound here.inside.is_call.open_calls in
      let one = here.sound.counts_itself callee (omega (arith, fits.above, there)) in
      record {
        state = s;
        arguments = arguments;
        found = here.found;
        exits = here.inside.exits;
        arrived = here.inside.arrived;
        known = here.sound.states_true number at s there
            (record { exits = here.inside.exits; reaches = here.inside.arrived });
        low = here.variables.0;
        slots = kept.slots;
        rows = kept.named;
        unlocked = met.unlocked;
        grounded = waiting_grounded;
        no_items = no_items (left_by made arguments s) made.variables waiting_items;
        there = omega (arith, fits.above, there);
        few = omega (arith, few, fits.deeper);
        shallow = omega (arith, few, fits.deeper, one);
      }

  opened : AreOpen program (made ∷ context.outer)
  opened = (waits, here.inside.is_call.open_calls)

  -- ---- the callee at its entry

  ready : AreReady s variables variables arguments
  ready =
      arguments_ready (call_of program context) s variables arguments here.variables.3 met.each here.inside.grounded

  -- The callee begins in the state of its entry, and what that says is true.
  callee_inside : IsInside (activation program (made ∷ context.outer)) 0 (passed_variables variables arguments)
      (entry_of (map (λ a. a.parameter) arguments))
  unfolding waits
  callee_inside = record {
    is_call = is_activation program (made ∷ context.outer) opened;
    exits = [];
    arrived = ap (λ (ps : List Parameter). At 0 (entry_of ps)) (sym fits.same);
    slots = entry_length (map (λ a. a.parameter) arguments);
    rows = passed_length variables arguments;
    grounded =
        passed_each (IsGrounded (activation program (made ∷ context.outer)))
        (root_row, refl, AsCaller, tt, as_caller program (made ∷ context.outer) root_row) tt variables arguments
        (parameters_grounded variables waits refl met.free (no_items s variables here.items) arguments ready met.each
        (borrowed_kept arguments (given_apart arguments met.once)) here.inside.grounded);
  }

  -- The stolen references are handed on.
  handing : Handed (call_of program context) g.bag g.thread
      (handed_rows g.thread (depth_of context) variables 1 arguments) (without_stolen s arguments)
      (fold without_row variables (stolen arguments)) (None ∷ map (given variables) arguments)
  handing =
      handed g.bag g.thread (call_of program context) s variables variables (None ∷ []) 1 arguments refl sixteen ready
      (given_apart arguments met.once)
      (record {
        each = λ k object.
            here.holds.each k object ∙ ap one_if (both_before program context.outer s variables k object);
      })

  -- A call meets the condition under which a thread takes it up.
  pub call_taken : IsTaken program g (dispatch_instruction g.layout g.thread g.used before context at variables
      (Some (Call to callee arguments otherwise)))
  unfolding waits
  call_taken =
      let place = InCall (callee_context context at variables to callee arguments otherwise) 0
      (passed_variables variables arguments) in
      let moves = handed_rows g.thread (depth_of context) variables 1 arguments in
      let few : length arguments ≤ 15 = omega (arith, here.variables.2) in
      let slots : length (without_stolen s arguments).slots ≡ 16 =
      (emptied_keeps (λ state rows. Unit {0}) (λ state rows x all low any. tt) s variables (stolen arguments)
      (stolen_low arguments here.variables.3) sixteen tt).0.slots in
      let free : is_owned (var_of (without_stolen s arguments) to) ≡ false =
      still_unowned s (stolen arguments) to (stolen_low arguments here.variables.3) here.inside.slots met.free in
      let taken : SilentTaken program g moves place = record {
        moves_fit = handing.moves_fit g.layout;
        placed = (
          entry_of (map (λ a. a.parameter) arguments),
          callee_inside,
          unlocked,
          holds_at_none _ g.thread _ (record {
            each = λ k object.
                handing.holds.each k object
                ∙ both_after program context.outer made variables waits refl few slots free k object;
          }),
        );
        stays = in_call_stays _ 0 (passed_variables variables arguments);
      } in
      subst (λ (b : Bool). IsTaken program g (cond b (Silent moves place) Stuck))
      (sym (arguments_named s variables variables arguments ready)) taken
