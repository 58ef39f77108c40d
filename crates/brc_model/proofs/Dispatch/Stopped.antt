-- What a thread holds that has stopped: the references that its calls have still to give up, and the root.
use Rattle.std.proofs.Common.{◌≡◌, ℕ, zero, suc, ◌+◌, ◌<◌, ◌≤◌, Bool, true, false, cond, List, [], ◌∷◌, length, Option, None, Some, inl, inr, refl, sym, ap, ◌∙◌, subst, arith}
use Rattle.std.specs.Prelude.{◌↔◌, ◌==◌, ◌&&◌, if◌then◌else◌, is_some, slice_set}
use Rattle.std.specs.List.{list_any, slice_index_or}
use Rattle.std.proofs.lemmas.Bool.{eq-eqb, ne_eqb}
use Rattle.std.proofs.lemmas.Bool.Decides.{eqb_tells}
use Rattle.std.proofs.lemmas.List.{get_or_past}
use Rattle.brc_model.specs.declared.state.Slot.{Slot}
use Rattle.brc_model.specs.declared.state.Slot.TheVariants.{Empty, Owned, Caller, Locked}
use Rattle.brc_model.specs.declared.state.State.{State}
use Rattle.brc_model.specs.declared.actor.OpenCall.{OpenCall}
use Rattle.brc_model.specs.declared.duty.Holding.{Holding}
use Rattle.brc_model.specs.declared.duty.Holding.TheVariants.{ByVariable, AsCaller, InFlight}
use Rattle.brc_model.specs.AbstractState.{same_holding}
use Rattle.brc_model.specs.References.{one_if}
use Rattle.brc_model.specs.Accounts.{IsBounded}
use Rattle.brc_model.specs.SlotStates.{var_of, is_owned, names}
use Rattle.brc_model.specs.Threads.{row_of}
use Rattle.brc_model.specs.Actions.{owned_rows, owned_by, row_locked, holds_some, first_named, given_up, waiting_state}
use Rattle.brc_model.specs.declared.layout.Layout.{Layout}
use Rattle.brc_model.specs.Layout.{root_row}
use Rattle.brc_model.specs.Limits.{depth_limit}
use Rattle.brc_model.proofs.Basics.Bag.{one_if_low}
use Rattle.brc_model.proofs.Basics.Lists.{some_is, none_some, none_at, first_false, second_false, either}
use Rattle.brc_model.proofs.Stepping.Counts.{flip_eqb}
use Rattle.brc_model.proofs.Dispatch.Holds.{the_root, once_each, of_variables, own_depth, other_depth, by_depth, activation, outer_holds, of_state, further_holds}
use Rattle.brc_model.proofs.Dispatch.Grounded.{IsGrounded, IsInside, row_of-set_same, row_of-set_other, AreOpen}
use Rattle.brc_model.proofs.Dispatch.Guards.{is_kept, Guards, LocksAgree}
use Rattle.brc_model.proofs.Dispatch.Programs.{Program, number_of}

-- ---- the references of calls

-- the rows of the call at the depth: the innermost call comes first
abbrev pub rows_at : List (List (Option ℕ)) → ℕ → List (Option ℕ)
rows_at [] depth = []
rows_at (rows ∷ outer) depth = if depth == length outer then rows else rows_at outer depth

-- The references of a thread that gives up what these rows name.
abbrev pub of_stopped : List (List (Option ℕ)) → Holding → ℕ → Bool
of_stopped calls (ByVariable depth v) object = names (row_of (rows_at calls depth) v) object
of_stopped calls AsCaller object = object == root_row
of_stopped calls InFlight object = false

-- The calls are few, and each has few variables. Where there is a row to unlock, the thread holds it.
pub record IsStopped (lock : Option ℕ) (calls : List (List (Option ℕ))) : Type 0 where
  pub few : length calls ≤ depth_limit
  pub rows : (depth : ℕ) → length (rows_at calls depth) ≤ 16
  pub lock_held : (x : ℕ) → lock ≡ Some x → (by : Holding) × (of_stopped calls by x ≡ true)

-- ---- rows by depth

-- The innermost call is at the depth of as many calls as are open around it.
pub rows_here : (rows : List (Option ℕ)) (outer : List (List (Option ℕ)))
    → rows_at (rows ∷ outer) (length outer) ≡ rows
rows_here rows outer =
    ap (λ (b : Bool). cond b rows (rows_at outer (length outer))) (eq-eqb (length outer) (length outer) refl)

pub rows_further : (rows : List (Option ℕ)) (outer : List (List (Option ℕ))) (depth : ℕ)
    → (depth == length outer) ≡ false → rows_at (rows ∷ outer) depth ≡ rows_at outer depth
rows_further rows outer depth apart = ap (λ (b : Bool). cond b rows (rows_at outer depth)) apart

-- At a depth where there is no call there are no rows.
pub rows_past : (calls : List (List (Option ℕ))) (depth : ℕ) → length calls ≤ depth → rows_at calls depth ≡ []
rows_past [] depth past = refl
rows_past (rows ∷ outer) depth past =
    rows_further rows outer depth (ne_eqb depth (length outer) (λ e. absurd (omega (arith, e, past))))
    ∙ rows_past outer depth (omega (arith, past))

-- ---- a call that names nothing

unnamed : (row : Option ℕ) (object : ℕ) → is_some row ≡ false → names row object ≡ false
unnamed None object none = refl
unnamed (Some x) object none = absurd cc

none_named : (rows : List (Option ℕ)) (v object : ℕ) → list_any is_some rows ≡ false
    → names (row_of rows v) object ≡ false
none_named rows v object none = unnamed (row_of rows v) object (none_at is_some rows v None none refl)

-- A call whose variables name nothing holds nothing.
pub passed_says : (rows : List (Option ℕ)) (outer : List (List (Option ℕ))) → list_any is_some rows ≡ false
    → (k : Holding) (object : ℕ) → of_stopped (rows ∷ outer) k object ≡ of_stopped outer k object
passed_says rows outer none AsCaller object = refl
passed_says rows outer none InFlight object = refl
passed_says rows outer none (ByVariable depth v) object =
    elim (eqb_tells depth (length outer)) [
      | inl this ↦
          ap (λ (b : Bool). names (row_of (cond b rows (rows_at outer depth)) v) object) this.0
          ∙ none_named rows v object none
          ∙ sym (ap (λ (l : List (Option ℕ)). names (row_of l v) object)
          (rows_past outer depth (omega (arith, this.1))))
      | inr apart ↦
          ap (λ (l : List (Option ℕ)). names (row_of l v) object) (rows_further rows outer depth apart.0)
    ]

-- ---- what a stop leaves to give up

names_none : (b : Bool) → (b && false) ≡ false
names_none true = refl
names_none false = refl

-- Of the variables those name a row that own a reference.
owned_names : (slots : List Slot) (rows : List (Option ℕ)) (v object : ℕ)
    → names (row_of (owned_rows slots rows) v) object
    ≡ (is_owned (slice_index_or slots v Empty) && names (row_of rows v) object)
owned_names [] rows v object = refl
owned_names (var ∷ slots) [] v object = sym (names_none (is_owned (slice_index_or (var ∷ slots) v Empty)))
owned_names (var ∷ slots) (row ∷ rows) zero object =
    elim (is_owned var) as (λ b. names (cond b row None) object ≡ (b && names row object)) [
      | true ↦ refl
      | false ↦ refl
    ]
owned_names (var ∷ slots) (row ∷ rows) (suc v) object = owned_names slots rows v object

same_both : (b : Bool) (none : Option ℕ) → cond b none none ≡ none
same_both true none = refl
same_both false none = refl

-- A variable's row is given up exactly if the variable owns a reference.
owned_at : (slots : List Slot) (rows : List (Option ℕ)) (v : ℕ)
    → row_of (owned_rows slots rows) v ≡ cond (is_owned (slice_index_or slots v Empty)) (row_of rows v) None
owned_at [] rows v = refl
owned_at (var ∷ slots) [] v = sym (same_both (is_owned (slice_index_or (var ∷ slots) v Empty)) None)
owned_at (var ∷ slots) (row ∷ rows) zero = refl
owned_at (var ∷ slots) (row ∷ rows) (suc v) = owned_at slots rows v

owned_either : (b : Bool) (row : Option ℕ) (x : ℕ) → (cond b row None ≡ Some x) ↔ ((b ≡ true) × (row ≡ Some x))
owned_either true row x = (λ e. (refl, e), λ e. e.1)
owned_either false row x = (λ e. absurd (none_some x e), λ e. absurd cc)

pub owned_exactly : (slots : List Slot) (rows : List (Option ℕ)) (v x : ℕ)
    → (row_of (owned_rows slots rows) v ≡ Some x)
    ↔ ((is_owned (slice_index_or slots v Empty) ≡ true) × (row_of rows v ≡ Some x))
owned_exactly slots rows v x =
    subst (λ (o : Option ℕ). (o ≡ Some x) ↔ ((is_owned (slice_index_or slots v Empty) ≡ true)
    × (row_of rows v ≡ Some x)))
    (sym (owned_at slots rows v)) (owned_either (is_owned (slice_index_or slots v Empty)) (row_of rows v) x)

-- No more rows are given up than there are variables.
pub owned_long : (slots : List Slot) (rows : List (Option ℕ)) → length (owned_rows slots rows) ≤ length rows
owned_long [] rows = omega arith
owned_long (var ∷ slots) [] = omega arith
owned_long (var ∷ slots) (row ∷ rows) = let rest = owned_long slots rows in omega (arith, rest)

-- Each open call gives up what its variables own.
given_length : (program : Program) (outer : List OpenCall)
    → length (given_up program.functions program.states program.first outer) ≡ length outer
given_length program [] = refl
given_length program (o ∷ outer) = ap suc (given_length program outer)

-- If the calls further out give up what they hold, so does the call whose variables own what they own in this state.
stop_says_by : (program : Program) (outer : List OpenCall) (s : State) (variables : List (Option ℕ))
    → ((k : Holding) (object : ℕ) → outer_holds program outer k object
    ≡ of_stopped (given_up program.functions program.states program.first outer) k object)
    → (k : Holding) (object : ℕ)
    → of_variables (activation program outer) s variables k object
    ≡ of_stopped (owned_rows s.slots variables ∷ given_up program.functions program.states program.first outer) k object
stop_says_by program outer s variables further AsCaller object = further AsCaller object
stop_says_by program outer s variables further InFlight object = refl
stop_says_by program outer s variables further (ByVariable depth v) object =
    let call = activation program outer in
    let rows = owned_rows s.slots variables in
    let given = given_up program.functions program.states program.first outer in
    let deep : length given ≡ length outer = given_length program outer in
    by_depth call (λ k. of_variables call s variables k object ≡ of_stopped (rows ∷ given) k object)
    (λ w.
    own_depth call s variables w object ∙ sym (owned_names s.slots variables w object)
    ∙ sym (ap (λ (l : List (Option ℕ)). names (row_of l w) object)
    (subst (λ (d : ℕ). rows_at (rows ∷ given) d ≡ rows) deep (rows_here rows given))))
    (λ d w apart.
    let past : (d == length given) ≡ false = ap (λ (n : ℕ). d == n) deep ∙ apart in
    other_depth call s variables d w object apart ∙ further (ByVariable d w) object
    ∙ sym (ap (λ (l : List (Option ℕ)). names (row_of l w) object) (rows_further rows given d past)))
    depth v

-- What the thread holds outside a call is what the calls further out give up, and the root.
pub outer_says : (program : Program) (outer : List OpenCall) (k : Holding) (object : ℕ)
    → outer_holds program outer k object
    ≡ of_stopped (given_up program.functions program.states program.first outer) k object
outer_says program [] (ByVariable depth v) object = refl
outer_says program [] AsCaller object = refl
outer_says program [] InFlight object = refl
outer_says program (o ∷ outer) k object =
    let given = given_up program.functions program.states program.first outer in
    elim (waiting_state program.functions program.states (number_of program outer) o) as
    (λ w. of_state (activation program outer) w o.variables k object ≡ of_stopped (owned_by w o.variables ∷ given) k
    object) [
      | None ↦ outer_says program outer k object ∙ sym (passed_says [] given refl k object)
      | Some s ↦ stop_says_by program outer s o.variables (outer_says program outer) k object
    ]

-- A thread that stops in a call gives up what its variables own, and what the calls further out hold.
pub stop_says : (program : Program) (outer : List OpenCall) (s : State) (variables : List (Option ℕ)) (k : Holding)
    (object : ℕ)
    → of_variables (activation program outer) s variables k object
    ≡ of_stopped (owned_rows s.slots variables ∷ given_up program.functions program.states program.first outer) k object
stop_says program outer s variables k object =
    stop_says_by program outer s variables (outer_says program outer) k object

-- What a stopped thread has to unlock it holds: its own variable owns it, or it is held further out.
stop_holds : (program : Program) (outer : List OpenCall) (s : State) (variables : List (Option ℕ)) (c x : ℕ)
    (var : Slot)
    → var_of s c ≡ var → is_kept var ≡ true → row_of variables c ≡ Some x
    → IsGrounded (activation program outer) var (row_of variables c)
    → (by : Holding) × (of_stopped (owned_rows s.slots variables
    ∷ given_up program.functions program.states program.first outer) by x ≡ true)
stop_holds program outer s variables c x Empty is kept named grounded = absurd cc
stop_holds program outer s variables c x (Owned k) is kept named grounded =
    let call = activation program outer in
    let by = ByVariable (length outer) c in (
      by,
      sym (stop_says program outer s variables by x) ∙ own_depth call s variables c x
          ∙ ap (λ (var : Slot). is_owned var && names (row_of variables c) x) is
          ∙ ap (λ (row : Option ℕ). names row x) named ∙ eq-eqb x x refl,
    )
stop_holds program outer s variables c x (Caller k) is kept named grounded =
    let call = activation program outer in
    let same : grounded.0 ≡ x = some_is grounded.0 x (sym grounded.1 ∙ named) in
    let by = grounded.2 in (
      by,
      sym (stop_says program outer s variables by x) ∙ further_holds call s variables by x grounded.3
          ∙ subst (λ (y : ℕ). outer_holds program outer by y ≡ true) same grounded.4,
    )
stop_holds program outer s variables c x (Locked k) is kept named grounded = absurd cc

stop_held : (program : Program) (outer : List OpenCall) (at : ℕ) (s : State) (variables : List (Option ℕ))
    (o locked : Option ℕ) → IsInside (activation program outer) at variables s → Guards s variables o locked → (x : ℕ)
    → row_locked o variables ≡ Some x
    → (by : Holding) × (of_stopped (owned_rows s.slots variables
    ∷ given_up program.functions program.states program.first outer) by x ≡ true)
stop_held program outer at s variables None locked inside guards x is = absurd (none_some x is)
stop_held program outer at s variables (Some c) locked inside guards x is =
    stop_holds program outer s variables c x (var_of s c) refl guards.3 is (inside.grounded c)

-- A call gives up no more rows than it has variables.
owned_few : (o : Option State) (rows : List (Option ℕ)) → length rows ≤ 16 → length (owned_by o rows) ≤ 16
owned_few None rows few = omega arith
owned_few (Some s) rows few = omega (arith, owned_long s.slots rows, few)

-- One more call gives up no more rows than it has variables.
rows_few : (rows : List (Option ℕ)) (outer : List (List (Option ℕ))) (depth : ℕ) → length rows ≤ 16
    → length (rows_at outer depth) ≤ 16 → length (rows_at (rows ∷ outer) depth) ≤ 16
rows_few rows outer depth here further =
    either (λ (l : List (Option ℕ)). length l ≤ 16) (depth == length outer) rows (rows_at outer depth) (λ this. here)
    further

-- So do the calls further out.
given_few : (program : Program) (outer : List OpenCall) (depth : ℕ) → AreOpen program outer
    → length (rows_at (given_up program.functions program.states program.first outer) depth) ≤ 16
given_few program [] depth opened = omega arith
given_few program (o ∷ outer) depth opened =
    let rows = opened.0.rows in
    rows_few (owned_by (waiting_state program.functions program.states (number_of program outer) o) o.variables)
    (given_up program.functions program.states program.first outer) depth
    (owned_few (waiting_state program.functions program.states (number_of program outer) o) o.variables
    (omega (arith, rows))) (given_few program outer depth opened.1)

-- Where a thread stops in a call, its calls are few, and it holds what it has to unlock.
pub stop_stopped : (program : Program) (outer : List OpenCall) (at : ℕ) (s : State) (variables : List (Option ℕ))
    (locked : Option ℕ) → IsInside (activation program outer) at variables s → LocksAgree s variables locked
    → IsStopped (row_locked s.locked variables)
    (owned_rows s.slots variables ∷ given_up program.functions program.states program.first outer)
stop_stopped program outer at s variables locked inside guards = record {
  few = omega (arith, given_length program outer, inside.is_call.shallow);
  rows = λ depth.
      rows_few (owned_rows s.slots variables) (given_up program.functions program.states program.first outer) depth
      (omega (arith, owned_long s.slots variables, inside.rows)) (given_few program outer depth
      inside.is_call.open_calls);
  lock_held = stop_held program outer at s variables s.locked locked inside guards;
}

-- The row that a thread has to unlock where it stops is the one that it has locked.
pub stop_lock : (s : State) (variables : List (Option ℕ)) (o locked : Option ℕ) → Guards s variables o locked
    → locked ≡ row_locked o variables
stop_lock s variables None locked guards = guards
stop_lock s variables (Some c) locked guards = guards.1 ∙ sym guards.2

-- ---- one reference less

-- If some variable names a row, the first that does is one of them.
pub first_names : (rows : List (Option ℕ)) → list_any is_some rows ≡ true
    → (x : ℕ) × (row_of rows (first_named rows) ≡ Some x) × (first_named rows < length rows)
first_names [] some = absurd cc
first_names (Some x ∷ rows) some = (x, refl, omega arith)
first_names (None ∷ rows) some =
    let rest = first_names rows some in
    (rest.0, rest.1, omega (arith, rest.2))

-- Once the variable of the innermost call names nothing, the thread is to hold one reference less.
pub given_says : (rows : List (Option ℕ)) (outer : List (List (Option ℕ))) (v x : ℕ) → v < length rows
    → row_of rows v ≡ Some x → (k : Holding) (object : ℕ)
    → one_if (of_stopped (rows ∷ outer) k object)
    ≡ one_if (of_stopped (slice_set rows v None ∷ outer) k object)
    + one_if (same_holding (ByVariable (length outer) v) k && (x == object))
given_says rows outer v x low is AsCaller object = omega arith
given_says rows outer v x low is InFlight object = omega arith
given_says rows outer v x low is (ByVariable depth w) object =
    let after = slice_set rows v None in
    elim (eqb_tells depth (length outer)) [
      | inl this ↦
          let before : one_if (of_stopped (rows ∷ outer) (ByVariable depth w) object)
          ≡ one_if (names (row_of rows w) object) =
          ap (λ (b : Bool). one_if (names (row_of (cond b rows (rows_at outer depth)) w) object)) this.0 in
          let left : one_if (of_stopped (after ∷ outer) (ByVariable depth w) object)
          ≡ one_if (names (row_of after w) object) =
          ap (λ (b : Bool). one_if (names (row_of (cond b after (rows_at outer depth)) w) object)) this.0 in
          let same : one_if (same_holding (ByVariable (length outer) v) (ByVariable depth w) && (x == object))
          ≡ one_if ((v == w) && (x == object)) =
          ap (λ (b : Bool). one_if ((b && (v == w)) && (x == object)))
          (eq-eqb (length outer) depth (sym this.1)) in
          elim (eqb_tells v w) [
            | inl here ↦
                let named : one_if (names (row_of rows w) object) ≡ one_if (object == x) =
                ap (λ (row : Option ℕ). one_if (names row object))
                (subst (λ (u : ℕ). row_of rows u ≡ Some x) here.1 is) in
                let none : one_if (names (row_of after w) object) ≡ 0 =
                ap (λ (row : Option ℕ). one_if (names row object))
                (subst (λ (u : ℕ). row_of after u ≡ None) here.1 (row_of-set_same rows v None low)) in
                let one : one_if ((v == w) && (x == object)) ≡ one_if (x == object) =
                ap (λ (b : Bool). one_if (b && (x == object))) here.0 in
                let flipped : one_if (object == x) ≡ one_if (x == object) = ap one_if (flip_eqb object x) in
                omega (arith, before, left, same, named, none, one, flipped)
            | inr other ↦
                let still : one_if (names (row_of after w) object) ≡ one_if (names (row_of rows w) object) =
                ap (λ (row : Option ℕ). one_if (names row object))
                (row_of-set_other rows v w None (λ e. other.1 (sym e))) in
                let none : one_if ((v == w) && (x == object)) ≡ 0 =
                ap (λ (b : Bool). one_if (b && (x == object))) other.0 in
                omega (arith, before, left, same, still, none)
          ]
      | inr apart ↦
          let same : one_if (of_stopped (rows ∷ outer) (ByVariable depth w) object)
          ≡ one_if (of_stopped (after ∷ outer) (ByVariable depth w) object) =
          ap (λ (l : List (Option ℕ)). one_if (names (row_of l w) object))
          (rows_further rows outer depth apart.0 ∙ sym (rows_further after outer depth apart.0)) in
          let none : one_if (same_holding (ByVariable (length outer) v) (ByVariable depth w) && (x == object)) ≡ 0 =
          ap (λ (b : Bool). one_if ((b && (v == w)) && (x == object))) (flip_eqb (length outer) depth ∙ apart.0) in
          omega (arith, same, none)
    ]

-- ---- nothing left

-- Once no call has a reference to give up, the thread holds the root alone.
pub stopped_says : (calls : List (List (Option ℕ))) → holds_some calls ≡ false → (k : Holding) (object : ℕ)
    → of_stopped calls k object ≡ the_root k object
stopped_says (rows ∷ outer) none k object =
    passed_says rows outer (first_false (list_any is_some rows) (holds_some outer) none) k object
    ∙ stopped_says outer (second_false (list_any is_some rows) (holds_some outer) none) k object
stopped_says _ none _ object = cc

-- ---- how much a stopped thread holds

past_named : (calls : List (List (Option ℕ))) (depth v object : ℕ) → length (rows_at calls depth) ≤ 16 → 16 ≤ v
    → names (row_of (rows_at calls depth) v) object ≡ false
past_named calls depth v object few past =
    ap (λ (row : Option ℕ). names row object) (get_or_past (rows_at calls depth) v None (omega (arith, few, past)))

deep_named : (calls : List (List (Option ℕ))) (depth v object : ℕ) → length calls ≤ depth
    → names (row_of (rows_at calls depth) v) object ≡ false
deep_named calls depth v object deep =
    ap (λ (l : List (Option ℕ)). names (row_of l v) object) (rows_past calls depth deep)

pub stopped_bounded : (layout : Layout) (lock : Option ℕ) (calls : List (List (Option ℕ))) → IsStopped lock calls
    → IsBounded layout (once_each (of_stopped calls))
stopped_bounded layout lock calls is = record {
  by_variable = λ depth v object. one_if_low (of_stopped calls (ByVariable depth v) object);
  sixteen = λ depth v object past. ap one_if (past_named calls depth v object (is.rows depth) past);
  shallow = λ depth v object deep.
      ap one_if (deep_named calls depth v object (omega (arith, deep, is.few)));
  lent = λ object counted. omega (arith, one_if_low (object == root_row));
  in_flight = λ object. omega arith;
}
