-- The lock of a thread in a call: what the state says is locked is what the thread has locked, and the thread keeps a
-- reference to it.
use Rattle.std.proofs.Common.{◌≡◌, ◌≢◌, ℕ, ◌<◌, ◌⊎◌, Bool, true, false, List, inl, inr, length, Option, None, Some, refl, sym, ap, ◌∙◌, subst, arith}
use Rattle.std.specs.Prelude.{◌==◌, ◌&&◌, slice_set, is_some}
use Rattle.std.proofs.lemmas.Bool.{false≢true, eq-eqb, eqb-true, ne_eqb}
use Rattle.std.proofs.lemmas.Bool.Decides.{eqb_tells}
use Rattle.brc_lang.specs.declared.kind.Kind.{Kind}
use Rattle.brc_model.specs.declared.state.Slot.{Slot}
use Rattle.brc_model.specs.declared.state.Slot.TheVariants.{Empty, Owned, Caller, Locked}
use Rattle.brc_model.specs.declared.state.State.{State}
use Rattle.brc_model.specs.SlotStates.{var_of, is_owned, with_kind, names, put, without_item, without_items}
use Rattle.brc_model.specs.declared.duty.Holding.{Holding}
use Rattle.brc_model.specs.declared.duty.Holding.TheVariants.{ByVariable, AsCaller, InFlight}
use Rattle.brc_model.specs.declared.duty.Duty.{Duty}
use Rattle.brc_model.specs.AbstractState.{Reference, same_holding}
use Rattle.brc_model.specs.Threads.{row_of}
use Rattle.brc_model.specs.References.{held, one_if, reference_of}
use Rattle.brc_model.specs.Accounts.{extra}
use Rattle.brc_model.proofs.Basics.Lists.{some_is}
use Rattle.brc_model.proofs.Dispatch.Holds.{Activation, IsOuter, HoldsVariables, variable_has}
use Rattle.brc_model.proofs.Dispatch.Grounded.{IsGrounded, var_of-put_same, var_of-put_other, row_of-set_other, var_of-without}

-- The variable's reference doesn't hang on the locked list.
abbrev pub is_kept : Slot → Bool
is_kept (Owned k) = true
is_kept (Caller k) = true
is_kept _ = false

-- What it means that a variable, or none, is locked: `locked` is the row that the thread has locked.
abbrev pub Guards : State → List (Option ℕ) → Option ℕ → Option ℕ → Type 0
Guards s variables None locked = locked ≡ None
Guards s variables (Some c) locked =
    (x : ℕ) × (locked ≡ Some x) × (row_of variables c ≡ Some x) × (is_kept (var_of s c) ≡ true)

-- The state says of the lock what is true of the thread.
abbrev pub LocksAgree : State → List (Option ℕ) → Option ℕ → Type 0
LocksAgree s variables locked = Guards s variables s.locked locked

-- ---- what keeps the lock as it is

names_apart : (c x : ℕ) → names (Some c) x ≡ false → c ≢ x
names_apart c x free e = false≢true (sym free ∙ eq-eqb x c (sym e))

-- A variable that isn't the locked one changes.
pub guards-put : (s : State) (variables : List (Option ℕ)) (x : ℕ) (var : Slot) (row : Option ℕ)
    (o locked : Option ℕ) → names o x ≡ false → Guards s variables o locked
    → Guards (put s x var) (slice_set variables x row) o locked
guards-put s variables x var row None locked free guards = guards
guards-put s variables x var row (Some c) locked free guards =
    let apart = names_apart c x free in (
      guards.0,
      guards.1,
      row_of-set_other variables x c row apart ∙ guards.2,
      ap is_kept (var_of-put_other s x c var apart) ∙ guards.3,
    )

kind_kept : (var : Slot) (k : Kind) → is_kept (with_kind var k) ≡ is_kept var
kind_kept Empty k = refl
kind_kept _ k = cc

kept-with_kind : (s : State) (x c : ℕ) (k : Kind) → x < length s.slots
    → is_kept (var_of (put s x (with_kind (var_of s x) k)) c) ≡ is_kept (var_of s c)
kept-with_kind s x c k in_slots =
    let var = with_kind (var_of s x) k in
    elim (eqb_tells c x) [
      | inl this ↦
          subst (λ (w : ℕ). is_kept (var_of (put s x var) w) ≡ is_kept (var_of s w)) (sym this.1)
          (ap is_kept (var_of-put_same s x var in_slots) ∙ kind_kept (var_of s x) k)
      | inr other ↦ ap is_kept (var_of-put_other s x c var other.1)
    ]

-- A variable's kind becomes known.
pub guards-with_kind : (s : State) (variables : List (Option ℕ)) (x : ℕ) (k : Kind) (o locked : Option ℕ)
    → x < length s.slots → Guards s variables o locked
    → Guards (put s x (with_kind (var_of s x) k)) variables o locked
guards-with_kind s variables x k None locked in_slots guards = guards
guards-with_kind s variables x k (Some c) locked in_slots guards =
    (guards.0, guards.1, guards.2, kept-with_kind s x c k in_slots ∙ guards.3)

without_kept : (var : Slot) → is_kept var ≡ true → is_kept (without_item var) ≡ true
without_kept Empty kept = absurd cc
without_kept _ kept = cc

-- The variables that borrow from the locked list become empty.
pub guards-without : (s : State) (variables : List (Option ℕ)) (o locked : Option ℕ) → Guards s variables o locked
    → Guards (without_items s) variables o locked
guards-without s variables None locked guards = guards
guards-without s variables (Some c) locked guards =
    (guards.0, guards.1, guards.2, ap is_kept (var_of-without s c) ∙ without_kept (var_of s c) guards.3)

-- If the state says that nothing is locked, the thread has locked nothing.
pub guards_none : (s : State) (variables : List (Option ℕ)) (o locked : Option ℕ) → is_some o ≡ false
    → Guards s variables o locked → locked ≡ None
guards_none s variables None locked none guards = guards
guards_none s variables (Some c) locked none guards = absurd cc

-- The locked variable names the row that the thread has locked.
pub guards_row : (s : State) (variables : List (Option ℕ)) (c row : ℕ) (o locked : Option ℕ) → names o c ≡ true
    → row_of variables c ≡ Some row → Guards s variables o locked → locked ≡ Some row
guards_row s variables c row None locked this named guards = absurd cc
guards_row s variables c row (Some d) locked this named guards =
    let same : c ≡ d = eqb-true c d this in
    guards.1 ∙ sym guards.2 ∙ ap (row_of variables) (sym same) ∙ named

-- ---- the thread holds what it has locked

-- The thread holds the object by a reference that the duty doesn't give up.
pub record HeldBeside (bag : List Reference) (t x : ℕ) (d : Duty) : Type 0 where
  pub by : Holding
  pub held_so : 0 < held (reference_of t by x) bag
  pub beside : extra d by x ≡ false

-- How a thread whose call has this depth holds the object of a variable that is locked.
pub record HeldLocked (bag : List Reference) (t depth x : ℕ) (o : Option ℕ) : Type 0 where
  pub variable : ℕ
  pub is : o ≡ Some variable
  pub by : Holding
  pub sort : (by ≡ ByVariable depth variable) ⊎ IsOuter depth by
  pub held_so : 0 < held (reference_of t by x) bag

kept_held : (bag : List Reference) (t : ℕ) (call : Activation) (s : State) (variables : List (Option ℕ)) (c x : ℕ)
    (var : Slot) → var_of s c ≡ var → is_kept var ≡ true → row_of variables c ≡ Some x
    → IsGrounded call var (row_of variables c)
    → HoldsVariables bag t call s variables → HeldLocked bag t call.depth x (Some c)
kept_held bag t call s variables c x Empty is kept named grounded holds = absurd cc
kept_held bag t call s variables c x (Owned k) is kept named grounded holds =
    let one : held (reference_of t (ByVariable call.depth c) x) bag ≡ 1 =
    variable_has bag t call s variables c x (ap is_owned is) named holds in
    record { variable = c; is = refl; by = ByVariable call.depth c; sort = inl refl; held_so = omega (arith, one) }
kept_held bag t call s variables c x (Caller k) is kept named grounded holds =
    let same : grounded.0 ≡ x = some_is grounded.0 x (sym grounded.1 ∙ named) in
    let by = grounded.2 in
    let one : held (reference_of t by grounded.0) bag ≡ 1 =
    holds.outside by grounded.0 grounded.3 ∙ ap one_if grounded.4 in
    record {
      variable = c;
      is = refl;
      by = by;
      sort = inr grounded.3;
      held_so = subst (λ (y : ℕ). 0 < held (reference_of t by y) bag) same (omega (arith, one));
    }
kept_held bag t call s variables c x (Locked k) is kept named grounded holds = absurd cc

pub guards_held : (bag : List Reference) (t : ℕ) (call : Activation) (s : State) (variables : List (Option ℕ))
    (o locked : Option ℕ) (x : ℕ)
    → Guards s variables o locked → locked ≡ Some x
    → ((v : ℕ) → IsGrounded call (var_of s v) (row_of variables v))
    → HoldsVariables bag t call s variables → HeldLocked bag t call.depth x o
guards_held bag t call s variables None locked x guards is grounded holds =
    let wrong : None ≡ Some x = sym guards ∙ is in absurd cc
guards_held bag t call s variables (Some c) locked x guards is grounded holds =
    let same : Some guards.0 ≡ Some x = sym guards.1 ∙ is in
    kept_held bag t call s variables c x (var_of s c) refl guards.3 (guards.2 ∙ same) (grounded c) holds

-- A variable of a call isn't how its thread holds what it holds outside the call.
outer_beside : (depth from : ℕ) (by : Holding) → IsOuter depth by → same_holding (ByVariable depth from) by ≡ false
outer_beside depth from (ByVariable other v) outer =
    ap (λ (b : Bool). b && (from == v)) (ne_eqb depth other (λ e. absurd (omega (arith, e, outer))))
outer_beside depth from AsCaller outer = refl
outer_beside depth from InFlight outer = refl

-- Neither is a reference in flight.
pub outer_flight : (depth : ℕ) (by : Holding) → IsOuter depth by → same_holding InFlight by ≡ false
outer_flight depth (ByVariable other v) outer = refl
outer_flight depth AsCaller outer = refl
outer_flight depth InFlight outer = absurd outer

-- Giving up what another variable owns leaves the reference to the locked object.
gives_beside : (depth row x from c : ℕ) (by : Holding) → names (Some c) from ≡ false
    → (by ≡ ByVariable depth c) ⊎ IsOuter depth by → (same_holding (ByVariable depth from) by && (row == x)) ≡ false
gives_beside depth row x from c by free (inl variable) =
    subst (λ (k : Holding). (same_holding (ByVariable depth from) k && (row == x)) ≡ false) (sym variable)
    (ap (λ (b : Bool). (b && (from == c)) && (row == x)) (eq-eqb depth depth refl)
    ∙ ap (λ (b : Bool). b && (row == x)) free)
gives_beside depth row x from c by free (inr outer) =
    ap (λ (b : Bool). b && (row == x)) (outer_beside depth from by outer)

-- A duty that gives up what the variable owns, which isn't the locked one.
pub gives_keeps : (bag : List Reference) (t depth row x from : ℕ) (o : Option ℕ) (d : Duty) → names o from ≡ false
    → ((k : Holding) (object : ℕ) → extra d k object ≡ (same_holding (ByVariable depth from) k && (row == object)))
    → HeldLocked bag t depth x o → HeldBeside bag t x d
gives_keeps bag t depth row x from o d free gives lock =
    record {
      by = lock.by;
      held_so = lock.held_so;
      beside = gives lock.by x ∙ gives_beside depth row x from lock.variable lock.by
          (subst (λ (w : Option ℕ). names w from ≡ false) lock.is free) lock.sort;
    }
