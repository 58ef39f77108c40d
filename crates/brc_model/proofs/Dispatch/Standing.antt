-- What a thread at an instruction of accepted code knows of one variable, and of what it has locked.
use Rattle.std.proofs.Common.{◌≡◌, ℕ, ◌<◌, true, false, List, Option, Some, refl, ap, arith, ◌∙◌}
use Rattle.brc_lang.specs.declared.module.Instr.{Instr}
use Rattle.brc_model.specs.declared.state.Slot.{Slot}
use Rattle.brc_model.specs.declared.state.Slot.TheVariants.{Empty, Owned, Caller, Locked}
use Rattle.brc_model.specs.declared.state.State.{State}
use Rattle.brc_model.specs.SlotStates.{var_of, is_empty, is_owned, names}
use Rattle.brc_model.specs.declared.duty.Holding.{Holding}
use Rattle.brc_model.specs.declared.duty.Holding.TheVariants.{ByVariable}
use Rattle.brc_model.specs.declared.duty.Duty.{Duty}
use Rattle.brc_model.specs.declared.duty.Duty.TheVariants.{ReleaseLoad}
use Rattle.brc_model.specs.declared.actor.Place.{Place}
use Rattle.brc_model.specs.AbstractState.{Reference, references_to}
use Rattle.brc_model.specs.Accounts.{extra}
use Rattle.brc_model.specs.Items.{borrows_item, HaveItems}
use Rattle.brc_model.specs.Threads.{row_of}
use Rattle.brc_model.specs.References.{held, one_if, reference_of}
use Rattle.brc_model.proofs.Basics.Bag.{held-le-references_to}
use Rattle.brc_model.specs.declared.actor.Context.{Context}
use Rattle.brc_model.specs.Actions.{depth_of, by_variable}
use Rattle.brc_model.proofs.Dispatch.Holds.{Activation, call_of, of_variables, Holds, HoldsVariables, holds_variables, variable_has, owned_has}
use Rattle.brc_model.proofs.Dispatch.Grounded.{IsGrounded}
use Rattle.brc_model.proofs.Dispatch.Guards.{HeldLocked, HeldBeside, guards_held, gives_keeps}
use Rattle.brc_model.proofs.Dispatch.TakingUp.{Scene, StandsAt, Backs, ByOwn, ByList}
use Rattle.brc_model.proofs.Dispatch.Programs.{Program}

-- The row that a variable names, and how the thread relies on it.
pub record Named (g : Scene) (row : Option ℕ) : Type 0 where
  pub object : ℕ
  pub is_row : row ≡ Some object
  pub backs : Backs g object

-- A variable that isn't empty names an object that the thread holds, or an item of the list that it has locked.
pub named_var : (g : Scene) (call : Activation) (s : State) (rows : List (Option ℕ)) (v : ℕ) (var : Slot)
    → var_of s v ≡ var
    → is_empty var ≡ false → IsGrounded call var (row_of rows v) → HoldsVariables g.bag g.thread call s rows
    → HaveItems g.memory g.locked s rows → Named g (row_of rows v)
named_var g call s rows v Empty is some grounded holds items = absurd cc
named_var g call s rows v (Owned k) is some grounded holds items =
    let one : held (reference_of g.thread (ByVariable call.depth v) grounded.0) g.bag ≡ 1 =
    variable_has g.bag g.thread call s rows v grounded.0 (ap is_owned is) grounded.1 holds in
    record { object = grounded.0; is_row = grounded.1; backs = ByOwn (ByVariable call.depth v) (omega (arith, one)) }
named_var g call s rows v (Caller k) is some grounded holds items =
    let by = grounded.2 in
    let one : held (reference_of g.thread by grounded.0) g.bag ≡ 1 =
    holds.outside by grounded.0 grounded.3 ∙ ap one_if grounded.4 in
    record { object = grounded.0; is_row = grounded.1; backs = ByOwn by (omega (arith, one)) }
named_var g call s rows v (Locked k) is some grounded holds items =
    let item = items v grounded.0 (ap borrows_item is) grounded.1 in
    record {
      object = grounded.0;
      is_row = grounded.1;
      backs = ByList item.list item.cell item.is_locked item.holds;
    }

-- The same at an instruction.
pub named_at : (program : Program) (context : Context) (g : Scene) (before : Place) (at : ℕ) (rows : List (Option ℕ))
    (s : State)
    (i : Instr) (v : ℕ) → StandsAt program context g before at rows s i → is_empty (var_of s v) ≡ false
    → Named g (row_of rows v)
named_at program context g before at rows s i v here some =
    named_var g (call_of program context) s rows v (var_of s v) refl some (here.inside.grounded v)
    (holds_variables g.bag g.thread (call_of program context) s rows here.holds) here.items

pub given_referenced : (bag : List Reference) (t : ℕ) (call : Activation) (s : State) (variables : List (Option ℕ))
    (from row : ℕ)
    → is_owned (var_of s from) ≡ true → row_of variables from ≡ Some row
    → Holds bag t (of_variables call s variables) → 0 < references_to row bag
given_referenced bag t call s variables from row owned is holds =
    let one : held (reference_of t (ByVariable call.depth from) row) bag ≡ 1 =
    owned_has bag t call s variables from row owned is holds in
    omega (arith, one, held-le-references_to (reference_of t (ByVariable call.depth from) row) bag)

-- ---- the lock

-- The thread holds what it has locked.
pub lock_held : (program : Program) (context : Context) (g : Scene) (before : Place) (at : ℕ)
    (rows : List (Option ℕ)) (s : State) (i : Instr) → StandsAt program context g before at rows s i
    → (x : ℕ) → g.locked ≡ Some x → HeldLocked g.bag g.thread (depth_of context) x s.locked
lock_held program context g before at rows s i here x locked =
    let call = call_of program context in
    guards_held g.bag g.thread call s rows s.locked g.locked x here.guards locked here.inside.grounded
    (holds_variables g.bag g.thread call s rows here.holds)

-- A duty that gives up nothing leaves it so.
pub keeps_all : (program : Program) (context : Context) (g : Scene) (before : Place) (at : ℕ)
    (rows : List (Option ℕ)) (s : State) (i : Instr) (d : Duty) → StandsAt program context g before at rows s i
    → ((k : Holding) (object : ℕ) → extra d k object ≡ false)
    → (x : ℕ) → g.locked ≡ Some x → HeldBeside g.bag g.thread x d
keeps_all program context g before at rows s i d here none x locked =
    let lock = lock_held program context g before at rows s i here x locked in
    record { by = lock.by; held_so = lock.held_so; beside = none lock.by x }

-- Giving up what a variable owns leaves it so, if the variable isn't the locked one.
pub keeps_given : (program : Program) (context : Context) (g : Scene) (before : Place) (at : ℕ)
    (rows : List (Option ℕ)) (s : State) (i : Instr) (row from : ℕ) → StandsAt program context g before at rows s i
    → names s.locked from ≡ false
    → (x : ℕ) → g.locked ≡ Some x → HeldBeside g.bag g.thread x (ReleaseLoad row (by_variable context from))
keeps_given program context g before at rows s i row from here free x locked =
    gives_keeps g.bag g.thread (depth_of context) row x from s.locked (ReleaseLoad row (by_variable context from)) free
    (λ k object. refl) (lock_held program context g before at rows s i here x locked)
