-- What a thread knows of the items of the list that it has locked: a borrowed item is in one of the list's cells, and a
-- cell that the thread is about to use is one of the list's. (Python/C API manual, Reference Count Details: a borrowed
-- reference is good for as long as the list has the item.)
use Rattle.std.specs.Prelude.{◌≡◌, ℕ, ◌+◌, ◌<◌, Bool, true, false, List, Option, Some, slice_get}
use Rattle.brc_lang.specs.declared.module.Function.{Function}
use Rattle.brc_lang.specs.declared.module.Instr.{Instr}
use Rattle.brc_lang.specs.declared.module.Instr.TheVariants.{Borrow, Fetch, Set, Put}
use Rattle.brc_model.specs.declared.state.Slot.{Slot}
use Rattle.brc_model.specs.declared.state.Slot.TheVariants.{Locked}
use Rattle.brc_model.specs.declared.state.State.{State}
use Rattle.brc_model.specs.declared.state.Exit.{Exit}
use Rattle.brc_model.specs.declared.actor.Place.{Place}
use Rattle.brc_model.specs.declared.actor.Place.TheVariants.{Idle, InCall, Inside, Stopping, Exiting}
use Rattle.brc_model.specs.declared.actor.Stage.{Stage}
use Rattle.brc_model.specs.declared.actor.Stage.TheVariants.{InRange, Found, Retained}
use Rattle.brc_model.specs.declared.address.Address.{Address}
use Rattle.brc_model.specs.declared.address.Address.TheVariants.{KindOf, Cell}
use Rattle.brc_model.specs.SlotStates.{var_of}
use Rattle.brc_model.specs.Paths.{At, path_end}
use Rattle.brc_model.specs.Threads.{function_in, row_of}
use Rattle.brc_model.specs.Duties.{cells_of}
use Rattle.brc_model.specs.Actions.{StepActor}
use Rattle.brc_model.specs.StepMachine.{StepMachine}

-- A cell of the list that the thread has locked holds the row.
pub record IsItem (memory : Address → ℕ) (locked : Option ℕ) (x : ℕ) : Type 0 where
  pub list : ℕ
  pub cell : ℕ
  pub is_locked : locked ≡ Some list
  pub holds : memory (Cell list cell) ≡ x + 1

abbrev pub borrows_item : Slot → Bool
borrows_item (Locked k) = true
borrows_item _ = false

-- Each variable that borrows from the locked list names an item of it.
abbrev pub HaveItems : (Address → ℕ) → Option ℕ → State → List (Option ℕ) → Type 0
HaveItems memory locked s variables =
    (v x : ℕ) → borrows_item (var_of s v) ≡ true → row_of variables v ≡ Some x → IsItem memory locked x

-- The list in the variable has a cell with the index.
abbrev pub HasCell : (Address → ℕ) → List (Option ℕ) → ℕ → ℕ → Type 0
HasCell memory variables list index =
    (x : ℕ) → row_of variables list ≡ Some x → index < cells_of (memory (KindOf x))

-- What a thread knows inside an instruction that uses a cell.
abbrev pub StageKnows : (Address → ℕ) → Option ℕ → List (Option ℕ) → Stage → Option Instr → Type 0
StageKnows memory locked variables InRange (Some (Borrow to list index otherwise)) =
    HasCell memory variables list index
StageKnows memory locked variables InRange (Some (Fetch to list index otherwise)) =
    HasCell memory variables list index
StageKnows memory locked variables InRange (Some (Set list index from otherwise)) =
    HasCell memory variables list index
StageKnows memory locked variables InRange (Some (Put list index from otherwise)) =
    HasCell memory variables list index
StageKnows memory locked variables Retained (Some (Put list index from otherwise)) =
    HasCell memory variables list index
StageKnows memory locked variables (Found item) i = IsItem memory locked item
StageKnows memory locked variables stage i = Unit {0}

-- What a thread inside an instruction knows of items.
pub record KnowsInside (f : Function) (memory : Address → ℕ) (locked : Option ℕ) (at : ℕ)
    (variables : List (Option ℕ)) (stage : Stage) : Type 0 where
  pub items : (exits : List Exit) (s : State) → path_end f exits ≡ At at s → HaveItems memory locked s variables
  pub cell : StageKnows memory locked variables stage (slice_get f.code at)

-- What a thread knows of items at its place, in the states in which paths reach its point.
abbrev pub KnowsItems : Function → (Address → ℕ) → Option ℕ → Place → Type 0
KnowsItems f memory locked (Idle left) = Unit {0}
KnowsItems f memory locked (InCall context at variables) =
    (exits : List Exit) (s : State) → path_end f exits ≡ At at s → HaveItems memory locked s variables
KnowsItems f memory locked (Inside context at variables stage) = KnowsInside f memory locked at variables stage
KnowsItems f memory locked (Stopping lock calls) = Unit {0}
KnowsItems f memory locked Exiting = Unit {0}

-- each thread's borrowed items are in the list that it has locked
abbrev pub ItemsAreThere : StepMachine → Type 0
ItemsAreThere m =
    (t : ℕ) (a : StepActor) → slice_get m.actors t ≡ Some a
    → KnowsItems (function_in m.functions a.function a.place) m.memory a.actor.locked a.place
