-- What holds between any two steps of running threads beside the counts: marks that are set are watched, cells and
-- fields are guarded by their row's gate, owners alone count in local words, and a thread that is gone holds nothing.
use Rattle.std.specs.Prelude.{true, false, ◌≡◌, ◌≢◌, ◌⊎◌, ℕ, List, [], None, Some, slice_get}
use Rattle.brc_word.specs.declared.values.TheConstants.{UNSET}
use Rattle.brc_word.specs.Words.{locked_word}
use Rattle.brc_model.specs.declared.duty.Duty.{Duty}
use Rattle.brc_model.specs.declared.actor.Status.TheVariants.{Gone}
use Rattle.brc_model.specs.declared.address.Address.TheVariants.{Local, Gate, Cell, Field}
use Rattle.brc_model.specs.Layout.{block_of}
use Rattle.brc_model.specs.Duties.{address_of}
use Rattle.brc_model.specs.declared.actor.Actor.{Actor}
use Rattle.brc_model.specs.Machine.{Machine, Unborn, Dying, same_address, machine_by_duty, mark_of}
use Rattle.brc_model.specs.Knowledge.{HasChained, GuardsCells}
use Rattle.brc_model.specs.Accounts.{Accounts, HoldsNone}
use Rattle.brc_model.specs.OpenWork.{is_finalising}
use Rattle.brc_model.specs.Progress.{Runs}
use Rattle.brc_model.specs.Watched.{IsWatched}
use Rattle.brc_model.specs.Counting.{Counts}
use Rattle.brc_model.specs.CountingLaws.{ComesNext}

-- Each mark that is set is watched: the thread of its block runs, or its exit will scan the mark, or some thread will
-- look at it.
abbrev pub QueuedMarksAreWatched : Type 0
QueuedMarksAreWatched = (p : Accounts) (n : ℕ) (m : Machine) (x : ℕ) → Counts p n m
    → mark_of m.layout m.memory x ≢ UNSET
    → IsWatched m x

-- The thread has locked the row's object, and the object's gate names the thread.
pub record HoldsGate (m : Machine) (t x : ℕ) : Type 0 where
  pub actor : Actor
  pub found : slice_get m.actors t ≡ Some actor
  pub locked : actor.locked ≡ Some x
  pub gate : m.memory (Gate x) ≡ locked_word t

-- Only the thread that holds the row's gate changes a cell of the row, or a step of the row's deallocation.
abbrev pub CellsAreGuarded : Type 0
CellsAreGuarded =
    (p : Accounts) (n : ℕ) (m : Machine) (t : ℕ) (a : Actor) (d : Duty) (rest : List Duty) (x i : ℕ) → Counts p n m
    → ComesNext m t a d rest → (machine_by_duty m t a d rest).memory (Cell x i) ≢ m.memory (Cell x i)
    → HoldsGate m t x ⊎ ((m.life x ≡ Dying t) × (is_finalising d x ≡ true))

-- What a thread's step leaves as it is: every cell of a list that another thread has locked or chained. The step chains
-- no row for another thread, and one for its own only if it is a step on the row's gate.
pub record LeavesGuarded (m : Machine) (t : ℕ) (a : Actor) (d : Duty) (rest : List Duty) : Type 0 where
  pub others : (u : ℕ) (b : Actor) (x : ℕ) → slice_get m.actors u ≡ Some b → u ≢ t
      → GuardsCells (machine_by_duty m t a d rest) u b x
      → GuardsCells m u b x × ((i : ℕ) → (machine_by_duty m t a d rest).memory (Cell x i) ≡ m.memory (Cell x i))
  pub own : (x : ℕ) → same_address (address_of m.layout t a.head d) (Gate x) ≡ false
      → HasChained (machine_by_duty m t a d rest) t x → HasChained m t x

abbrev pub GuardedCellsStay : Type 0
GuardedCellsStay = (p : Accounts) (n : ℕ) (m : Machine) (t : ℕ) (a : Actor) (d : Duty) (rest : List Duty) → Counts p n m
    → ComesNext m t a d rest → LeavesGuarded m t a d rest

-- Only a thread that holds the row's gate, that deallocates the row, or in whose block the row isn't born yet takes a
-- resource out of the row's field or puts it there.
abbrev pub FieldsAreGuarded : Type 0
FieldsAreGuarded =
    (p : Accounts) (n : ℕ) (m : Machine) (t : ℕ) (a : Actor) (d : Duty) (rest : List Duty) (x : ℕ) → Counts p n m
    → ComesNext m t a d rest → (machine_by_duty m t a d rest).memory (Field x) ≢ m.memory (Field x)
    → HoldsGate m t x ⊎ ((m.life x ≡ Dying t) ⊎ ((m.life x ≡ Unborn) × (block_of m.layout x ≡ t)))

-- While the thread of a row's block runs, a step that changes the row's local word is that thread's.
abbrev pub OwnersCountAlone : Type 0
OwnersCountAlone =
    (p : Accounts) (n : ℕ) (m : Machine) (t : ℕ) (a : Actor) (d : Duty) (rest : List Duty) (x : ℕ) → Counts p n m
    → ComesNext m t a d rest → Runs m (block_of m.layout x)
    → (machine_by_duty m t a d rest).memory (Local x) ≢ m.memory (Local x) → t ≡ block_of m.layout x

-- The thread has nothing to do, holds no reference, no lock and no resource, and its dying chain is empty.
pub record HoldsNothing (account : Accounts) (t : ℕ) (a : Actor) : Type 0 where
  pub none : HoldsNone (account t)
  pub agenda : a.agenda ≡ []
  pub aside : a.aside ≡ []
  pub settled : a.head ≡ 0
  pub unlocked : a.locked ≡ None
  pub returned : a.lent ≡ None

-- A thread that is gone holds nothing.
abbrev pub GoneThreadsHoldNothing : Type 0
GoneThreadsHoldNothing = (p : Accounts) (n : ℕ) (m : Machine) (t : ℕ) (a : Actor) → Counts p n m
    → slice_get m.actors t ≡ Some a → a.status ≡ Gone → HoldsNothing p t a
