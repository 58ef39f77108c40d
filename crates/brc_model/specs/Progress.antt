-- What an event may change in the words of a row, and what it never changes. (PEP 703, Biased Reference Counting: an
-- object's state goes from default through queued to merged, and only the owning thread changes the local count.
-- Immortalization: immortal objects stay as they are.)
use Rattle.std.specs.Prelude.{◌≡◌, ◌≢◌, ◌⊎◌, ℕ, ◌+◌, ◌<◌, ◌≤◌, ◌==◌, true, false, List, [], ◌∷◌, ◌++◌, count_by, slice_get, Some, ◌↔◌, Option}
use Rattle.brc_lang.specs.declared.module.Module.{Module}
use Rattle.brc_model.specs.declared.state.State.{State}
use Rattle.brc_model.specs.declared.thread.Call.{Call}
use Rattle.brc_model.specs.declared.thread.Choice.{Choice}
use Rattle.brc_model.specs.AbstractState.{is_among}
use Rattle.brc_model.specs.Safety.{AreCalls}
use Rattle.brc_model.specs.Tables.{AreTrueWhereReached}
use Rattle.brc_word.specs.Words.{owner_part, phase_part, is_immortal_word, closed_word, dead_word, merged_word}
use Rattle.brc_model.specs.declared.duty.Reason.TheVariants.{Handed}
use Rattle.brc_model.specs.declared.duty.Duty.{Duty}
use Rattle.brc_model.specs.declared.duty.Duty.TheVariants.{MergeExchange}
use Rattle.brc_model.specs.declared.actor.Status.TheVariants.{Running}
use Rattle.brc_model.specs.declared.address.Address.TheVariants.{Local, Shared, Gate, KindOf, Cell, Field, Resource}
use Rattle.brc_model.specs.declared.actor.Actor.{Actor}
use Rattle.brc_model.specs.Machine.{Unborn, Dying, Machine, mark_of}
use Rattle.brc_model.specs.Actions.{StepActor}
use Rattle.brc_model.specs.StepMachine.{StepMachine, counting, next_machine, first_machine, machine_after}
use Rattle.brc_model.specs.CountingLaws.{ComesNext}
use Rattle.brc_model.specs.Limits.{row_limit}
use Rattle.brc_model.specs.Layout.{row_count, block_of, index_of, IsCounted}

-- ---- laws of a module

-- P holds for each machine that the module's events lead to, whose states are true at each point that a path reaches
abbrev pub Always : (StepMachine → Type 0) → Module → Type 0
Always P p =
    (states : ℕ → ℕ → Option State) (rows : ℕ) (calls : List Call) (events : List (ℕ × Choice))
    → AreTrueWhereReached p states → 0 < rows → rows ≤ row_limit → AreCalls p calls
    → P (machine_after (first_machine p states rows calls) events)

-- P holds for each event, by any thread, at each such machine
abbrev pub AtEachEvent : (StepMachine → ℕ × Choice → Type 0) → Module → Type 0
AtEachEvent P p = (event : ℕ × Choice) → Always (λ m. P m event) p

-- ---- laws of one event

-- no event lowers a row's state, in the order default, queued, merged
abbrev pub StatesRise : StepMachine → ℕ × Choice → Type 0
StatesRise m event = (x : ℕ) → phase_part (m.memory (Shared x)) ≤ phase_part ((next_machine m event).memory (Shared x))

abbrev pub Runs : Machine → ℕ → Type 0
Runs m t = (a : Actor) × (slice_get m.actors t ≡ Some a) × (a.status ≡ Running)

-- while a row's owner runs, only the owner's events change the row's local word
abbrev pub OnlyOwnersCount : StepMachine → ℕ × Choice → Type 0
OnlyOwnersCount m event =
    (x owner : ℕ) → owner_part (m.memory (Local x)) ≡ owner + 1 → Runs (counting m) owner
    → (next_machine m event).memory (Local x) ≢ m.memory (Local x) → event.0 ≡ owner

-- a born row keeps its owner, or nobody owns it any more
abbrev pub OwnersStay : StepMachine → ℕ × Choice → Type 0
OwnersStay m event =
    (x : ℕ) → m.life x ≢ Unborn
    → (owner_part ((next_machine m event).memory (Local x)) ≡ owner_part (m.memory (Local x)))
    ⊎ (owner_part ((next_machine m event).memory (Local x)) ≡ 0)

-- a closed row stays closed
abbrev pub ClosedStays : StepMachine → ℕ × Choice → Type 0
ClosedStays m event = (x : ℕ) → is_among x m.abstract.closed ≡ true
    → is_among x (next_machine m event).abstract.closed ≡ true

-- an event closes nothing, or one row that wasn't closed before
abbrev pub ClosesAnew : StepMachine → ℕ × Choice → Type 0
ClosesAnew m event =
    ((next_machine m event).abstract.closed ≡ m.abstract.closed)
    ⊎ ((row : ℕ) × (is_among row m.abstract.closed ≡ false)
    × ((next_machine m event).abstract.closed ≡ m.abstract.closed ++ row ∷ []))

-- the row's words are the same in both machines, but its gate and its cells, which change under its lock
pub record StaysAt (m next : StepMachine) (x : ℕ) : Type 0 where
  pub local : next.memory (Local x) ≡ m.memory (Local x)
  pub shared : next.memory (Shared x) ≡ m.memory (Shared x)
  pub kind : next.memory (KindOf x) ≡ m.memory (KindOf x)
  pub mark : mark_of next.layout next.memory x ≡ mark_of m.layout m.memory x
  pub field : next.memory (Field x) ≡ m.memory (Field x)
  pub resource : next.memory (Resource x) ≡ m.memory (Resource x)

-- no event changes an immortal row's words, but those that a lock guards
abbrev pub ImmortalsStay : StepMachine → ℕ × Choice → Type 0
ImmortalsStay m event = (x : ℕ) → is_immortal_word (m.memory (Local x)) ≡ true → StaysAt m (next_machine m event) x

-- the thread has locked the list
abbrev pub HasLock : Machine → ℕ → ℕ → Type 0
HasLock m t x = (a : Actor) × (slice_get m.actors t ≡ Some a) × (a.locked ≡ Some x)

-- only the thread that has locked a list, or that deallocates it, changes the list's cells
abbrev pub CellsChangeUnderLock : StepMachine → ℕ × Choice → Type 0
CellsChangeUnderLock m event =
    (x i : ℕ) → (next_machine m event).memory (Cell x i) ≢ m.memory (Cell x i)
    → HasLock (counting m) event.0 x ⊎ (m.life x ≡ Dying event.0)

-- ---- laws of each machine: born rows

-- no object is born twice
abbrev pub BornOnce : StepMachine → Type 0
BornOnce m = (x : ℕ) → count_by (λ y. y == x) m.abstract.born ≤ 1

-- the list of the born objects has exactly the born rows that aren't immortal
abbrev pub BornListed : StepMachine → Type 0
BornListed m = (x : ℕ) → (is_among x m.abstract.born ≡ true) ↔ ((IsCounted m.layout x) × (m.life x ≢ Unborn))

-- each born row is one of the machine's rows
abbrev pub BornAreThere : StepMachine → Type 0
BornAreThere m = (x : ℕ) → m.life x ≢ Unborn → x < row_count m.layout

-- each row that the thread of its block has used is born
abbrev pub UsedAreBorn : StepMachine → Type 0
UsedAreBorn m = (x : ℕ) (a : StepActor) → slice_get m.actors (block_of m.layout x) ≡ Some a
    → index_of m.layout (block_of m.layout x) x < a.actor.used → m.life x ≢ Unborn

-- ---- laws of each machine: merges

-- A merge for a handed reference leaves a count of at least 1, so nothing dies by it.
abbrev pub HandedMergesLeaveACount : StepMachine → Type 0
HandedMergesLeaveACount m =
    (t x carried word : ℕ) (a : Actor) (rest : List Duty)
    → ComesNext (counting m) t a (MergeExchange x carried word Handed) rest → m.memory (Shared x) ≡ word
    → merged_word word carried ≢ dead_word

-- ---- laws of each machine: closed rows

-- each closed row was born
abbrev pub ClosedWereBorn : StepMachine → Type 0
ClosedWereBorn m = (x : ℕ) → is_among x m.abstract.closed ≡ true → is_among x m.abstract.born ≡ true

-- no row has been closed twice
abbrev pub ClosedOnce : StepMachine → Type 0
ClosedOnce m = (x : ℕ) → count_by (λ y. y == x) m.abstract.closed ≤ 1

-- a row's gate has the closed word exactly if the abstract state lists the row as closed
abbrev pub GatesTell : StepMachine → Type 0
GatesTell m = (x : ℕ) → (m.memory (Gate x) ≡ closed_word) ↔ (is_among x m.abstract.closed ≡ true)

-- each born row is among the rows that the thread of its block has used
abbrev pub BornAreUsed : StepMachine → Type 0
BornAreUsed m =
    (x : ℕ) → m.life x ≢ Unborn → (a : StepActor) × (slice_get m.actors (block_of m.layout x) ≡ Some a)
    × (index_of m.layout (block_of m.layout x) x < a.actor.used)
