-- What a running thread does with a cell of the list that it has locked, in one step: it puts a reference of its own
-- in, or leaves the cell empty, and what the cell held is a reference of the thread's from then on. (Python/C API
-- manual, List Objects: `PyList_SetItem` steals the reference to the new item. The old item's is handed to the caller.)
use Rattle.std.specs.Prelude.{◌≡◌, ◌⊎◌, ℕ, zero, suc, ◌<◌, ◌≤◌, List, [], ◌∷◌, Some}
use Rattle.brc_model.specs.declared.duty.Holding.TheVariants.{AsCaller}
use Rattle.brc_model.specs.declared.address.Address.TheVariants.{KindOf, Cell}
use Rattle.brc_model.specs.declared.layout.Layout.{Layout}
use Rattle.brc_model.specs.Layout.{row_count, IsCounted}
use Rattle.brc_model.specs.AbstractState.{Move, PassOn, ByThread, ByCell, moved}
use Rattle.brc_model.specs.References.{reference_of, cell_reference}
use Rattle.brc_model.specs.Duties.{cells_of}
use Rattle.brc_model.specs.declared.actor.Actor.{Actor}
use Rattle.brc_model.specs.Machine.{Machine, written}
use Rattle.brc_model.specs.Accounts.{Account, Accounts, most_lent}
use Rattle.brc_model.specs.Knowledge.{HasNoRetainAside}
use Rattle.brc_model.specs.Counting.{Counts, with_account, with_one_more, with_one_less, IsReady, HasNoneAbout, MayGiveUp}
use Rattle.brc_model.specs.CountingLaws.{IsFirstOfChain}

-- ---- the word of a cell: 0, or the row of its item plus 1

-- the account with the item of the word more
abbrev pub with_item : Account → ℕ → Account
with_item account zero = account
with_item account (suc y) = with_one_more account AsCaller y

-- the account with the item of the word less
abbrev pub without_item : Account → ℕ → Account
without_item account zero = account
without_item account (suc y) = with_one_less account AsCaller y

-- the item's reference goes from the cell to the thread
abbrev pub take_item : ℕ → ℕ → ℕ → ℕ → List Move
take_item t x i zero = []
take_item t x i (suc y) = PassOn (cell_reference x i y) (ByThread t AsCaller) ∷ []

-- the item's reference goes from the thread to the cell
abbrev pub put_item : ℕ → ℕ → ℕ → ℕ → List Move
put_item t x i zero = []
put_item t x i (suc y) = PassOn (reference_of t AsCaller y) (ByCell x i) ∷ []

-- ---- the step

-- the machine after thread t has swapped the cell's word for another one
abbrev pub cell_swapped : Machine → ℕ → ℕ → ℕ → ℕ → Machine
cell_swapped m t x i word = record {
  layout = m.layout;
  memory = written m.memory (Cell x i) word;
  actors = m.actors;
  abstract = moved (moved m.abstract (take_item t x i (m.memory (Cell x i)))) (put_item t x i word);
  life = m.life;
}

-- The thread may put the item of the word into a cell: it holds a reference to it, none of its work is about it, and if
-- it has locked it, it holds a second one.
abbrev pub MayPut : Account → Actor → ℕ → Type 0
MayPut account a zero = Unit {0}
MayPut account a (suc y) = HasNoneAbout a y × (1 ≤ account AsCaller y) × MayGiveUp account a y

-- The account has room for a reference to the item of the word.
abbrev pub HasRoomFor : Layout → Account → ℕ → Type 0
HasRoomFor layout account zero = Unit {0}
HasRoomFor layout account (suc y) = IsCounted layout y → account AsCaller y < most_lent

-- A cell names a row of the machine.
abbrev pub ItemsAreThere : Type 0
ItemsAreThere = (p : Accounts) (n : ℕ) (m : Machine) (x i y : ℕ) → Counts p n m → m.memory (Cell x i) ≡ suc y
    → y < row_count m.layout

-- A ready thread that retains nothing swaps a cell of the list that it has locked, or of the first object of its dying
-- chain.
abbrev pub CellsAreSwapped : Type 0
CellsAreSwapped = (p : Accounts) (n : ℕ) (m : Machine) (t : ℕ) (a : Actor) (x i word : ℕ) → Counts p n m
    → IsReady m t a → (a.locked ≡ Some x) ⊎ IsFirstOfChain a x → HasNoRetainAside a
    → i < cells_of (m.memory (KindOf x))
    → MayPut (p t) a word → HasRoomFor m.layout (p t) (m.memory (Cell x i))
    → Counts (with_account p t (without_item (with_item (p t) (m.memory (Cell x i))) word)) n
    (cell_swapped m t x i word)
