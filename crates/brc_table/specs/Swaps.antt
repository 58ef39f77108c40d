-- A hand swaps a cell of a list that it has locked, or is to finalise (Python/C API manual, List Objects:
-- `PyList_SetItem` steals the reference to the new item). The new item's reference goes from the hand into the cell,
-- and the old one's from the cell to the hand. A cell's word is 0, or the row of its item plus 1.
use Rattle.std.specs.Prelude.{◌≡◌, ℕ, zero, suc, ◌<◌, ◌≤◌, Some, List, [], ◌∷◌, ◌++◌, length}
use Rattle.atomic_table.specs.Table.{Me}
use Rattle.brc_model.specs.declared.address.Address.TheVariants.{Cell}
use Rattle.brc_model.specs.declared.layout.Layout.{Layout}
use Rattle.brc_model.specs.Layout.{row_count}
use Rattle.brc_table.specs.declared.view.View.{View}
use Rattle.brc_table.specs.Views.{RowsAreThere, with_reference, without_reference, rested}
use Rattle.brc_table.specs.KnownWords.{KnowsCell, known_cell}
use Rattle.brc_table.specs.Hands.{most_references, HoldsOne, KeepsLock, MayChange, HasNoWork, HasNoRetain, IsRunning}

-- the references with that to the item of the word, and without it
abbrev pub with_item : Layout → ℕ → List ℕ → List ℕ
with_item layout zero rows = rows
with_item layout (suc y) rows = with_reference layout y rows

abbrev pub without_item : Layout → ℕ → List ℕ → List ℕ
without_item layout zero rows = rows
without_item layout (suc y) rows = without_reference layout y rows

-- the hand after it has swapped the cell's word, which it found, for another one
abbrev pub swapped : View → ℕ → ℕ → ℕ → ℕ → View
swapped v x i word found = record (rested v) {
  references = with_item v.layout found (without_item v.layout word v.references);
  trace = v.trace ++ record { address = Cell x i; found = found; left = word } ∷ [];
}

-- The hand may put the item of the word into a cell: it holds a reference to it, has nothing to do about it, and keeps
-- a reference to it if it has locked it.
abbrev pub MayPut : View → ℕ → Type 0
MayPut v zero = Unit {0}
MayPut v (suc y) = HoldsOne v y × HasNoWork v y × KeepsLock v y

-- The hand may swap the cell: it may change the list's cells, knows that the list has the cell, retains nothing, and
-- may put the item in. It has room for the reference that comes out.
pub record MaySwap (v : View) (x i word : ℕ) : Type 0 where
  pub running : IsRunning v
  pub changes : MayChange v x
  pub knows : KnowsCell v x i
  pub retains : HasNoRetain v
  pub puts : MayPut v word
  pub few : length v.references < most_references

-- What a swap makes of its hand: the hand learns what the cell held, which is what it has last seen or stored there.
abbrev pub Swaps : {S : Type 0} → ℕ → ℕ → ℕ → Me S View → ℕ → Me S View → Type 0
Swaps x i word me found after =
    (after.0 ≡ swapped me.0 x i word found) × (after.1 ≡ me.1) × (found ≤ row_count me.0.layout) × RowsAreThere after.0
    × ((seen : ℕ) → known_cell x i me.0 ≡ Some seen → found ≡ seen)
