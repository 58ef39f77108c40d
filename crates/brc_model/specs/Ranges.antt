-- The rows and cells that threads' duties name exist, in agendas and among the duties put aside.
use Rattle.std.specs.Prelude.{◌≡◌, ℕ, ◌+◌, ◌<◌, ◌≤◌, true, List, [], ◌∷◌, Some, slice_get}
use Rattle.brc_model.specs.declared.duty.Duty.{Duty}
use Rattle.brc_model.specs.declared.duty.Duty.TheVariants.{SettleCell, BirthKind, CellLoad, CellSwap}
use Rattle.brc_model.specs.declared.address.Address.TheVariants.{KindOf}
use Rattle.brc_model.specs.Duties.{cells_of}
use Rattle.brc_model.specs.declared.actor.Actor.{Actor}
use Rattle.brc_model.specs.Machine.{Machine}
use Rattle.brc_model.specs.OpenWork.{is_about}
use Rattle.brc_model.specs.declared.layout.Layout.{Layout}
use Rattle.brc_model.specs.Layout.{row_count}

-- the number of cells that a duty names
abbrev pub cells_named : Duty → ℕ
cells_named (SettleCell x i n) = n
cells_named (BirthKind x h w) = cells_of w
cells_named (CellLoad x i) = i + 1
cells_named (CellSwap x i y h) = i + 1
cells_named _ = 0

-- The layout has the duty's row, and as many cells as the duty names.
pub record IsSmall (layout : Layout) (d : Duty) : Type 0 where
  pub row : (x : ℕ) → is_about x d ≡ true → x < row_count layout
  pub cells : cells_named d ≤ layout.cells

abbrev pub AreSmall : Layout → List Duty → Type 0
AreSmall layout [] = Unit {0}
AreSmall layout (d ∷ rest) = IsSmall layout d × AreSmall layout rest

-- No kind word names more cells than a list may have.
abbrev pub HasFewCells : Machine → Type 0
HasFewCells m = (x : ℕ) → cells_of (m.memory (KindOf x)) ≤ m.layout.cells

-- 1 if the duty stores a reference in a cell, else 0.
abbrev pub swaps : Duty → ℕ
swaps (CellSwap x i y h) = 1
swaps _ = 0

pub record Ranges (n : ℕ) (m : Machine) : Type 0 where
  pub kinds : HasFewCells m
  pub each : (t : ℕ) (a : Actor) → slice_get m.actors t ≡ Some a → AreSmall m.layout a.agenda
  pub aside : (t : ℕ) (a : Actor) → slice_get m.actors t ≡ Some a → AreSmall m.layout a.aside
