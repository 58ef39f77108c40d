-- The item of a cell.
use Rattle.std.specs.Prelude.{ℕ, zero, suc, Option, None, Some}

-- the row that a cell's word names, if the cell isn't empty
abbrev pub item_in : ℕ → Option ℕ
item_in zero = None
item_in (suc row) = Some row
