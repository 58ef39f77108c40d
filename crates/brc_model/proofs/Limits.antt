-- Words and numbers stay below their bounds: `StepsAreWithin.steps_within`.
--
-- In order: `Ways` (in which an object may be held), `FewHeld` (so it has few references), `CellShares` and `Shares`
-- (and they are those of the cells and of the threads), `Ranges` and `RangesEvents` (the rows that duties name exist),
-- `Bounds` (words), `StepsAreWithin`.

pub mod Ways
pub mod FewHeld
pub mod CellShares
pub mod Shares
pub mod Ranges
pub mod RangesEvents
pub mod Bounds
pub mod StepsAreWithin
