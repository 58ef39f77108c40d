-- A thread's step keeps every row's invariant: `RowsAfter.rows_after`.
--
-- In order: `RowSteps` and `RowMerges` (one row's numbers, rule by rule), `Weights` (what the duties of all threads
-- weigh), `RowsAfterStep` and `RowsAfterElsewhere` (rows that the step isn't about), then duty by duty `RowsAfterOwn`
-- to `RowsAfterBirths`. `Closing` and `ClosedAfter` are about the lives of rows, `UsesAfter` and `BlanksAfter` about
-- used and unused rows, `KindsAfter` about kind words, `GatesAfter` about gates, and `CellsAfter` about cells.
-- `ResourcesElsewhere` to `ResourcesAfter` are about the resources of files and sockets, over `Finalisers` and
-- `SettlingWeights` (what the duties that settle a row weigh) and `Lenders` (who has a resource lent).

pub mod RowSteps
pub mod RowMerges
pub mod Weights
pub mod RowsAfterStep
pub mod RowsAfterElsewhere
pub mod RowsAfterOwn
pub mod RowsAfterLocal
pub mod RowsAfterShared
pub mod RowsAfterMarks
pub mod RowsAfterMerge
pub mod RowsAfterBirths
pub mod RowsAfter
pub mod Closing
pub mod ClosedAfter
pub mod UsesAfter
pub mod KindsAfter
pub mod GatesAfter
pub mod CellsAfter
pub mod BlanksAfter
pub mod Finalisers
pub mod Lenders
pub mod SettlingWeights
pub mod ResourcesElsewhere
pub mod ResourcesLent
pub mod ResourcesSettled
pub mod ResourcesAfter
