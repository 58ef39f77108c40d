-- What is promised of an accepted module (`Safe.accepted_is_safe`) and of each event follows from the invariant.
--
-- In order: `Agreeing`; `TrueStates`, the states of an acceptable module's points; `Safe`, over `Keeping/StepCases`; `Counting`, the laws of the counting machine; `StatesRise` to
-- `ClosedOnce`; `Gates`, `Births`, `MarksWatched`, `KindWords` and `CellsUnderLock`; `Guarded`, what of these holds of
-- running threads, and `FieldsFree` and `FieldsKnown`, what they know of fields; `RowLaws`, which extends these laws to
-- every list of events, as `HandedMerges` does its own; `KnownKinds` and `BorrowedItems`, what the checker says of
-- kinds and of borrowed items; then the laws of the world: `Worlds`, `AgendaMoves`, `Emptying`, `Emptied`, `Leading`,
-- `Turns`, `Elsewhere`, `StepsMove`, `LocksWait`, `Trace`, `CallLimits`, `CallsLeft`, `Bounded`, `Faults`, `HostCalls`.
-- `Rules` proves that the named rules are the steps. `Worked`, `WorkedCalls` and `WorkedStatics` compute some
-- schedules.

pub mod Agreeing
pub mod AtTheEnd
pub mod TrueStates
pub mod Safe
pub mod Counting
pub mod StatesRise
pub mod Immortals
pub mod Owners
pub mod ClosedOnce
pub mod Gates
pub mod Births
pub mod MarksWatched
pub mod ResourcesClose
pub mod KindWords
pub mod CellsUnderLock
pub mod Guarded
pub mod FieldsFree
pub mod FieldsKnown
pub mod RowLaws
pub mod HandedMerges
pub mod KnownKinds
pub mod BorrowedItems
pub mod Worlds
pub mod AgendaMoves
pub mod Emptying
pub mod Emptied
pub mod Leading
pub mod Turns
pub mod Elsewhere
pub mod StepsMove
pub mod Stops
pub mod LocksWait
pub mod Trace
pub mod CallLimits
pub mod CallsLeft
pub mod Bounded
pub mod Faults
pub mod HostCalls
pub mod Rules
pub mod Worked
pub mod WorkedCalls
pub mod WorkedStatics
pub mod Ending
