-- The theorem in two parts: doing a thread's next duty isn't bad and keeps the invariant (`Kept.duty_kept`); taking up
-- work keeps the invariant if the work meets its condition (`Kept.kept_sits`).
--
-- In order: `NotBad` and `KeepsDuty` (a duty), `Replaced`, `Weightless`, `Sits`, `SilentMoves` and `SilentSteps` (work
-- that a thread takes up), and `Kept`, which has both parts. `Rearranging` puts a duty aside and takes it back.
-- `WorkAside`, `WorkBegins`, `NextRows`, `BirthsBegin` and `FreeReferences` are the laws of what a running thread does
-- between two duties, `AloneBegins` those of what it does in one go, `LocksBegin` those of locks and of a look at a
-- cell; `FirstOfChain` says what holds of the first object of a thread's dying chain, and `Locks` that the thread still
-- holds the list that it has locked. `Moved`, `OneReference` and `HandedOver` hand a reference over to another thread.
-- None of these knows code. `Callers`, `FirstRows`, `FirstReferences` and `FirstThreads` to `FirstRanges` show the
-- invariant of a machine in which some threads hold the root and the cells of immortal lists hold numbers (its threads;
-- counts, births and kinds of its rows; the invariant; its ranges), `FirstHands` and `FirstMachine` that the first
-- machines are such, and `Sound` what is true of a module's functions. `CodeInvariant` adds the second layer, about
-- accepted code, `StepCases` splits an event by its action, `KindsHold` shows over it that variables keep their kinds,
-- `ItemsHold` that borrowed items stay in the locked list and `RoomsHold` that a thread that awaits a birth has room
-- for it, and `CodeEvents` carries both layers through every list of events.

pub mod NotBad
pub mod KeepsDuty
pub mod Replaced
pub mod Weightless
pub mod Sits
pub mod SilentMoves
pub mod SilentSteps
pub mod Kept
pub mod Rearranging
pub mod WorkAside
pub mod Locks
pub mod WorkBegins
pub mod NextRows
pub mod BirthsBegin
pub mod FreeReferences
pub mod FirstOfChain
pub mod AloneBegins
pub mod LocksBegin
pub mod Moved
pub mod OneReference
pub mod HandedOver
pub mod CellChanges
pub mod CellsSwapped
pub mod Callers
pub mod FirstRows
pub mod FirstReferences
pub mod FirstThreads
pub mod FirstCounts
pub mod FirstBirths
pub mod FirstKinds
pub mod FirstInvariant
pub mod FirstRanges
pub mod FirstHands
pub mod FirstMachine
pub mod Sound
pub mod CodeInvariant
pub mod StepCases
pub mod KindsHold
pub mod ItemsHold
pub mod RoomsHold
pub mod CodeEvents
