-- What a thread of accepted code does next fits it: `Actions.action_fits`.
--
-- In order: `Programs` (what a thread's calls run), `Holds`, `Passing` and `Grounded` (what the variables of a
-- thread's calls hold at points that paths reach), `AtOnce` (no agenda locks, unlocks, swaps a cell, or lends or
-- returns a resource), `Guards` (what the state says is locked), `Lending` (what the place says is lent), `Claims` and
-- `Rooms` (where a birth is awaited, there is room), `Stopped` (what a thread holds that has stopped), `Coded` (a
-- thread's lock and account are those of its place), `Decided` (the place that a word found or an exit decides),
-- `Kinds`, `Calls` (what a call asks of its variables and leaves in them), `KindsKnown`, `KindsCalls`, `KindsLeft` and
-- `KindsActions` (instruction by instruction, variables have the kinds that the checker says), `Items`, `ItemsUsed`,
-- `ItemsCalls`, `ItemsLeft` and `ItemsActions` (instruction by instruction, what is borrowed is in the locked list),
-- `TakingUp` (what a thread takes up), `OneMoreOrLess` (what it holds, with one reference more or less), `Handing` and
-- `Apart` (a call hands on the references that it steals, and keeps what it lends), `Lockable`, `Allowed` and
-- `Standing` (what a thread knows at an instruction), `TakingSilent`, `TakingCalls` and `TakingEnds` (a call, and the
-- end of one),
-- `TakingBirths`, `TakingLocks`, `TakingKinds`, `TakingItems`, `TakingInside`, `TakingHost`, `TakingStores`,
-- `TakingStops` and `Taking` (instruction by instruction, and after a stop), `TakenUp` and `TakenSits`, `Counting`
-- (the counting machine below), `ActionsFit` and `Actions`, which has the theorem, and `Fit` (an instruction has what
-- it needs).

pub mod Programs
pub mod Holds
pub mod Passing
pub mod Grounded
pub mod AtOnce
pub mod Guards
pub mod Lending
pub mod Claims
pub mod Rooms
pub mod Stopped
pub mod Coded
pub mod Decided
pub mod Kinds
pub mod Calls
pub mod KindsKnown
pub mod KindsCalls
pub mod KindsLeft
pub mod KindsActions
pub mod Items
pub mod ItemsUsed
pub mod ItemsCalls
pub mod ItemsLeft
pub mod ItemsActions
pub mod TakingUp
pub mod OneMoreOrLess
pub mod Handing
pub mod Apart
pub mod Lockable
pub mod Allowed
pub mod Standing
pub mod TakingSilent
pub mod TakingCalls
pub mod TakingEnds
pub mod TakingBirths
pub mod TakingLocks
pub mod TakingKinds
pub mod TakingItems
pub mod TakingInside
pub mod TakingHost
pub mod TakingStores
pub mod TakingStops
pub mod Taking
pub mod TakenUp
pub mod TakenSits
pub mod Counting
pub mod ActionsFit
pub mod Actions
pub mod Fit
