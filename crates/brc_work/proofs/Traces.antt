-- What a hand's calls add to its trace: the events of a thread of the step world that makes the same calls.
--
-- In order: `Joining` (traces one after the other), `Duties` (one duty of a hand is one of its thread, though the
-- thread holds a reference otherwise), `Working` (duty after duty), `Releasing` (a reference is given up), `Places`
-- (what a thread does at an instruction), `Starting` (the calls of one or two steps); then the instructions:
-- `References` (references that are made, handed on and given up; calls of functions, and their ends), `Births`,
-- `Locks`, `Kinds`, `HostCalls`, `Swaps` and `Items` (those that use a cell of the locked list), `Turns` (the one that
-- goes back); `Calls` (a call from point to point, into the calls that it makes and on behind them); and `Seen` (what a
-- hand has seen stays seen).
pub mod Joining
pub mod Duties
pub mod Working
pub mod Releasing
pub mod Stops
pub mod Places
pub mod Starting
pub mod References
pub mod Births
pub mod Locks
pub mod Kinds
pub mod HostCalls
pub mod Swaps
pub mod Items
pub mod Turns
pub mod Calls
pub mod Seen
