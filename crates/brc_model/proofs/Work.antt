-- Which thread decides about a row, which one merges it, and which one looks at its mark.
--
-- In order: `HasDuties` and `Weighing` (a thread that weighs something at a row knows the row), `Deciders` (only the
-- running owner decides), `MergesOnce` (one thread merges), `Watches` (a set mark is watched).

pub mod HasDuties
pub mod Weighing
pub mod Deciders
pub mod MergesOnce
pub mod Watches
