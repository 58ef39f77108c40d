-- The thread that steps fits afterwards: the lemmas `thread_after_*`, duty by duty.
--
-- In order: `Behind` (the duties after the first know what they knew). `UnderWay` (no step changes whether the
-- thread's exit is under way), `Locked` (the thread still holds the list that it has locked) and `Lending` (what it has
-- lent is the resource of the object that it has locked). `Own`, `FitsAfter`, `Counts`, `Steps` and `Shown` put
-- together what each step has to show; `FitsAfter` is what follows. `Retains` to `Births` show it, in the order of an
-- object's life, and `Nones` shows it for none. `Settled`: a thread's chain is empty when it leaves. `Stores`: a duty
-- that stores knows the word that it overwrites.

pub mod Behind
pub mod Own
pub mod UnderWay
pub mod Locked
pub mod Lending
pub mod FitsAfter
pub mod Counts
pub mod Steps
pub mod Shown
pub mod Settled
pub mod Retains
pub mod Releases
pub mod SharedWords
pub mod Merges
pub mod Chains
pub mod Settling
pub mod CellSwaps
pub mod Exits
pub mod Births
pub mod Nones
pub mod Stores
