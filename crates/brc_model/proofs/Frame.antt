-- What a step leaves unchanged: for other threads (`Others.each_fits`), and for the duties that its own thread has put
-- aside (`AsideAfter.aside_after`).
--
-- In order: `Alive` (every counted row is live), `Known` (what a duty knows stays, where a step leaves what it relies
-- on), `Others` (what other threads rely on), `Leaves`, `Kinds`, `Cells`, `Items` (of the list that a thread has
-- locked), `Births` (what a birth under way has stored) and `Lives` (a step leaves it), `Locks` (who has locked a row),
-- `Aside` (duties about other rows), `Beside` and `AsideAfter` (such duties keep what they know).

pub mod CellsHeld
pub mod Alive
pub mod Known
pub mod Others
pub mod Leaves
pub mod Kinds
pub mod Cells
pub mod Items
pub mod Births
pub mod Lives
pub mod Locks
pub mod Aside
pub mod Beside
pub mod AsideAfter
