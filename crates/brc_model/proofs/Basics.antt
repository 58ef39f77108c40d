-- Lists, the bag of references, memory and the blocks of rows: lemmas that all other folders use.
--
-- `Lists` and `Bag` are about lists and about counting references in the bag, `Below` about a number for each function
-- of a module, from those of the functions above it. `Blocks` gives each row its block. `Written` has what a write does
-- to memory, `Marks` what it does to a row's mark, `FoundMarks` which marks an exit finds, and `MovesApart` which
-- references a move leaves unchanged. `Moves` has the sorts of moves that a step makes, and `Continuation` the shapes
-- of what follows it.

pub mod Lists
pub mod Below
pub mod Bag
pub mod Blocks
pub mod Written
pub mod Marks
pub mod FoundMarks
pub mod Moves
pub mod MovesApart
pub mod Continuation
