-- What is done with a cell doesn't depend on the layout and on the thread's number, and what is retained for it not on
-- the list, the index and the other exit.
use Rattle.brc_world.proofs.dispatch.items.use_cell.Goals as goal

pub returns-in-Borrow : goal.returns-in-Borrow
returns-in-Borrow c = λ layout t. rw c.in-Borrow.is (c.borrow.ensures layout t)

pub returns-in-Fetch : goal.returns-in-Fetch
returns-in-Fetch c = λ layout t. rw c.in-Fetch.is (c.fetch.ensures layout t)

pub returns-in-Set : goal.returns-in-Set
returns-in-Set c = λ layout t. rw c.in-Set.is (c.set.ensures layout t)

pub returns-in-Put : goal.returns-in-Put
returns-in-Put c = λ layout t.
    rw c.in-Put.is (c.retain_to_put.ensures layout t c.in-Put.list c.in-Put.index c.in-Put.otherwise)
