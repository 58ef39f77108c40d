use Rattle.brc_model.proofs.Promises.BorrowedItems as items
use Rattle.brc_model.proofs.row_laws.borrowed_items_stay.Goals as goal

pub returns : goal.returns
returns c = items.items_are_there
