use Rattle.std.proofs.Common.{◌≡◌, length, find}
use Rattle.brc_c_store.specs.Stores.{contents_of}
use Rattle.brc_c_store.specs.Cells.{is_left_at, first_left}
use Rattle.brc_c_store.proofs.Ranges.{numbers_from}
use Rattle.brc_c_store.proofs.cells.first_left.Given as goal

abbrev pub invariant-loop-at : goal.invariant-loop-at
invariant-loop-at l =
    find (is_left_at (contents_of l.store) l.holder) (numbers_from l.at (length l.store.cells.items))
    ≡ first_left (contents_of l.store) l.holder
