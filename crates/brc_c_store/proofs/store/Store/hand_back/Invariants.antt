use Rattle.std.proofs.Common.{◌≡◌, drop, fold}
use Rattle.brc_c_store.specs.Stores.{contents_of}
use Rattle.brc_c_store.specs.Cells.{handed_back}
use Rattle.brc_c_store.proofs.store.Store.hand_back.Given as goal

abbrev pub invariant-loop-at : goal.invariant-loop-at
invariant-loop-at l =
    (fold handed_back (contents_of l.self) (drop l.at l.self.cells.items)
    ≡ fold handed_back (contents_of l.fn.self) l.fn.self.cells.items)
    × (l.self.cells.items ≡ l.fn.self.cells.items)
