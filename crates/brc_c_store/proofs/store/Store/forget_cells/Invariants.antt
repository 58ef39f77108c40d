use Rattle.std.proofs.Common.{◌≡◌, length, fold}
use Rattle.brc_c_store.specs.Stores.{contents_of}
use Rattle.brc_c_store.specs.Cells.{with_after_code, with_all_forgotten}
use Rattle.brc_c_store.proofs.Ranges.{numbers_from}
use Rattle.brc_c_store.proofs.store.Store.forget_cells.Given as goal

abbrev pub invariant-loop-at : goal.invariant-loop-at
invariant-loop-at l =
    fold with_after_code (contents_of l.self) (numbers_from l.at (length l.fn.self.cells.items))
    ≡ with_all_forgotten (contents_of l.fn.self)
