use Rattle.std.proofs.Common.{◌≡◌, ◌-◌, length}
use Rattle.brc_c_store.specs.Stores.{contents_of}
use Rattle.brc_c_paths.specs.CellsKept.{with_rounds, with_cells_kept}
use Rattle.brc_c_paths.proofs.idle_cells.drop_cells.Given as goal

abbrev pub invariant-loop-round : goal.invariant-loop-round
invariant-loop-round l =
    with_rounds l.live l.node (length l.fn.store.cells.items - l._round) (contents_of l.store)
    ≡ with_cells_kept l.live l.node (contents_of l.fn.store)
