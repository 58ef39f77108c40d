use Rattle.std.proofs.Common.{◌≡◌, filter, take}
use Rattle.brc_c_store.specs.Stores.{contents_of}
use Rattle.brc_c_paths.specs.CellsKept.{is_kept, near_objects}
use Rattle.brc_c_paths.proofs.idle_cells.busy_cells.Given as goal

abbrev pub invariant-loop-touched : goal.invariant-loop-touched
invariant-loop-touched l =
    l.kept.items
    ≡ filter (is_kept l.live l.node (contents_of l.store) (near_objects l.live l.node (contents_of l.store)))
    (take l.touched-index l.store.cells.items)
