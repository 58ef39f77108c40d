use Rattle.std.proofs.Common.{◌≡◌, drop, fold}
use Rattle.brc_c_store.specs.Stores.{contents_of}
use Rattle.brc_c_paths.specs.CellsKept.{with_cell_marked, with_fields_marked}
use Rattle.brc_c_paths.proofs.near.mark_fields.Given as goal

abbrev pub invariant-loop-touched : goal.invariant-loop-touched
invariant-loop-touched l =
    fold (with_cell_marked l.before.items) l.near.items (drop l.touched-index l.store.cells.items)
    ≡ with_fields_marked (contents_of l.store) l.fn.near.items
