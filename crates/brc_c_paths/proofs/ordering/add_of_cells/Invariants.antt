use Rattle.std.proofs.Common.{◌≡◌, drop, fold}
use Rattle.brc_c_paths.specs.Order.{with_objects_of_cell}
use Rattle.brc_c_paths.proofs.ordering.add_of_cells.Given as goal

abbrev pub invariant-loop-touched : goal.invariant-loop-touched
invariant-loop-touched l =
    fold with_objects_of_cell l.order.items (drop l.touched-index l.cells)
    ≡ fold with_objects_of_cell l.fn.order.items l.cells
