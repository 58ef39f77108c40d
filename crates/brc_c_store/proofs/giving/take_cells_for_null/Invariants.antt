use Rattle.std.proofs.Common.{◌≡◌, ◌++◌, map, take, drop}
use Rattle.brc_c_store.specs.Giving.{touched_for_null}
use Rattle.brc_c_store.proofs.giving.take_cells_for_null.Given as goal

abbrev pub invariant-loop-touched : goal.invariant-loop-touched
invariant-loop-touched l =
    l.cells ≡ map (touched_for_null l.id) (take l.touched-index l.initial.cells) ++ drop l.touched-index l.initial.cells
