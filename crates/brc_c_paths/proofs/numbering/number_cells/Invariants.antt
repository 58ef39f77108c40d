use Rattle.std.proofs.Common.{◌≡◌, ◌++◌, map, take, drop}
use Rattle.brc_c_paths.specs.Numbers.{numbered_cell}
use Rattle.brc_c_paths.proofs.numbering.number_cells.Given as goal

abbrev pub invariant-loop-touched : goal.invariant-loop-touched
invariant-loop-touched l =
    l.cells ≡ map (numbered_cell l.order) (take l.touched-index l.initial.cells) ++ drop l.touched-index l.initial.cells
