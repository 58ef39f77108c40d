use Rattle.brc_table.specs.Hands.{KeepsButView}
use Rattle.std.proofs.Common.{◌≡◌, List, ◌++◌, []}
use Rattle.brc_model.specs.declared.duty.Duty.{Duty}
use Rattle.brc_model.specs.Duties.{cells_from}
use Rattle.brc_free.specs.Works.{HasWorked}
use Rattle.brc_free.proofs.finaliser.Finaliser.empty_cells.Given as goal

-- The cells from this one on are left.
abbrev pub invariant-loop-cell : goal.invariant-loop-cell
invariant-loop-cell g l =
    KeepsButView l.fn.hand l.hand
    × ((rest : List Duty) → l.fn.hand.view.actor.agenda ≡ cells_from l.fn.row 0 l.fn.cells ++ rest
    → HasWorked l.fn.hand.view [] (cells_from l.fn.row l.cell l.fn.cells ++ rest) l.hand.view)
