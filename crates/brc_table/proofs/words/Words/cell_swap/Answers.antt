use Rattle.std.proofs.Common.{◌<◌, subst}
use Rattle.brc_model.specs.declared.layout.Layout.{Layout}
use Rattle.brc_model.specs.Layout.{row_count}
use Rattle.brc_table.proofs.Locking.{known_low}
use Rattle.brc_table.proofs.CellGuards.{change_there}
use Rattle.brc_table.proofs.words.Words.cell_swap.Goals as goal

pub swap_item-requires-clause-cell : goal.swap_item-requires-clause-cell
swap_item-requires-clause-cell g c =
    subst (λ (l : Layout). c.args.cell < l.cells) c.requires.table.1
    (known_low c.args.hand.now.view c.args.row c.args.cell c.rows_are_there.ensures c.requires.knows)

pub swap_item-requires-clause-there : goal.swap_item-requires-clause-there
swap_item-requires-clause-there g c =
    subst (λ (l : Layout). c.args.row < row_count l) c.requires.table.1
    (change_there c.args.hand.now.view c.args.row c.rows_are_there.ensures c.requires.changes)
