use Rattle.brc_table.proofs.Guarding.{holders_change, holders_swap}
use Rattle.brc_table.proofs.laws.only_holders_change_cells.Goals as goal

pub returns-clause-duties : goal.returns-clause-duties
returns-clause-duties c = holders_change c.cells_are_guarded.ensures

pub returns-clause-swaps : goal.returns-clause-swaps
returns-clause-swaps c = holders_swap c.accounts_are_there.ensures
