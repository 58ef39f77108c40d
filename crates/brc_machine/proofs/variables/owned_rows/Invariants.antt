use Rattle.brc_machine.proofs.OwnedRows.{KeepsOwned}
use Rattle.brc_machine.proofs.variables.owned_rows.Given as goal

abbrev pub invariant-loop-variable : goal.invariant-loop-variable
invariant-loop-variable l = KeepsOwned l.slots l.variables l.owned l.variable
