use Rattle.brc_machine.proofs.OwnedRows.{NamesNone}
use Rattle.brc_machine.proofs.variables.first_named.Given as goal

abbrev pub invariant-loop-variable : goal.invariant-loop-variable
invariant-loop-variable l = NamesNone l.variables l.variable
