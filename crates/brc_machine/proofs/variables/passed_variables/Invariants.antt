use Rattle.std.proofs.Common.{◌≡◌}
use Rattle.brc_machine.proofs.Arguments.{passed_to}
use Rattle.brc_machine.proofs.variables.passed_variables.Given as goal

abbrev pub invariant-loop-number : goal.invariant-loop-number
invariant-loop-number l = l.passed ≡ passed_to l.number l.variables l.arguments
