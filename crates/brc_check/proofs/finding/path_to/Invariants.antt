use Rattle.brc_check.proofs.Passing.{NoneReported}
use Rattle.brc_check.proofs.finding.path_to.Given as goal

abbrev pub invariant-loop-function : goal.invariant-loop-function
invariant-loop-function l = NoneReported l.function-items l.refused l.function-index
