use Rattle.brc_check.proofs.Tables.{AreInferred}
use Rattle.brc_check.proofs.inferring.infer.Given as goal

abbrev pub invariant-loop-function : goal.invariant-loop-function
invariant-loop-function l = AreInferred l.function-items l.lists.items l.function-index
