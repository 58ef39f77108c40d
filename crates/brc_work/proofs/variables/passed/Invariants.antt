use Rattle.std.specs.Prelude.{◌≡◌}
use Rattle.brc_work.proofs.Entering.{passed_to}
use Rattle.brc_work.proofs.variables.passed.Given as goal

abbrev pub invariant-loop-number : goal.invariant-loop-number
invariant-loop-number l = l.inner ≡ passed_to l.rows l.number l.arguments
