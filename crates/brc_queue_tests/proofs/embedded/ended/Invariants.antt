use Rattle.std.specs.Prelude.{◌≤◌}
use Rattle.brc_queue_tests.proofs.embedded.ended.Given as goal

abbrev pub invariant-loop-row : goal.invariant-loop-row
invariant-loop-row l = (l.born ≤ l.row) × (l.closed ≤ l.row)
