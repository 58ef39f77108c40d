-- The rows of the instructions so far are listed.
use Rattle.std.proofs.Common.{◌≡◌}
use Rattle.brc_explain.specs.Rows.{first_rows}
use Rattle.brc_explain.proofs.rows.first_rows.Given as goal

abbrev pub invariant-loop-at : goal.invariant-loop-at
invariant-loop-at l = l.rows ≡ first_rows l.entries l.fault l.at
