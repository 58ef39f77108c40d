-- The rows of the steps so far are listed.
use Rattle.std.proofs.Common.{◌≡◌}
use Rattle.brc_explain.specs.Rows.{first_steps}
use Rattle.brc_explain.proofs.rows.path_rows.Given as goal

abbrev pub invariant-loop-taken : goal.invariant-loop-taken
invariant-loop-taken l = l.rows ≡ first_steps l.function l.exits l.taken
