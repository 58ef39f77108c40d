use Rattle.std.proofs.Common.{◌≡◌, ◌≤◌}
use Rattle.std.specs.Prelude.{count_by}
use Rattle.brc_heap.specs.Ends.{was_born}
use Rattle.brc_run.specs.Tallies.{rows_between}
use Rattle.brc_run.proofs.tally.born_in.Given as goal

-- the rows so far are counted
abbrev pub invariant-loop-row : goal.invariant-loop-row
invariant-loop-row g l = record {
  first : l.first ≤ l.row;
  counted : l.born ≡ count_by (was_born l.fn.end.state) (rows_between l.first l.row);
}
