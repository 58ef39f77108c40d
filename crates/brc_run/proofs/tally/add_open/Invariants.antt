use Rattle.std.proofs.Common.{◌≡◌, ◌≤◌, ◌++◌}
use Rattle.std.specs.Prelude.{map, filter}
use Rattle.brc_run.specs.Tallies.{rows_between, is_open, left_at}
use Rattle.brc_run.proofs.tally.add_open.Given as goal

-- the open ones of the rows so far are added
abbrev pub invariant-loop-row : goal.invariant-loop-row
invariant-loop-row g l = record {
  first : l.first ≤ l.row;
  passed : l.left
      ≡ l.fn.left ++ map (left_at l.fn.end.state) (filter (is_open l.fn.end.state) (rows_between l.first l.row));
}
