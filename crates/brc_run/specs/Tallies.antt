-- The tally of a run that has ended: it is read from the end of the heap, and from what the threads have counted.
use Rattle.std.specs.Prelude.{ℕ, ◌+◌, ◌-◌, Bool, ◌&&◌, not, List, map, filter, count_by, sum_by}
use Rattle.std.specs.List.{range_with_len}
use Rattle.brc_host.specs.HostCounts.{raised}
use Rattle.brc_model.specs.Kinds.{kind_of_word}
use Rattle.brc_model.specs.Layout.{root_row, row_count, is_immortal_row}
use Rattle.brc_table.specs.Ending.{EndState, kind_at}
use Rattle.brc_heap.specs.Ends.{was_born, is_closed}
use Rattle.brc_report.specs.declared.tally.Tally.{Tally}
use Rattle.brc_report.specs.declared.tally.Left.{Left}
use Rattle.brc_work.specs.declared.totals.Totals.{Totals}

-- the rows from the first on that are below the last
abbrev pub rows_between : ℕ → ℕ → List ℕ
rows_between first last = range_with_len first (last - first)

-- all rows but none's
abbrev pub rows_behind_none : EndState → List ℕ
rows_behind_none end = rows_between root_row (row_count end.layout)

-- Says whether the row's object is counted, and was born or was there from the start.
abbrev pub is_created : EndState → ℕ → Bool
is_created end row = not (is_immortal_row end.layout row) && was_born end row

-- Says whether it is counted and closed.
abbrev pub has_closed : EndState → ℕ → Bool
has_closed end row = not (is_immortal_row end.layout row) && is_closed end row

-- Says whether an object was born in the row, or was there from the start, and isn't closed.
abbrev pub is_open : EndState → ℕ → Bool
is_open end row = was_born end row && not (is_closed end row)

-- Says whether the row's object is counted, was created and isn't closed.
abbrev pub is_left : EndState → ℕ → Bool
is_left end row = is_created end row && not (is_closed end row)

abbrev pub left_at : EndState → ℕ → Left
left_at end row = record { row = row; kind = kind_of_word (kind_at end.words row) }

abbrev pub created_at_end : EndState → ℕ
created_at_end end = count_by (is_created end) (rows_behind_none end)

abbrev pub closed_at_end : EndState → ℕ
closed_at_end end = count_by (has_closed end) (rows_behind_none end)

-- The tally at the end, when no thread runs any more. `threads` is the number of workers, and `close_faults` how many
-- closes of main failed.
abbrev pub tally_at_end : EndState → ℕ → List Totals → ℕ → Tally
tally_at_end end threads totals close_faults = record {
  threads = threads;
  running = 0;
  created = created_at_end end;
  closed = closed_at_end end;
  alive = created_at_end end - closed_at_end end;
  host_faults = raised (sum_by (λ t. t.host_faults) totals) 0;
  close_faults = raised (sum_by (λ t. t.close_faults) totals + close_faults) 0;
  left = map (left_at end) (filter (is_left end) (rows_behind_none end));
}
