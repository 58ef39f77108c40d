-- The tally of a world, read from its words and its threads: its counts, and the objects that are left in it.
use Rattle.std.specs.Prelude.{ℕ, ◌-◌, Bool, ◌&&◌, ◌==◌, not, nat_lt, List, length, map, filter, count_by, Option, None, Some, slice_get}
use Rattle.std.specs.List.{range_with_len}
use Rattle.brc_word.specs.Words.{closed_word, kind_part}
use Rattle.brc_model.specs.declared.address.Address.TheVariants.{Gate, KindOf}
use Rattle.brc_model.specs.Kinds.{kind_numbered}
use Rattle.brc_model.specs.World.{World}
use Rattle.brc_model.specs.Actions.{StepActor}
use Rattle.brc_report.specs.declared.tally.Tally.{Tally}
use Rattle.brc_report.specs.declared.tally.Left.{Left}
use Rattle.brc_machine.specs.MachineTallies.{still_runs}
use Rattle.brc_model.specs.Layout.{row_count, block_of, index_of, is_immortal_row}

-- ---- rows

abbrev pub used_of : Option StepActor → ℕ
used_of None = 0
used_of (Some a) = a.actor.used

-- says whether the row is born: it is counted, and the thread of its block has used it
abbrev pub is_born : World → ℕ → Bool
is_born w row =
    not (is_immortal_row w.layout row)
    && nat_lt (index_of w.layout (block_of w.layout row) row) (used_of (slice_get w.actors (block_of w.layout row)))

abbrev pub is_closed_row : World → ℕ → Bool
is_closed_row w row = w.memory (Gate row) == closed_word

-- the born rows among the n rows from 1 on
abbrev pub born_below : World → ℕ → List ℕ
born_below w n = filter (is_born w) (range_with_len 1 n)

abbrev pub rows_born : World → List ℕ
rows_born w = born_below w (row_count w.layout - 1)

abbrev pub rows_closed : World → List ℕ
rows_closed w = filter (is_closed_row w) (rows_born w)

-- the born rows that aren't closed, in rising order
abbrev pub rows_left : World → List ℕ
rows_left w = filter (λ row. not (is_closed_row w row)) (rows_born w)

abbrev pub left_in : World → ℕ → Left
left_in w row = record { row = row; kind = kind_numbered (kind_part (w.memory (KindOf row))) }

-- ---- the report

-- the tally of the world
abbrev pub tally_of : World → Tally
tally_of w = record {
  threads = length w.actors - 1;
  running = count_by still_runs w.actors;
  created = length (rows_born w);
  closed = length (rows_closed w);
  alive = length (rows_left w);
  host_faults = w.host_faults;
  close_faults = w.close_faults;
  left = map (left_in w) (rows_left w);
}
