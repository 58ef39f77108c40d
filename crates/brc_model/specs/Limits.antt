-- The limits of a machine.
use Rattle.std.specs.Prelude.{ℕ, ◌+◌, ◌*◌, ◌-◌, ◌^◌}
use Rattle.brc_model.specs.Layout.{front_rows}
-- the most cells of a list in a text of the first two versions, and in any machine; the most calls of one thread that
-- are open at a time
pub use Rattle.brc_lang.specs.Limits.{text_cells, cell_limit, depth_limit}

-- the cells of the root
abbrev pub root_cells : ℕ
root_cells = 8

abbrev pub worker_limit : ℕ
worker_limit = 32

-- the most threads: main and the workers
abbrev pub thread_limit : ℕ
thread_limit = 1 + worker_limit

-- the most rows of each worker
abbrev pub row_limit : ℕ
row_limit = 1024

-- the most immortal lists
abbrev pub immortal_limit : ℕ
immortal_limit = 16

-- the most numbers in their cells at the start
abbrev pub number_limit : ℕ
number_limit = immortal_limit * cell_limit

-- a bound of the rows of each block, main's and a worker's
abbrev pub block_limit : ℕ
block_limit = front_rows + immortal_limit + number_limit

-- the most rows in all
abbrev pub total_limit : ℕ
total_limit = front_rows + worker_limit * row_limit + immortal_limit + number_limit

-- the most calls that one worker makes
abbrev pub times_limit : ℕ
times_limit = 1000000

-- the greatest count of faults, at which counting stops
abbrev pub most_faults : ℕ
most_faults = 2 ^ 64 - 1
