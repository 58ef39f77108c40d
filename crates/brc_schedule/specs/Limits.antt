-- How much a schedule may ask for.
use Rattle.std.specs.Prelude.{ℕ, ◌-◌}
use Rattle.brc_model.specs.Limits.{total_limit}

-- The last row of the largest world: none, the root, the rows of each worker, the immortal lists, and the numbers in
-- their cells. It is the same for modules of all versions.
abbrev pub last_row : ℕ
last_row = total_limit - 1
