-- The lives of rows, as the model says them.
use Rattle.std.specs.Prelude.{ℕ, List}
use Rattle.std.specs.List.{slice_index_or}
use Rattle.brc_model.specs.Machine as model
use Rattle.brc_plain.specs.declared.lives.Life.{Life}
use Rattle.brc_plain.specs.declared.lives.Life.TheVariants.{Unborn, Live, Dying, Closed}

abbrev pub life_in : Life → model.Life
life_in Unborn = model.Unborn
life_in Live = model.Live
life_in (Dying thread) = model.Dying thread
life_in Closed = model.Closed

-- A row that has no life of its own is unborn.
abbrev pub life_at : List Life → ℕ → model.Life
life_at lives x = life_in (slice_index_or lives x Unborn)
