-- The plan that a table is made by: its size, and the lines of its immortal lists.
use Rattle.std.specs.Prelude.{ℕ, List}
use Rattle.brc_model.specs.declared.layout.Layout.{Layout}

pub record Plan : Type 0 where
  pub layout : Layout
  pub lines : List (List ℕ)
