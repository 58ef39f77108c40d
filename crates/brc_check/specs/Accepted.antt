-- An accepted module: a module with the table that shows why it is accepted.
use Rattle.std.specs.Prelude.{List}
use Rattle.brc_lang.specs.declared.module.Module.{Module}
use Rattle.brc_check.specs.declared.kept_entry.KeptEntry.{KeptEntry}

-- a module, and for each function the entries that the table keeps
pub record Accepted : Type 0 where
  pub «module» : Module
  pub table : List (List KeptEntry)
