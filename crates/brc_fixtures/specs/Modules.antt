-- The modules whose heaps the tests open.
use Rattle.std.specs.Prelude.{ℕ, []}
use Rattle.brc_lang.specs.declared.module.Module.{Module}
use Rattle.brc_lang.specs.declared.version.Version.TheVariants as versions
use Rattle.brc_model.specs.declared.layout.Layout.{Layout}
use Rattle.brc_model.specs.StepMachine.{layout_of}

-- a module of the first version, with no static list. It has no function either, for which no heap asks.
abbrev pub plain_module : Module
plain_module = record { version = versions.One; statics = []; functions = [] }

-- the layout of its heaps
abbrev pub plain_layout : ℕ → ℕ → Layout
plain_layout workers rows = layout_of plain_module workers rows
