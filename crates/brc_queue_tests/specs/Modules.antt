-- A module with static lists, whose heaps the tests open.
use Rattle.std.specs.Prelude.{ℕ, List, [], ◌∷◌}
use Rattle.brc_lang.specs.declared.module.Module.{Module}
use Rattle.brc_lang.specs.declared.version.Version.TheVariants as versions
use Rattle.brc_model.specs.declared.layout.Layout.{Layout}
use Rattle.brc_model.specs.StepMachine.{layout_of}

-- a module of the third version, with two static lists: one of two numbers, and one of one
abbrev pub static_lines : List (List ℕ)
static_lines = (5 ∷ 6 ∷ []) ∷ (7 ∷ []) ∷ []

abbrev pub static_module : Module
static_module = record { version = versions.Three; statics = static_lines; functions = [] }

-- the layout of its heaps for two workers with four rows each
abbrev pub static_layout : Layout
static_layout = layout_of static_module 2 4
