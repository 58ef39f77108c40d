-- The module of heaps that run none.
use Rattle.std.specs.Prelude.{[]}
use Rattle.brc_lang.specs.declared.module.Module.{Module}
use Rattle.brc_lang.specs.declared.version.Version.TheVariants as versions

-- a module of the first version, with no static list. It has no function either, for which no heap asks.
abbrev pub plain_module : Module
plain_module = record { version = versions.One; statics = []; functions = [] }
