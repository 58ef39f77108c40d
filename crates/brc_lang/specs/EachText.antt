-- Each text spells a module or has a fault.
use Rattle.std.specs.Prelude.{ℕ, List}
use Rattle.brc_lang.specs.declared.fault.FaultCode.{FaultCode}
use Rattle.brc_lang.specs.declared.module.Module.{Module}
use Rattle.brc_lang.specs.Grammar.{Spells}
use Rattle.brc_lang.specs.Fault.{HasFault}

abbrev pub SpellsAModule : List ℕ → Type 0
SpellsAModule bytes = (m : Module) × Spells bytes m

abbrev pub HasAFault : List ℕ → Type 0
HasAFault bytes = (line : ℕ) × (code : FaultCode) × HasFault bytes line code
