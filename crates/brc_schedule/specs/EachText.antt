-- Each text spells a schedule or has a fault.
use Rattle.std.specs.Prelude.{ℕ, List}
use Rattle.brc_lang.specs.declared.fault.FaultCode.{FaultCode}
use Rattle.brc_schedule.specs.declared.schedule.Schedule.{Schedule}
use Rattle.brc_schedule.specs.Text.{Spells}
use Rattle.brc_schedule.specs.Fault.{HasFault}

abbrev pub SpellsASchedule : List ℕ → Type 0
SpellsASchedule bytes = (s : Schedule) × Spells bytes s

abbrev pub HasAFault : List ℕ → Type 0
HasAFault bytes = (line : ℕ) × (code : FaultCode) × HasFault bytes line code
