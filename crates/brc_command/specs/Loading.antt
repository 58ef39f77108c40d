-- How much is read of a file; `gives path bytes`: the loader may give these bytes for the path.
use Rattle.std.specs.Prelude.{◌≡◌, ◌⊎◌, ℕ, List, [], ◌++◌}
use Rattle.brc_lang.specs.declared.fault.FaultCode.{FaultCode}
use Rattle.brc_lang.specs.declared.fault.FaultCode.TheVariants.{NoMemory}
use Rattle.brc_lang.specs.declared.fault.ReadFault.{ReadFault}
use Rattle.brc_lang.specs.declared.module.Module.{Module}
use Rattle.brc_lang.specs.Grammar as modules
use Rattle.brc_lang.specs.Fault as module_faults
use Rattle.brc_schedule.specs.declared.schedule.Schedule.{Schedule}
use Rattle.brc_schedule.specs.Text as schedules
use Rattle.brc_schedule.specs.Fault as schedule_faults
use Rattle.brc_command.specs.declared.loading.Wanted.{Wanted}
use Rattle.brc_command.specs.declared.loading.Wanted.TheVariants as wanted_texts

-- the bytes are a beginning of some that the loader may give
abbrev pub IsGivenPrefix : (List ℕ → List ℕ → Type 0) → List ℕ → List ℕ → Type 0
IsGivenPrefix gives path bytes = (rest : List ℕ) × gives path (bytes ++ rest)

-- nothing is read so far, or a beginning
abbrev pub IsReadSoFar : (List ℕ → List ℕ → Type 0) → List ℕ → List ℕ → Type 0
IsReadSoFar gives path bytes = (bytes ≡ []) ⊎ IsGivenPrefix gives path bytes

abbrev pub HasFault : Wanted → List ℕ → ℕ → FaultCode → Type 0
HasFault wanted_texts.Module bytes line code = module_faults.HasFault bytes line code
HasFault wanted_texts.Schedule bytes line code = schedule_faults.HasFault bytes line code

-- this is the fault of the bytes, or memory was refused
abbrev pub IsFaultFor : Wanted → List ℕ → ReadFault → Type 0
IsFaultFor wanted bytes e = (e.code ≡ NoMemory) ⊎ HasFault wanted bytes e.line e.code

-- however the bytes go on, they have this fault
pub record HasLastingFault (wanted : Wanted) (bytes : List ℕ) : Type 0 where
  pub line : ℕ
  pub code : FaultCode
  pub lasting : (more : List ℕ) → HasFault wanted (bytes ++ more) line code

-- the whole file, or a beginning that is at fault however the file goes on
abbrev pub IsReadFor : Wanted → (List ℕ → List ℕ → Type 0) → List ℕ → List ℕ → Type 0
IsReadFor wanted gives path bytes = gives path bytes ⊎ (IsGivenPrefix gives path bytes × HasLastingFault wanted bytes)

-- of a text that the loader may give the bytes tell all: which module it spells, or which fault it has
pub record ReadsAsModule (gives : List ℕ → List ℕ → Type 0) (path bytes : List ℕ) : Type 0 where
  pub text : List ℕ
  pub given : gives path text
  pub spelled : (m : Module) → modules.Spells bytes m → modules.Spells text m
  pub faulty : (line : ℕ) (code : FaultCode) → module_faults.HasFault bytes line code
      → module_faults.HasFault text line code

pub record ReadsAsSchedule (gives : List ℕ → List ℕ → Type 0) (path bytes : List ℕ) : Type 0 where
  pub text : List ℕ
  pub given : gives path text
  pub spelled : (s : Schedule) → schedules.Spells bytes s → schedules.Spells text s
  pub faulty : (line : ℕ) (code : FaultCode) → schedule_faults.HasFault bytes line code
      → schedule_faults.HasFault text line code
