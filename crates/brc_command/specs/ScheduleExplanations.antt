-- What is explained of a schedule's text, and how the explanation ends.
use Rattle.std.specs.Prelude.{ℕ, List, Option, None, Some}
use Rattle.brc_schedule.specs.EachText.{SpellsASchedule}
use Rattle.brc_schedule.specs.Fault.{HasFault}
use Rattle.brc_command.specs.declared.step_fault.StepFault.{StepFault}
use Rattle.brc_command.specs.declared.step_fault.StepFault.TheVariants.{Plan, NoMemory, Output}
use Rattle.brc_command.specs.declared.stop.Stop.{Stop}
use Rattle.brc_command.specs.declared.stop.Stop.TheVariants.{UnreadableFile, Fault}
use Rattle.brc_command.specs.Explanations.{Subject, ScheduleText}
use Rattle.brc_command.specs.Loading.{ReadsAsSchedule}

-- The text is what an explainer says of the bytes: of the schedule that they spell, if there is no fault, and otherwise
-- of the fault that they have. `says subject text`: the explainer may say so of the subject.
abbrev pub IsScheduleExplained : (Subject → List ℕ → Type 0) → List ℕ → Option StepFault → List ℕ → Type 0
IsScheduleExplained says bytes None text = SpellsASchedule bytes × says (ScheduleText bytes None) text
IsScheduleExplained says bytes (Some (Plan e)) text =
    HasFault bytes e.line e.code × says (ScheduleText bytes (Some e)) text
IsScheduleExplained says bytes (Some fault) text = ⊥

-- the same of the bytes that are read of the file; `gives path bytes`: the loader may give these bytes for the path
pub record HasScheduleExplanation (says : Subject → List ℕ → Type 0) (gives : List ℕ → List ℕ → Type 0) (file : List ℕ)
    (fault : Option StepFault) (text : List ℕ) : Type 0 where
  pub bytes : List ℕ
  pub read : ReadsAsSchedule gives file bytes
  pub explained : IsScheduleExplained says bytes fault text

-- Why the explanation stops: the file's text has the fault. `lacks path`: the loader may answer that the path can't be
-- read.
abbrev pub IsScheduleReason : (List ℕ → List ℕ → Type 0) → (List ℕ → Type 0) → List ℕ → Stop → Type 0
IsScheduleReason gives lacks file UnreadableFile = lacks file
IsScheduleReason gives lacks file (Fault NoMemory) = Unit {0}
IsScheduleReason gives lacks file (Fault Output) = Unit {0}
IsScheduleReason gives lacks file (Fault (Plan e)) =
    (text : List ℕ) × gives file text × HasFault text e.line e.code
IsScheduleReason gives lacks file stop = ⊥
