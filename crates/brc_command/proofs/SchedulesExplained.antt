-- What is written of the explanation of a schedule's file.
use Rattle.std.proofs.Common.{ℕ, List, Option, Some}
use Rattle.brc_lang.specs.Written.{AppendsBeginning}
use Rattle.brc_command.specs.declared.step_fault.StepFault.{StepFault}
use Rattle.brc_command.specs.declared.step_fault.StepFault.TheVariants.{Text, Plan, Refused, NoFunction, NoMemory}
use Rattle.brc_command.specs.declared.step_fault.StepFault.TheVariants.{Output}
use Rattle.brc_command.specs.declared.stop.Stop.TheVariants.{Fault}
use Rattle.brc_command.specs.Commands.{LeavesExplanation}
use Rattle.brc_command.specs.Explanations.{Subject}
use Rattle.brc_command.specs.Loading.{ReadsAsSchedule}
use Rattle.brc_command.specs.ScheduleExplanations.{HasScheduleExplanation, IsScheduleExplained, IsScheduleReason}

module _ (says : Subject → List ℕ → Type 0) (gives : List ℕ → List ℕ → Type 0) (file bytes : List ℕ)
    (read : ReadsAsSchedule gives file bytes) where
  pub explains : (fault : Option StepFault) (text : List ℕ) → IsScheduleExplained says bytes fault text
      → HasScheduleExplanation says gives file fault text
  explains fault text explained = record { bytes = bytes; read = read; explained = explained }

  -- the fault of the bytes is the file's
  pub reason : (lacks : List ℕ → Type 0) (e : StepFault) (text : List ℕ) → IsScheduleExplained says bytes (Some e) text
      → IsScheduleReason gives lacks file (Fault e)
  reason lacks (Text e) text explained = absurd explained
  reason lacks (Plan e) text explained = (read.text, read.given, read.faulty e.line e.code explained.0)
  reason lacks (Refused r) text explained = absurd explained
  reason lacks (NoFunction name) text explained = absurd explained
  reason lacks NoMemory text explained = absurd explained
  reason lacks Output text explained = absurd explained

  -- a beginning of the explanation is written, and it ends with a fault
  pub leaves_fault : (e : StepFault) (text : List ℕ) (old new : Option (List ℕ))
      → IsScheduleExplained says bytes (Some e) text → AppendsBeginning old new text
      → LeavesExplanation (HasScheduleExplanation says gives file) (Fault e) old new
  leaves_fault (Text e) text old new explained begun = absurd explained
  leaves_fault (Plan e) text old new explained begun = (text, explains (Some (Plan e)) text explained, begun)
  leaves_fault (Refused r) text old new explained begun = absurd explained
  leaves_fault (NoFunction name) text old new explained begun = absurd explained
  leaves_fault NoMemory text old new explained begun = absurd explained
  leaves_fault Output text old new explained begun = absurd explained
