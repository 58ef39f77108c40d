-- What is written of the explanation of a file.
use Rattle.std.proofs.Common.{◌≡◌, ℕ, List, Option, Some, sym, subst}
use Rattle.brc_lang.specs.Written.{AppendsBeginning}
use Rattle.brc_command.specs.declared.step_fault.StepFault.{StepFault}
use Rattle.brc_command.specs.declared.step_fault.StepFault.TheVariants.{Text, Plan, Refused, NoFunction, NoMemory}
use Rattle.brc_command.specs.declared.step_fault.StepFault.TheVariants.{Output}
use Rattle.brc_command.specs.declared.stop.Stop.TheVariants.{Fault}
use Rattle.brc_command.specs.Commands.{HasExplanation, LeavesExplanation}
use Rattle.brc_command.specs.Explanations.{Subject, Code, UnreadableText, AcceptedModule, RefusedModule}
use Rattle.brc_command.specs.Explanations.{ScheduleText, IsExplained, fault_of}
use Rattle.brc_command.specs.Loading.{ReadsAsModule}

-- the faults with which an explanation ends
abbrev CanEnd : StepFault → Type 0
CanEnd (Text e) = Unit {0}
CanEnd (Refused r) = Unit {0}
CanEnd e = ⊥

can_end : (subject : Subject) (e : StepFault) → Some e ≡ fault_of subject → CanEnd e
can_end (Code topic) e ends = absurd cc
can_end (UnreadableText text f) e ends = let same : e ≡ Text f = cc in subst CanEnd (sym same) tt
can_end (AcceptedModule m number) e ends = absurd cc
can_end (RefusedModule m r number) e ends = let same : e ≡ Refused r = cc in subst CanEnd (sym same) tt
can_end (ScheduleText text fault) e ends = absurd cc

module _ (says : Subject → List ℕ → Type 0) (gives : List ℕ → List ℕ → Type 0) (file bytes : List ℕ)
    (only : Option (List ℕ)) (read : ReadsAsModule gives file bytes) where
  pub explains : (fault : Option StepFault) (text : List ℕ) → IsExplained says bytes only fault text
      → HasExplanation says gives file only fault text
  explains fault text explained = record { bytes = bytes; read = read; explained = explained }

  -- a beginning of the explanation is written, and it ends with a fault
  pub leaves_fault : (e : StepFault) (text : List ℕ) (old new : Option (List ℕ))
      → IsExplained says bytes only (Some e) text → AppendsBeginning old new text
      → LeavesExplanation (HasExplanation says gives file only) (Fault e) old new
  leaves_fault (Text e) text old new explained begun = (text, explains (Some (Text e)) text explained, begun)
  leaves_fault (Plan e) text old new explained begun = absurd (can_end explained.subject (Plan e) explained.ends)
  leaves_fault (Refused r) text old new explained begun =
      (text, explains (Some (Refused r)) text explained, begun)
  leaves_fault (NoFunction name) text old new explained begun =
      absurd (can_end explained.subject (NoFunction name) explained.ends)
  leaves_fault NoMemory text old new explained begun = absurd (can_end explained.subject NoMemory explained.ends)
  leaves_fault Output text old new explained begun = absurd (can_end explained.subject Output explained.ends)
