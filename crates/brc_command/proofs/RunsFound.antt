-- What is written of the runs of a file's module.
use Rattle.std.proofs.Common.{◌≡◌, ℕ, List, Option, Some, inl, inr, ◌⊎◌, arith}
use Rattle.std.specs.Prelude.{None}
use Rattle.brc_command.specs.declared.step_fault.StepFault.{StepFault}
use Rattle.brc_command.specs.declared.step_fault.StepFault.TheVariants.{Text, Plan, Refused, NoFunction, NoMemory}
use Rattle.brc_command.specs.declared.step_fault.StepFault.TheVariants.{Output}
use Rattle.brc_command.specs.declared.stop.Stop.{Stop}
use Rattle.brc_command.specs.declared.stop.Stop.TheVariants.{UnreadableFile, NoFunction as Unknown, NoThread, Fault}
use Rattle.brc_command.specs.Lines.{stop_status}
use Rattle.brc_command.specs.Commands.{BeginsReport}
use Rattle.brc_command.specs.Loading.{ReadsAsModule}
use Rattle.brc_lang.specs.Written.{AppendsBeginning}
use Rattle.brc_command.specs.WrongRuns.{HasFound, HasNone, IsFoundBy, IsFoundOf, IsNoneOf, IsUnread, LeavesFound}

module _ (gives : List ℕ → List ℕ → Type 0) (file bytes : List ℕ) (workers rows : ℕ)
    (read : ReadsAsModule gives file bytes) where
  has_none : (text : List ℕ) → IsNoneOf bytes text → HasNone gives file text
  has_none text (m, accepted, reported) = record {
    module_text = read.text;
    given = read.given;
    none =
        (m, record { spelled = read.spelled m accepted.spelled; accepted = accepted.accepted }, reported);
  }

  has_found : (text : List ℕ) → IsFoundOf bytes workers rows text → HasFound gives file workers rows text
  has_found text (m, spelled, found) = record {
    module_text = read.text;
    given = read.given;
    found = (m, read.spelled m spelled, found);
  }

  -- nothing is found before the module is read
  pub leaves_nothing : (e : StepFault) (old new : Option (List ℕ)) → IsUnread e → new ≡ old
      → LeavesFound (HasNone gives file) (HasFound gives file workers rows) (Fault e) old new
  leaves_nothing (Text e) old new unread same = same
  leaves_nothing (Plan e) old new unread same = absurd unread
  leaves_nothing (Refused r) old new unread same = absurd unread
  leaves_nothing (NoFunction name) old new unread same = absurd unread
  leaves_nothing NoMemory old new unread same = same
  leaves_nothing Output old new unread same = absurd unread

  -- a beginning of the text is written, and the module is refused
  pub leaves_found : (e : StepFault) (text : List ℕ) (old new : Option (List ℕ))
      → IsFoundBy bytes workers rows (Some e) text → AppendsBeginning old new text
      → LeavesFound (HasNone gives file) (HasFound gives file workers rows) (Fault e) old new
  leaves_found (Text e) text old new found begun = absurd found
  leaves_found (Plan e) text old new found begun = absurd found
  leaves_found (Refused r) text old new found begun = (text, has_found text found, begun)
  leaves_found (NoFunction name) text old new found begun = absurd found
  leaves_found NoMemory text old new found begun = absurd found
  leaves_found Output text old new found begun = absurd found

  -- a beginning of the text is written, and the writer returned an error
  pub leaves_beginning : (fault : Option StepFault) (text : List ℕ) (old new : Option (List ℕ))
      → IsFoundBy bytes workers rows fault text → AppendsBeginning old new text
      → BeginsReport (HasNone gives file) old new ⊎ BeginsReport (HasFound gives file workers rows) old new
  leaves_beginning None text old new none begun = inl (text, has_none text none, begun)
  leaves_beginning (Some (Text e)) text old new found begun = absurd found
  leaves_beginning (Some (Plan e)) text old new found begun = absurd found
  leaves_beginning (Some (Refused r)) text old new found begun = inr (text, has_found text found, begun)
  leaves_beginning (Some (NoFunction name)) text old new found begun = absurd found
  leaves_beginning (Some NoMemory) text old new found begun = absurd found
  leaves_beginning (Some Output) text old new found begun = absurd found

-- a stop with status 1 is a refusal
pub refused_only : (is_none is_found : List ℕ → Type 0) (stop : Stop) (old new : Option (List ℕ))
    → stop_status stop ≡ 1 → LeavesFound is_none is_found stop old new → BeginsReport is_found old new
refused_only is_none is_found UnreadableFile old new is left = absurd (omega (arith, is))
refused_only is_none is_found (Unknown name) old new is left = absurd (omega (arith, is))
refused_only is_none is_found NoThread old new is left = absurd (omega (arith, is))
refused_only is_none is_found (Fault (Text e)) old new is left = absurd (omega (arith, is))
refused_only is_none is_found (Fault (Plan e)) old new is left = absurd (omega (arith, is))
refused_only is_none is_found (Fault (Refused r)) old new is left = left
refused_only is_none is_found (Fault (NoFunction name)) old new is left = absurd (omega (arith, is))
refused_only is_none is_found (Fault NoMemory) old new is left = absurd (omega (arith, is))
refused_only is_none is_found (Fault Output) old new is left = absurd (omega (arith, is))
