-- What a loader may give later it may give now: an outcome of a later file is one now.
use Rattle.std.proofs.Common.{ℕ, List, Option, Bool, option_map, inl, inr}
use Rattle.std.specs.Borrow.{Bor}
use Rattle.brc_command.specs.declared.files.Format.{Format}
use Rattle.brc_command.specs.declared.files.Format.TheVariants.{All as AllLines, Text as InLines, Json}
use Rattle.brc_command.specs.declared.finding.Finding.{Finding}
use Rattle.brc_command.specs.declared.finding.Finding.TheVariants.{Accepted, Refused as IsRefused, Unreadable, Stopped}
use Rattle.brc_command.specs.declared.step_fault.StepFault.TheVariants.{Text, Plan, Refused, NoFunction, NoMemory}
use Rattle.brc_command.specs.declared.step_fault.StepFault.TheVariants.{Output}
use Rattle.brc_command.specs.declared.stop.Stop.{Stop}
use Rattle.brc_command.specs.declared.stop.Stop.TheVariants.{UnreadableFile, NoFunction as Unknown, NoThread, Fault}
use Rattle.brc_command.specs.Commands.{HasCheckReport, IsModuleReason}
use Rattle.brc_command.specs.Files.{Outcome, IsReported, IsStoppedAt, IsNamedLine, IsObject, IsOutcome}
use Rattle.brc_command.specs.Files.{AreRefusalLinesOf, IsRefusedIn}
use Rattle.brc_command.specs.Findings.{IsFinding, finding_status}

reported_by : (P Q : List ℕ → Type 0) (status : ℕ) (o : Outcome) → ((text : List ℕ) → P text → Q text)
    → IsReported P status o → IsReported Q status o
reported_by P Q status o wider is =
    record { whole = wider o.report is.whole; silent = is.silent; same_status = is.same_status }

stopped_by : (named : Bool) (P Q : List ℕ → Type 0) (R S : Stop → Type 0) (o : Outcome)
    → ((text : List ℕ) → P text → Q text) → ((stop : Stop) → R stop → S stop) → IsStoppedAt named R P o
    → IsStoppedAt named S Q o
stopped_by named P Q R S o wider reasons is = record {
  stop = is.stop;
  reason = reasons is.stop is.reason;
  same_status = is.same_status;
  line = is.line;
  unwritten = is.unwritten;
  begun = λ output. let begun = is.begun output in (begun.0, wider begun.0 begun.1, begun.2);
}

module _ (gives later_gives : List ℕ → List ℕ → Type 0) (lacks later_lacks : List ℕ → Type 0)
    (gives_no_more : (p bytes : List ℕ) → later_gives p bytes → gives p bytes)
    (lacks_no_more : (p : List ℕ) → later_lacks p → lacks p) where
  report_now : (file text : List ℕ) → HasCheckReport later_gives file text → HasCheckReport gives file text
  report_now file text is = record {
    module_text = is.module_text;
    m = is.m;
    given = gives_no_more file is.module_text is.given;
    accepted = is.accepted;
    reported = is.reported;
  }

  line_now : (named : Bool) (file text : List ℕ) → IsNamedLine later_gives named file text
      → IsNamedLine gives named file text
  line_now named file text is = (is.0, report_now file is.0 is.1, is.2)

  reason_now : (file : List ℕ) (stop : Stop) → IsModuleReason later_gives later_lacks file stop
      → IsModuleReason gives lacks file stop
  reason_now file UnreadableFile is = lacks_no_more file is
  reason_now file (Unknown name) is = absurd is
  reason_now file NoThread is = absurd is
  reason_now file (Fault (Text e)) is = (is.0, gives_no_more file is.0 is.1, is.2)
  reason_now file (Fault (Plan e)) is = (is.0, gives_no_more file is.0 is.1, is.2)
  reason_now file (Fault (Refused r)) is = (is.0, gives_no_more file is.0 is.1, is.2)
  reason_now file (Fault (NoFunction name)) is = (is.0, gives_no_more file is.0 is.1, is.2)
  reason_now file (Fault NoMemory) is = tt
  reason_now file (Fault Output) is = tt

  finding_now : (file : List ℕ) (only : Option (List ℕ)) (finding : Finding)
      → IsFinding later_gives later_lacks file only finding → IsFinding gives lacks file only finding
  finding_now file only Accepted is = (is.0, gives_no_more file is.0 is.1, is.2)
  finding_now file only (IsRefused found) is = (is.0, gives_no_more file is.0 is.1, is.2)
  finding_now file only (Unreadable unread) is = (is.0, gives_no_more file is.0 is.1, is.2)
  finding_now file only (Stopped UnreadableFile) is = lacks_no_more file is
  finding_now file only (Stopped (Unknown name)) is = (is.0, gives_no_more file is.0 is.1, is.2)
  finding_now file only (Stopped NoThread) is = (is.0, gives_no_more file is.0 is.1, is.2)
  finding_now file only (Stopped (Fault (Text e))) is = (is.0, gives_no_more file is.0 is.1, is.2)
  finding_now file only (Stopped (Fault (Plan e))) is = (is.0, gives_no_more file is.0 is.1, is.2)
  finding_now file only (Stopped (Fault (Refused r))) is = (is.0, gives_no_more file is.0 is.1, is.2)
  finding_now file only (Stopped (Fault (NoFunction name))) is = (is.0, gives_no_more file is.0 is.1, is.2)
  finding_now file only (Stopped (Fault NoMemory)) is = tt
  finding_now file only (Stopped (Fault Output)) is = (is.0, gives_no_more file is.0 is.1, is.2)

  object_now : (file : List ℕ) (only : Option (List ℕ)) (finding : Finding) (text : List ℕ)
      → IsObject later_gives later_lacks file only finding text → IsObject gives lacks file only finding text
  object_now file only finding text is = (finding_now file only finding is.0, is.1)

  lines_now : (named : Bool) (file text : List ℕ) → AreRefusalLinesOf later_gives named file text
      → AreRefusalLinesOf gives named file text
  lines_now named file text are = record {
    module_text = are.module_text;
    m = are.m;
    given = gives_no_more file are.module_text are.given;
    spelled = are.spelled;
    lines = are.lines;
  }

  refused_now : (named : Bool) (o : Outcome) → IsRefusedIn later_gives named o → IsRefusedIn gives named o
  refused_now named o is = record {
    text = is.text;
    lines = lines_now named o.file is.text is.lines;
    same_status = is.same_status;
    line = is.line;
    unwritten = is.unwritten;
  }

  pub outcome_now : (named : Bool) (format : Format) (o : Outcome) → IsOutcome later_gives later_lacks named format o
      → IsOutcome gives lacks named format o
  outcome_now named InLines o (inl is) = inl (reported_by _ _ 0 o (line_now named o.file) is)
  outcome_now named InLines o (inr is) =
      inr (stopped_by named _ _ _ _ o (line_now named o.file) (reason_now o.file) is)
  outcome_now named AllLines o (inl is) = inl (reported_by _ _ 0 o (line_now named o.file) is)
  outcome_now named AllLines o (inr (inl is)) =
      inr (inl (stopped_by named _ _ _ _ o (line_now named o.file) (reason_now o.file) is))
  outcome_now named AllLines o (inr (inr is)) = inr (inr (refused_now named o is))
  outcome_now named (Json function) o (inl is) =
      let only = option_map (λ (name : Bor (List ℕ)). name.now) function in
      inl (is.0, reported_by _ _ (finding_status is.0) o (object_now o.file only is.0) is.1)
  outcome_now named (Json function) o (inr is) =
      let only = option_map (λ (name : Bor (List ℕ)). name.now) function in
      inr (stopped_by named _ _ _ _ o (λ text object. (object.0, object_now o.file only object.0 text object.1))
      (λ stop reason. reason) is)
