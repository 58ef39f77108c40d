-- The report of each command over the files that a loader may give, and the reasons why it may stop.
use Rattle.std.specs.Prelude.{◌≡◌, ◌≢◌, ◌⊎◌, ℕ, true, false, List, Option, None, Some, map, option_map, codes}
use Rattle.std.specs.Io.KnownBytes.{Appends}
use Rattle.brc_lang.specs.declared.module.Module.{Module}
use Rattle.brc_lang.specs.Grammar.{Spells}
use Rattle.brc_lang.specs.Fault.{HasFault}
use Rattle.brc_lang.specs.Written.{AppendsBeginning}
use Rattle.brc_check.specs.Refusal.{IsRefusedFor}
use Rattle.brc_check.specs.Accepted.{Accepted}
use Rattle.brc_report.specs.declared.paint.Paint.{Paint}
use Rattle.brc_report.specs.declared.tally.Tally.{Tally}
use Rattle.brc_report.specs.Report.{tally_text}
use Rattle.brc_run.specs.Runs.{IsTallyOfRun}
use Rattle.brc_schedule.specs.declared.schedule.Schedule.{Schedule}
use Rattle.brc_command.specs.declared.asked.Asked.{Asked}
use Rattle.brc_command.specs.declared.asked.Asked.TheVariants.{Run as ToRun, Check as ToCheck, Step as ToStep, Draw as ToDraw}
use Rattle.brc_command.specs.declared.asked.Asked.TheVariants.{Version}
use Rattle.brc_command.specs.declared.asked.Asked.TheVariants.{Explain as ToExplain, Page as ToPage}
use Rattle.brc_command.specs.declared.asked.Asked.TheVariants.{ExplainSchedule as ToExplainSchedule}
use Rattle.brc_command.specs.declared.asked.Run.{Run}
use Rattle.brc_command.specs.declared.step_fault.StepFault.{StepFault}
use Rattle.brc_command.specs.declared.step_fault.StepFault.TheVariants.{Text, Refused, NoMemory, Output}
use Rattle.brc_command.specs.declared.stop.Stop.{Stop}
use Rattle.brc_command.specs.declared.stop.Stop.TheVariants.{UnreadableFile, NoFunction, NoThread, Fault}
use Rattle.brc_command.specs.Accepted.{accepted_text}
use Rattle.brc_command.specs.Calls.{can_call, calls_named}
use Rattle.brc_command.specs.Explanations.{Subject, Code, IsAccepted, IsExplained, LacksNamed, says_anything}
use Rattle.brc_command.specs.Loading.{ReadsAsModule}
use Rattle.brc_command.specs.Lines.{stop_text, stop_status, version_text}
use Rattle.brc_command.specs.ScheduleExplanations.{HasScheduleExplanation, IsScheduleReason}
use Rattle.brc_command.specs.Texts.{IsReady, IsFaultOfTexts, report}
use Rattle.brc_command.specs.Traces.{traced_report}

-- ---- the reports; `gives path bytes`: the loader may give these bytes for the path

pub record HasCheckReport (gives : List ℕ → List ℕ → Type 0) (file text : List ℕ) : Type 0 where
  pub module_text : List ℕ
  pub m : Module
  pub given : gives file module_text
  pub accepted : IsAccepted module_text m
  pub reported : text ≡ accepted_text m

-- the path that means standard input, which can be read only once
abbrev pub IsStandardInput : List ℕ → Type 0
IsStandardInput path = path ≡ codes "-"

pub record HasStepReport (gives : List ℕ → List ℕ → Type 0) (file schedule text : List ℕ) : Type 0 where
  pub module_text : List ℕ
  pub schedule_text : List ℕ
  pub m : Accepted
  pub s : Schedule
  pub module_given : gives file module_text
  pub schedule_given : gives schedule schedule_text
  pub apart : IsStandardInput file → IsStandardInput schedule → ⊥
  pub ready : IsReady module_text schedule_text m s
  pub reported : text ≡ report m s

pub record HasTraceReport (gives : List ℕ → List ℕ → Type 0) (paint : Paint) (file schedule text : List ℕ)
    : Type 0 where
  pub module_text : List ℕ
  pub schedule_text : List ℕ
  pub m : Accepted
  pub s : Schedule
  pub module_given : gives file module_text
  pub schedule_given : gives schedule schedule_text
  pub apart : IsStandardInput file → IsStandardInput schedule → ⊥
  pub ready : IsReady module_text schedule_text m s
  pub reported : text ≡ traced_report paint m s

-- the function can be called from outside, and the run's tally is this one, over the asked paths and peers
pub record RunsTo (m : Module) (asked : Run) (tally : Tally) : Type 0 where
  pub known : can_call m asked.function.now ≡ true
  pub ran : IsTallyOfRun (map (λ path. path.now) asked.paths.now) (map (λ peer. peer.now) asked.peers.now) m
      asked.threads asked.rows (calls_named m asked.function.now asked.times) asked.steps tally

pub record HasRunReport (gives : List ℕ → List ℕ → Type 0) (asked : Run) (text : List ℕ) : Type 0 where
  pub module_text : List ℕ
  pub m : Module
  pub tally : Tally
  pub given : gives asked.file.now module_text
  pub accepted : IsAccepted module_text m
  pub ran : RunsTo m asked tally
  pub reported : text ≡ tally_text tally

-- The text is what the explainer says of the bytes that are read of the file: of an accepted module with the function
-- for which the explanation asks, if there is no fault. `says subject text`: the explainer may say so.
pub record HasExplanation (says : Subject → List ℕ → Type 0) (gives : List ℕ → List ℕ → Type 0) (file : List ℕ)
    (only : Option (List ℕ)) (fault : Option StepFault) (text : List ℕ) : Type 0 where
  pub bytes : List ℕ
  pub read : ReadsAsModule gives file bytes
  pub explained : IsExplained says bytes only fault text

-- the report, whose explanations are those of an explainer
abbrev pub HasReportBy : (Subject → List ℕ → Type 0) → (List ℕ → List ℕ → Type 0) → Paint → Asked → List ℕ → Type 0
HasReportBy says gives paint (ToRun asked) text = HasRunReport gives asked text
HasReportBy says gives paint (ToCheck file) text = HasCheckReport gives file.now text
HasReportBy says gives paint (ToStep file schedule false) text = HasStepReport gives file.now schedule.now text
HasReportBy says gives paint (ToStep file schedule true) text = HasTraceReport gives paint file.now schedule.now text
HasReportBy says gives paint (ToDraw file schedule picture) text = HasTraceReport gives paint file.now schedule.now text
HasReportBy says gives paint (ToExplain file function) text =
    HasExplanation says gives file.now (option_map (λ name. name.now) function) None text
HasReportBy says gives paint (ToExplainSchedule file) text = HasScheduleExplanation says gives file.now None text
HasReportBy says gives paint (ToPage topic) text = says (Code topic) text
HasReportBy says gives paint Version text = text ≡ version_text

-- the report of the program, of whose explanations the words are left open
abbrev pub HasReport : (List ℕ → List ℕ → Type 0) → Paint → Asked → List ℕ → Type 0
HasReport = HasReportBy says_anything

-- ---- the reasons; `lacks path`: the loader may answer that the path can't be read. Refused memory and an error of the
-- writer may stop any command, and a thread that can't be started any run

-- the text spells no accepted module
abbrev pub IsModuleFault : List ℕ → StepFault → Type 0
IsModuleFault text (Text e) = HasFault text e.line e.code
IsModuleFault text (Refused r) = (m : Module) × Spells text m × IsRefusedFor m.functions r
IsModuleFault text NoMemory = Unit {0}
IsModuleFault text _ = ⊥

-- the file gives no accepted module
abbrev pub IsModuleReason : (List ℕ → List ℕ → Type 0) → (List ℕ → Type 0) → List ℕ → Stop → Type 0
IsModuleReason gives lacks file UnreadableFile = lacks file
IsModuleReason gives lacks file (NoFunction name) = ⊥
IsModuleReason gives lacks file NoThread = ⊥
IsModuleReason gives lacks file (Fault NoMemory) = Unit {0}
IsModuleReason gives lacks file (Fault Output) = Unit {0}
IsModuleReason gives lacks file (Fault e) = (text : List ℕ) × gives file text × IsModuleFault text e

-- the accepted module has no function that can be called by the name
pub record LacksFunction (gives : List ℕ → List ℕ → Type 0) (file name : List ℕ) : Type 0 where
  pub module_text : List ℕ
  pub m : Module
  pub given : gives file module_text
  pub accepted : IsAccepted module_text m
  pub unknown : can_call m name ≡ false

abbrev pub IsRunReason : (List ℕ → List ℕ → Type 0) → (List ℕ → Type 0) → Run → Stop → Type 0
IsRunReason gives lacks asked (NoFunction name) = (name ≡ asked.function)
    × LacksFunction gives asked.file.now asked.function.now
IsRunReason gives lacks asked NoThread = Unit {0}
IsRunReason gives lacks asked stop = IsModuleReason gives lacks asked.file.now stop

-- two texts that the files may have are faulty
pub record AreAtFault (gives : List ℕ → List ℕ → Type 0) (file schedule : List ℕ) (e : StepFault) : Type 0 where
  pub module_text : List ℕ
  pub schedule_text : List ℕ
  pub module_given : gives file module_text
  pub schedule_given : gives schedule schedule_text
  pub fault : IsFaultOfTexts module_text schedule_text e

abbrev pub IsStepReason : (List ℕ → List ℕ → Type 0) → (List ℕ → Type 0) → List ℕ → List ℕ → Stop → Type 0
IsStepReason gives lacks file schedule UnreadableFile = lacks file ⊎ lacks schedule
    ⊎ (IsStandardInput file × IsStandardInput schedule)
IsStepReason gives lacks file schedule (NoFunction name) = ⊥
IsStepReason gives lacks file schedule NoThread = ⊥
IsStepReason gives lacks file schedule (Fault NoMemory) = Unit {0}
IsStepReason gives lacks file schedule (Fault Output) = Unit {0}
IsStepReason gives lacks file schedule (Fault e) = AreAtFault gives file schedule e

-- the module of the file lacks the function for which an explanation asks, or the file gives no accepted module
abbrev pub IsExplainReason : (List ℕ → List ℕ → Type 0) → (List ℕ → Type 0) → List ℕ → Option (List ℕ) → Stop → Type 0
IsExplainReason gives lacks file only (NoFunction name) = (only ≡ Some name.now)
    × (text : List ℕ) × gives file text × LacksNamed text name.now
IsExplainReason gives lacks file only stop = IsModuleReason gives lacks file stop

-- memory was refused, or the writer returned an error
abbrev pub IsPageReason : Stop → Type 0
IsPageReason (Fault NoMemory) = Unit {0}
IsPageReason (Fault Output) = Unit {0}
IsPageReason stop = ⊥

abbrev pub IsReason : (List ℕ → List ℕ → Type 0) → (List ℕ → Type 0) → Asked → Stop → Type 0
IsReason gives lacks (ToRun asked) stop = IsRunReason gives lacks asked stop
IsReason gives lacks (ToCheck file) stop = IsModuleReason gives lacks file.now stop
IsReason gives lacks (ToStep file schedule trace) stop = IsStepReason gives lacks file.now schedule.now stop
IsReason gives lacks (ToDraw file schedule picture) stop = IsStepReason gives lacks file.now schedule.now stop
IsReason gives lacks (ToExplain file function) stop =
    IsExplainReason gives lacks file.now (option_map (λ name. name.now) function) stop
IsReason gives lacks (ToExplainSchedule file) stop = IsScheduleReason gives lacks file.now stop
IsReason gives lacks (ToPage topic) stop = IsPageReason stop
IsReason gives lacks Version stop = stop ≡ Fault Output

-- ---- the outputs afterwards

-- the whole report
abbrev pub Reports : (List ℕ → Type 0) → Option (List ℕ) → Option (List ℕ) → Type 0
Reports is_report old new = (text : List ℕ) × is_report text × Appends old new text

-- a prefix of the report
abbrev pub BeginsReport : (List ℕ → Type 0) → Option (List ℕ) → Option (List ℕ) → Type 0
BeginsReport is_report old new = (text : List ℕ) × is_report text × AppendsBeginning old new text

-- the report is on standard output, and standard error is as it was
pub record IsDone (is_report : List ℕ → Type 0) (old new err_old err_new : Option (List ℕ)) : Type 0 where
  pub reported : Reports is_report old new
  pub silent : err_new ≡ err_old

-- standard output after a stop: as it was, or with a prefix of the report if its writer returned an error
pub record LeavesReport (is_report : List ℕ → Type 0) (stop : Stop) (old new : Option (List ℕ)) : Type 0 where
  pub unwritten : stop ≢ Fault Output → new ≡ old
  pub begun : stop ≡ Fault Output → BeginsReport is_report old new

-- standard output after an explanation that stops: a text that can't be read and a module that is refused are explained
-- too, and of that explanation a prefix is there if the writer returned an error
abbrev pub LeavesExplanation : (Option StepFault → List ℕ → Type 0) → Stop → Option (List ℕ) → Option (List ℕ)
    → Type 0
LeavesExplanation is_explanation (Fault NoMemory) old new = new ≡ old
LeavesExplanation is_explanation (Fault Output) old new = (fault : Option StepFault)
    × BeginsReport (is_explanation fault) old new
LeavesExplanation is_explanation (Fault e) old new = BeginsReport (is_explanation (Some e)) old new
LeavesExplanation is_explanation stop old new = new ≡ old

-- standard output after a trace that stops: if memory was refused, it may have a prefix of the report too
abbrev pub LeavesTrace : (List ℕ → Type 0) → Stop → Option (List ℕ) → Option (List ℕ) → Type 0
LeavesTrace is_report (Fault Output) old new = BeginsReport is_report old new
LeavesTrace is_report (Fault NoMemory) old new = (new ≡ old) ⊎ BeginsReport is_report old new
LeavesTrace is_report stop old new = new ≡ old

abbrev pub LeavesBy : (Subject → List ℕ → Type 0) → (List ℕ → List ℕ → Type 0) → Paint → Asked → Stop
    → Option (List ℕ) → Option (List ℕ) → Type 0
LeavesBy says gives paint (ToExplain file function) stop old new =
    LeavesExplanation (HasExplanation says gives file.now (option_map (λ name. name.now) function)) stop old new
LeavesBy says gives paint (ToExplainSchedule file) stop old new =
    LeavesExplanation (HasScheduleExplanation says gives file.now) stop old new
LeavesBy says gives paint (ToStep file schedule true) stop old new =
    LeavesTrace (HasTraceReport gives paint file.now schedule.now) stop old new
LeavesBy says gives paint (ToDraw file schedule picture) stop old new =
    LeavesTrace (HasTraceReport gives paint file.now schedule.now) stop old new
LeavesBy says gives paint asked stop old new = LeavesReport (HasReportBy says gives paint asked) stop old new

-- what the program leaves
abbrev pub ProgramLeaves : (List ℕ → List ℕ → Type 0) → Paint → Asked → Stop → Option (List ℕ) → Option (List ℕ)
    → Type 0
ProgramLeaves = LeavesBy says_anything

-- one reason gives the status and the line, of which at least a prefix is on standard error
pub record IsStopped (is_reason : Stop → Type 0) (leaves : Stop → Option (List ℕ) → Option (List ℕ) → Type 0)
    (old new err_old err_new : Option (List ℕ)) (status : ℕ) : Type 0 where
  pub stop : Stop
  pub reason : is_reason stop
  pub same_status : status ≡ stop_status stop
  pub line : AppendsBeginning err_old err_new (stop_text stop)
  pub left : leaves stop old new
