-- The runs of `step --unchecked` that aren't wrong: those whose steps are all made, and those that stop before. Nothing
-- is known of the module but that its text spells it.
use Rattle.std.specs.Prelude.{◌≡◌, ◌⊎◌, ℕ, ◌+◌, Bool, true, false, List, [], ◌∷◌, ◌++◌, length, Option, codes, decimal}
use Rattle.std.specs.Io.KnownBytes.{Appends}
use Rattle.brc_lang.specs.declared.module.Module.{Module}
use Rattle.brc_lang.specs.Grammar as modules
use Rattle.brc_lang.specs.Grammar.{line}
use Rattle.brc_lang.specs.Fault as module_faults
use Rattle.brc_lang.specs.Written.{AppendsBeginning}
use Rattle.brc_model.specs.declared.thread.Choice.{Choice}
use Rattle.brc_model.specs.Events.{is_bad_event}
use Rattle.brc_model.specs.StepMachine.{StepMachine, machine_after, next_machine}
use Rattle.brc_machine.specs.MachineTallies.{machine_tally}
use Rattle.brc_report.specs.Report.{tally_text}
use Rattle.brc_schedule.specs.declared.schedule.Schedule.{Schedule}
use Rattle.brc_schedule.specs.Text as schedules
use Rattle.brc_schedule.specs.Fault as schedule_faults
use Rattle.brc_plain.specs.Begun.{begun}
use Rattle.brc_plain.specs.Gone.{is_gone_at}
use Rattle.brc_replay.specs.WrongRuns.{goes_on}
use Rattle.brc_world.specs.Runs.{events_of}
use Rattle.brc_command.specs.declared.step_fault.StepFault.{StepFault}
use Rattle.brc_command.specs.declared.step_fault.StepFault.TheVariants.{Text, Plan, Refused, NoFunction, NoMemory}
use Rattle.brc_command.specs.declared.step_fault.StepFault.TheVariants.{Output}
use Rattle.brc_command.specs.declared.stop.Stop.{Stop}
use Rattle.brc_command.specs.declared.stop.Stop.TheVariants.{UnreadableFile, NoFunction as Unknown, NoThread, Fault}
use Rattle.brc_command.specs.Calls.{calls_of, AreKnown, IsFirstUnknown}
use Rattle.brc_command.specs.Commands.{IsStandardInput}
use Rattle.brc_command.specs.Lines.{stop_status, stop_text}
use Rattle.brc_command.specs.Texts.{AreRead}

-- ---- right events

-- Nothing is wrong about the event: its thread is gone, and nothing changes; or its thread doesn't stop, and the event
-- isn't bad.
abbrev pub IsRight : StepMachine → ℕ × Choice → Type 0
IsRight m event =
    (is_gone_at m event.0 ≡ true) ⊎ ((goes_on event.1 ≡ true) × (is_bad_event m event ≡ false))

-- each of the events is right, at the machine after those before it
abbrev pub AreRight : StepMachine → List (ℕ × Choice) → Type 0
AreRight m [] = Unit {0}
AreRight m (event ∷ events) = IsRight m event × AreRight (next_machine m event) events

-- the events lead from one machine to another, and each is right
pub record AreMade (first : StepMachine) (events : List (ℕ × Choice)) (last : StepMachine) : Type 0 where
  pub reached : last ≡ machine_after first events
  pub right : AreRight first events

-- ---- the report of a whole run

-- Lines of a trace, if one is asked for, and none otherwise. Which lines these are is left open.
abbrev pub AreLines : Bool → List ℕ → Type 0
AreLines trace lines = trace ≡ false → lines ≡ []

-- such lines are written
pub record AreTold (trace : Bool) (old new : Option (List ℕ)) : Type 0 where
  pub lines : List ℕ
  pub are : AreLines trace lines
  pub written : Appends old new lines

-- The events from the first machine on are right. What is written is lines of a trace, if one is asked for, and then
-- the report, which is the tally of the machine after all events.
pub record EndsWithReport (trace : Bool) (old new : Option (List ℕ)) (first : StepMachine)
    (events : List (ℕ × Choice)) : Type 0 where
  pub right : AreRight first events
  pub lines : List ℕ
  pub are : AreLines trace lines
  pub reported : Appends old new (lines ++ tally_text (machine_tally (machine_after first events)))

-- ---- a run that stops before

-- The number, counted from 1, is that of an event. All events before it are made, and right.
pub record IsFirstUnmade (number : ℕ) (first : StepMachine) (events : List (ℕ × Choice)) : Type 0 where
  pub made : List (ℕ × Choice)
  pub event : ℕ × Choice
  pub rest : List (ℕ × Choice)
  pub parts : events ≡ made ++ event ∷ rest
  pub named : number ≡ length made + 1
  pub right : AreRight first made

-- The run stops at the event of the number, or before there is a first machine, and then the number is 0.
abbrev pub StopsAt : ℕ → StepMachine → List (ℕ × Choice) → Type 0
StopsAt number first events = (number ≡ 0) ⊎ IsFirstUnmade number first events

abbrev pub bounds_text : ℕ → List ℕ
bounds_text number = line (codes "out of bounds at step " ++ decimal number)

-- ---- whose run it is; `holds first events`: this holds of the first machine and the events

-- the text spells a schedule of calls that the module has functions for, and it holds of their run
pub record OfPlan (m : Module) (schedule_text : List ℕ) (holds : StepMachine → List (ℕ × Choice) → Type 0)
    : Type 0 where
  pub s : Schedule
  pub schedule_read : schedules.Spells schedule_text s
  pub known : AreKnown m s.calls
  pub run : holds (begun m s.rows (calls_of m s.calls)) (events_of s.steps)

-- the texts spell a module and such a schedule
pub record OfTexts (module_text schedule_text : List ℕ) (holds : StepMachine → List (ℕ × Choice) → Type 0)
    : Type 0 where
  pub m : Module
  pub module_read : modules.Spells module_text m
  pub plan : OfPlan m schedule_text holds

-- The same of texts that the files may have. `gives path bytes`: the loader may give these bytes for the path.
pub record OfFiles (gives : List ℕ → List ℕ → Type 0) (file schedule : List ℕ)
    (holds : StepMachine → List (ℕ × Choice) → Type 0) : Type 0 where
  pub module_text : List ℕ
  pub schedule_text : List ℕ
  pub module_given : gives file module_text
  pub schedule_given : gives schedule schedule_text
  pub apart : IsStandardInput file → IsStandardInput schedule → ⊥
  pub texts : OfTexts module_text schedule_text holds

-- ---- status 0

-- All steps of the file's schedule are made over the file's module, from the module's first machine on, and none of
-- them is wrong. What is written ends with the report of the machine after all of them.
abbrev pub FilesReported : (List ℕ → List ℕ → Type 0) → List ℕ → List ℕ → Bool → Option (List ℕ) → Option (List ℕ)
    → Type 0
FilesReported gives file schedule trace old new = OfFiles gives file schedule (EndsWithReport trace old new)

-- ---- status 2

-- The texts' fault: each is reported only if there is none of those above it. Memory may be refused at any time, and
-- the writer may return an error.
abbrev pub IsReplayFault : List ℕ → List ℕ → StepFault → Type 0
IsReplayFault module_text schedule_text (Text e) = module_faults.HasFault module_text e.line e.code
IsReplayFault module_text schedule_text (Plan e) = (m : Module) × modules.Spells module_text m
    × schedule_faults.HasFault schedule_text e.line e.code
IsReplayFault module_text schedule_text (NoFunction name) = (m : Module) × (s : Schedule)
    × AreRead module_text schedule_text m s × IsFirstUnknown m s.calls name
IsReplayFault module_text schedule_text (Refused r) = ⊥
IsReplayFault module_text schedule_text NoMemory = Unit {0}
IsReplayFault module_text schedule_text Output = Unit {0}

-- two texts that the files may have are faulty
pub record HaveFault (gives : List ℕ → List ℕ → Type 0) (file schedule : List ℕ) (e : StepFault) : Type 0 where
  pub module_text : List ℕ
  pub schedule_text : List ℕ
  pub module_given : gives file module_text
  pub schedule_given : gives schedule schedule_text
  pub fault : IsReplayFault module_text schedule_text e

-- Why the steps of the files can't be made, or what is asked for can't be written. `lacks path`: the loader may answer
-- that the path can't be read.
abbrev pub IsReplayReason : (List ℕ → List ℕ → Type 0) → (List ℕ → Type 0) → List ℕ → List ℕ → Stop → Type 0
IsReplayReason gives lacks file schedule UnreadableFile = lacks file ⊎ lacks schedule
    ⊎ (IsStandardInput file × IsStandardInput schedule)
IsReplayReason gives lacks file schedule (Unknown name) = ⊥
IsReplayReason gives lacks file schedule NoThread = ⊥
IsReplayReason gives lacks file schedule (Fault NoMemory) = Unit {0}
IsReplayReason gives lacks file schedule (Fault Output) = Unit {0}
IsReplayReason gives lacks file schedule (Fault e) = HaveFault gives file schedule e

-- a reason whose status is 2, and its line, of which at least a prefix is on standard error
pub record SaysReason (is_reason : Stop → Type 0) (err_old err_new : Option (List ℕ)) : Type 0 where
  pub stop : Stop
  pub reason : is_reason stop
  pub status : stop_status stop ≡ 2
  pub line : AppendsBeginning err_old err_new (stop_text stop)

-- the number of the step at which the run stops, and its line likewise
pub record SaysStep (stops_at : ℕ → Type 0) (err_old err_new : Option (List ℕ)) : Type 0 where
  pub number : ℕ
  pub stops : stops_at number
  pub line : AppendsBeginning err_old err_new (bounds_text number)

-- the run of the files stops at the step of the number
abbrev pub FilesStopAt : (List ℕ → List ℕ → Type 0) → List ℕ → List ℕ → ℕ → Type 0
FilesStopAt gives file schedule number = OfFiles gives file schedule (StopsAt number)

-- Standard error has the reason, or it names the step at which the run stops.
abbrev pub SaysWhy : (List ℕ → List ℕ → Type 0) → (List ℕ → Type 0) → List ℕ → List ℕ → Option (List ℕ)
    → Option (List ℕ) → Type 0
SaysWhy gives lacks file schedule err_old err_new =
    SaysReason (IsReplayReason gives lacks file schedule) err_old err_new
    ⊎ SaysStep (FilesStopAt gives file schedule) err_old err_new
