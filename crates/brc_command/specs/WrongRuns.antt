-- What is shown of the runs of a module that the checker may refuse.
use Rattle.std.specs.Prelude.{◌≡◌, ◌⊎◌, ℕ, ◌==◌, if◌then◌else◌, Bool, List, [], ◌++◌, Option, None, Some, codes}
use Rattle.std.specs.Prelude.{decimal}
use Rattle.brc_lang.specs.declared.module.Module.{Module}
use Rattle.brc_lang.specs.Grammar as modules
use Rattle.brc_lang.specs.Written.{AppendsBeginning}
use Rattle.brc_model.specs.declared.thread.Choice.{Choice}
use Rattle.brc_schedule.specs.declared.schedule.Schedule.{Schedule}
use Rattle.brc_schedule.specs.Text as schedules
use Rattle.brc_world.specs.Runs.{events_of}
use Rattle.brc_replay.specs.WrongRuns.{IsWrongRun}
use Rattle.brc_command.specs.declared.unchecked.Unchecked.{Unchecked}
use Rattle.brc_command.specs.declared.unchecked.Unchecked.TheVariants.{Explain, Step}
use Rattle.brc_command.specs.declared.endings.Ending.{Ending}
use Rattle.brc_command.specs.declared.step_fault.StepFault.{StepFault}
use Rattle.brc_command.specs.declared.step_fault.StepFault.TheVariants.{Text, Refused, NoMemory, Output}
use Rattle.brc_command.specs.declared.stop.Stop.{Stop}
use Rattle.brc_command.specs.declared.stop.Stop.TheVariants.{Fault}
use Rattle.brc_command.specs.Accepted.{accepted_text}
use Rattle.brc_command.specs.Calls.{calls_of}
use Rattle.brc_command.specs.Commands.{Reports, BeginsReport}
use Rattle.brc_command.specs.Endings.{IsEnding}
use Rattle.brc_command.specs.Explanations.{IsAccepted}
use Rattle.brc_command.specs.Lines.{fault_text}
use Rattle.brc_command.specs.WholeRuns.{EndsWithReport, StopsAt, OfPlan, OfTexts}
use Rattle.brc_command.specs.WholeRuns.{FilesReported, FilesStopAt, SaysWhy}

-- ---- a run that is found

-- The text spells a schedule whose events are a wrong run of the module: by the model's events they lead from the first
-- machine to a bad event, or to an end at which an object is lost.
pub record SpellsWrongRun (m : Module) (text : List ℕ) : Type 0 where
  pub schedule : Schedule
  pub spells : schedules.Spells text schedule
  pub wrong : IsWrongRun m schedule.rows (calls_of m schedule.calls) (events_of schedule.steps)

-- the text has such a text in it
pub record ShowsWrongRun (m : Module) (text : List ℕ) : Type 0 where
  pub above : List ℕ
  pub lines : List ℕ
  pub below : List ℕ
  pub parts : text ≡ (above ++ lines) ++ below
  pub spells : SpellsWrongRun m lines

-- the end of the plural behind a number other than 1
abbrev pub plural : ℕ → List ℕ
plural n = if n == 1 then [] else codes "s"

abbrev pub none_line : List ℕ → List ℕ → List ℕ → List ℕ → List ℕ → List ℕ → List ℕ
none_line workers of_workers rows of_rows states of_states =
    codes "no run goes wrong with " ++ (workers ++ (codes " worker" ++ (of_workers ++ (codes " of " ++ (rows
    ++ (codes " row" ++ (of_rows ++ (codes " within " ++ (states ++ (codes " state" ++ (of_states
    ++ codes "\n")))))))))))

-- that no run is found among this number of states
abbrev pub none_text : ℕ → ℕ → ℕ → List ℕ
none_text workers rows states =
    none_line (decimal workers) (plural workers) (decimal rows) (plural rows) (decimal states) (plural states)

-- a run that goes wrong is shown, or that none is found, and why the search has ended, in words that are left open
abbrev pub IsFound : Module → ℕ → ℕ → List ℕ → Type 0
IsFound m workers rows text = ShowsWrongRun m text
    ⊎ ((states : ℕ) × (why : List ℕ) × (text ≡ none_text workers rows states ++ why))

-- what is found of the module that the bytes spell
abbrev pub IsFoundOf : List ℕ → ℕ → ℕ → List ℕ → Type 0
IsFoundOf bytes workers rows text = (m : Module) × modules.Spells bytes m × IsFound m workers rows text

-- that the module is accepted, and that no run of it goes wrong
abbrev pub no_run_text : Module → List ℕ
no_run_text m = accepted_text m ++ codes "no run of it goes wrong\n"

-- the same of the module that the bytes spell
abbrev pub IsNoneOf : List ℕ → List ℕ → Type 0
IsNoneOf bytes text = (m : Module) × IsAccepted bytes m × (text ≡ no_run_text m)

-- what is written of the bytes' module, which is accepted if there is no fault, and refused if that is the fault
abbrev pub IsFoundBy : List ℕ → ℕ → ℕ → Option StepFault → List ℕ → Type 0
IsFoundBy bytes workers rows None text = IsNoneOf bytes text
IsFoundBy bytes workers rows (Some (Refused r)) text = IsFoundOf bytes workers rows text
IsFoundBy bytes workers rows (Some fault) text = ⊥

-- the text can't be read, or memory was refused
abbrev pub IsUnread : StepFault → Type 0
IsUnread (Text e) = Unit {0}
IsUnread NoMemory = Unit {0}
IsUnread fault = ⊥

-- ---- what `explain --schedule` writes; `gives path bytes`: the loader may give these bytes for the path

-- what is found of the file's module
pub record HasFound (gives : List ℕ → List ℕ → Type 0) (file : List ℕ) (workers rows : ℕ) (text : List ℕ)
    : Type 0 where
  pub module_text : List ℕ
  pub given : gives file module_text
  pub found : IsFoundOf module_text workers rows text

-- the file's module is accepted, so that no run of it goes wrong
pub record HasNone (gives : List ℕ → List ℕ → Type 0) (file text : List ℕ) : Type 0 where
  pub module_text : List ℕ
  pub given : gives file module_text
  pub none : IsNoneOf module_text text

-- standard output after a stop: what is found, if the module is refused, or a prefix of it if the writer returned an
-- error
abbrev pub LeavesFound : (List ℕ → Type 0) → (List ℕ → Type 0) → Stop → Option (List ℕ) → Option (List ℕ) → Type 0
LeavesFound is_none is_found (Fault (Refused r)) old new = BeginsReport is_found old new
LeavesFound is_none is_found (Fault Output) old new = BeginsReport is_none old new ⊎ BeginsReport is_found old new
LeavesFound is_none is_found stop old new = new ≡ old

-- ---- what `step --unchecked` finds

-- The text spells a schedule whose first events are a wrong run of the module.
pub record PlanGoesWrong (m : Module) (schedule_text : List ℕ) : Type 0 where
  pub s : Schedule
  pub schedule_read : schedules.Spells schedule_text s
  pub made : List (ℕ × Choice)
  pub rest : List (ℕ × Choice)
  pub parts : events_of s.steps ≡ made ++ rest
  pub wrong : IsWrongRun m s.rows (calls_of m s.calls) made

-- The texts spell a module and such a schedule.
pub record TextsGoWrong (module_text schedule_text : List ℕ) : Type 0 where
  pub m : Module
  pub module_read : modules.Spells module_text m
  pub wrong : PlanGoesWrong m schedule_text

-- the same of texts that the files may have
pub record GoesWrong (gives : List ℕ → List ℕ → Type 0) (file schedule : List ℕ) : Type 0 where
  pub module_text : List ℕ
  pub schedule_text : List ℕ
  pub module_given : gives file module_text
  pub schedule_given : gives schedule schedule_text
  pub wrong : TextsGoWrong module_text schedule_text

-- ---- how `step --unchecked` ends, by the ending

-- the run of the schedule's text over the module
abbrev pub PlanEnds : Module → List ℕ → Bool → Option (List ℕ) → Option (List ℕ) → Ending → Type 0
PlanEnds m schedule_text trace old new = IsEnding (OfPlan m schedule_text (EndsWithReport trace old new))
    (PlanGoesWrong m schedule_text) (λ number. OfPlan m schedule_text (StopsAt number))

-- the run of the texts
abbrev pub TextsEnd : List ℕ → List ℕ → Bool → Option (List ℕ) → Option (List ℕ) → Ending → Type 0
TextsEnd module_text schedule_text trace old new =
    IsEnding (OfTexts module_text schedule_text (EndsWithReport trace old new))
    (TextsGoWrong module_text schedule_text) (λ number. OfTexts module_text schedule_text (StopsAt number))

-- the run of the files
abbrev pub FilesEnd : (List ℕ → List ℕ → Type 0) → List ℕ → List ℕ → Bool → Option (List ℕ) → Option (List ℕ)
    → Ending → Type 0
FilesEnd gives file schedule trace old new = IsEnding (FilesReported gives file schedule trace old new)
    (GoesWrong gives file schedule) (FilesStopAt gives file schedule)

-- ---- both

-- What standard output, standard error and the status show of the request.
--
-- Where `explain --schedule` ends with status 1, a run that goes wrong is shown or that none is found, or a prefix of
-- that, and with 0 the module is accepted.
--
-- Where `step --unchecked` ends with status 0, all steps are made, none of them is wrong, the report is written, and
-- standard error is as it was. With 1 the run goes wrong. With 2 standard error has the reason, or it names the step at
-- which the run stops. With 3 it says that memory was refused.
abbrev pub EndsUnchecked : (List ℕ → List ℕ → Type 0) → (List ℕ → Type 0) → Unchecked → Option (List ℕ)
    → Option (List ℕ) → Option (List ℕ) → Option (List ℕ) → ℕ → Type 0
EndsUnchecked gives lacks (Explain file bounds) old new err_old err_new status =
    (status ≡ 0 → Reports (HasNone gives file.now) old new)
    × (status ≡ 1 → BeginsReport (HasFound gives file.now bounds.workers bounds.rows) old new)
EndsUnchecked gives lacks (Step file schedule trace picture) old new err_old err_new status =
    (status ≡ 0 → FilesReported gives file.now schedule.now trace old new × (err_new ≡ err_old))
    × (status ≡ 1 → GoesWrong gives file.now schedule.now)
    × (status ≡ 2 → SaysWhy gives lacks file.now schedule.now err_old err_new)
    × (status ≡ 3 → AppendsBeginning err_old err_new (fault_text NoMemory))
