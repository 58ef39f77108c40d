-- The run of a schedule's text over a module's text.
use Rattle.std.specs.Prelude.{◌≡◌, ℕ, List, Option}
use Rattle.std.specs.Io.KnownBytes.{Appends}
use Rattle.brc_lang.specs.declared.module.Module.{Module}
use Rattle.brc_lang.specs.Grammar as modules
use Rattle.brc_lang.specs.Fault as module_faults
use Rattle.brc_lang.specs.Written.{AppendsBeginning}
use Rattle.brc_model.specs.Paths.{IsAcceptable}
use Rattle.brc_model.specs.Tables.{AreTrueWhereReached}
use Rattle.brc_model.specs.StepMachine.{StepMachine, first_machine, machine_after}
use Rattle.brc_model.specs.World.{World, first_world}
use Rattle.brc_check.specs.Accepted.{Accepted}
use Rattle.brc_check.specs.Refusal.{IsRefusedFor}
use Rattle.brc_check.specs.Tables.{states_of}
use Rattle.brc_schedule.specs.declared.schedule.Schedule.{Schedule}
use Rattle.brc_report.specs.declared.tally.Tally.{Tally}
use Rattle.brc_schedule.specs.Text as schedules
use Rattle.brc_schedule.specs.Fault as schedule_faults
use Rattle.brc_world.specs.Runs.{world_after, events_of}
use Rattle.brc_world.specs.Tallies.{tally_of}
use Rattle.brc_machine.specs.MachineTallies.{machine_tally}
use Rattle.brc_command.specs.declared.step_fault.StepFault.{StepFault}
use Rattle.brc_command.specs.declared.step_fault.StepFault.TheVariants.{Text, Plan, Refused, NoFunction, NoMemory}
use Rattle.brc_command.specs.declared.step_fault.StepFault.TheVariants.{Output}
use Rattle.brc_command.specs.Calls.{calls_of, AreKnown, IsFirstUnknown}
use Rattle.brc_report.specs.Report.{tally_text}

-- ---- the steps

-- The texts spell an accepted module, and a schedule whose calls are of its functions. The states that the module's
-- table gives are true at each point that a path reaches.
pub record IsReady (module_text schedule_text : List ℕ) (m : Accepted) (s : Schedule) : Type 0 where
  pub module_read : modules.Spells module_text m.module
  pub schedule_read : schedules.Spells schedule_text s
  pub accepted : IsAcceptable m.module
  pub states_true : AreTrueWhereReached m.module (states_of m.module m.table)
  pub known : AreKnown m.module s.calls

-- the machine before the schedule's steps
abbrev pub machine_before : Accepted → Schedule → StepMachine
machine_before m s = first_machine m.module (states_of m.module m.table) s.rows (calls_of m.module s.calls)

-- the world before the schedule's steps
abbrev pub world_before : Accepted → Schedule → World
world_before m s = first_world m.module (states_of m.module m.table) s.rows (calls_of m.module s.calls)

-- the world after the schedule's steps
abbrev pub last_world : Accepted → Schedule → World
last_world m s = world_after (world_before m s) (events_of s.steps)

-- the machine after the schedule's steps
abbrev pub last_machine : Accepted → Schedule → StepMachine
last_machine m s = machine_after (machine_before m s) (events_of s.steps)

abbrev pub report : Accepted → Schedule → List ℕ
report m s = tally_text (tally_of (last_world m s))

-- the tally after the steps
pub record HasTally (module_text schedule_text : List ℕ) (tally : Tally) : Type 0 where
  pub m : Accepted
  pub s : Schedule
  pub ready : IsReady module_text schedule_text m s
  pub counted : tally ≡ tally_of (last_world m s)

-- the whole report is written
pub record StepsTo (module_text schedule_text : List ℕ) (old new : Option (List ℕ)) : Type 0 where
  pub m : Accepted
  pub s : Schedule
  pub ready : IsReady module_text schedule_text m s
  pub reported : Appends old new (report m s)
  -- and gives the objects that the machine of these steps has created, closed and left
  pub machine : tally_of (last_world m s) ≡ machine_tally (last_machine m s)

-- a prefix of the report is written
pub record StepsTowards (module_text schedule_text : List ℕ) (old new : Option (List ℕ)) : Type 0 where
  pub m : Accepted
  pub s : Schedule
  pub ready : IsReady module_text schedule_text m s
  pub begun : AppendsBeginning old new (report m s)

-- ---- faults: each is reported only if there is none of those above it

-- the module's text is faulty, or memory was refused
abbrev pub IsTextFault : List ℕ → StepFault → Type 0
IsTextFault module_text (Text e) = module_faults.HasFault module_text e.line e.code
IsTextFault module_text NoMemory = Unit {0}
IsTextFault module_text _ = ⊥

-- the schedule's text is faulty, or memory was refused
abbrev pub IsPlanFault : List ℕ → StepFault → Type 0
IsPlanFault schedule_text (Plan e) = schedule_faults.HasFault schedule_text e.line e.code
IsPlanFault schedule_text NoMemory = Unit {0}
IsPlanFault schedule_text _ = ⊥

-- the checker refuses the module, or memory was refused
abbrev pub IsCheckFault : Module → StepFault → Type 0
IsCheckFault m (Refused r) = IsRefusedFor m.functions r
IsCheckFault m NoMemory = Unit {0}
IsCheckFault m _ = ⊥

-- the module has no function for a call, or memory was refused
abbrev pub IsCallFault : Module → Schedule → StepFault → Type 0
IsCallFault m s (NoFunction name) = IsFirstUnknown m s.calls name
IsCallFault m s NoMemory = Unit {0}
IsCallFault m s _ = ⊥

-- the schedule's text is faulty, or the module has no function for a call, or memory was refused
abbrev pub IsListFault : Module → List ℕ → StepFault → Type 0
IsListFault m schedule_text (Plan e) = schedule_faults.HasFault schedule_text e.line e.code
IsListFault m schedule_text (NoFunction name) = (s : Schedule) × schedules.Spells schedule_text s
    × IsFirstUnknown m s.calls name
IsListFault m schedule_text NoMemory = Unit {0}
IsListFault m schedule_text _ = ⊥

-- both texts are read
pub record AreRead (module_text schedule_text : List ℕ) (m : Module) (s : Schedule) : Type 0 where
  pub module_read : modules.Spells module_text m
  pub schedule_read : schedules.Spells schedule_text s

-- the fault of two texts, or memory was refused
abbrev pub IsFaultOfTexts : List ℕ → List ℕ → StepFault → Type 0
IsFaultOfTexts module_text schedule_text (Text e) = module_faults.HasFault module_text e.line e.code
IsFaultOfTexts module_text schedule_text (Plan e) = (m : Module) × modules.Spells module_text m
    × schedule_faults.HasFault schedule_text e.line e.code
IsFaultOfTexts module_text schedule_text (Refused r) = (m : Module) × (s : Schedule)
    × AreRead module_text schedule_text m s × IsRefusedFor m.functions r
IsFaultOfTexts module_text schedule_text (NoFunction name) = (m : Module) × (s : Schedule)
    × AreRead module_text schedule_text m s × IsAcceptable m × IsFirstUnknown m s.calls name
IsFaultOfTexts module_text schedule_text NoMemory = Unit {0}
IsFaultOfTexts module_text schedule_text Output = ⊥
