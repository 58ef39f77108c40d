-- The trace of a schedule's text over a module's text, and then the report.
use Rattle.std.specs.Prelude.{◌≡◌, ◌⊎◌, ℕ, List, ◌++◌, Option}
use Rattle.std.specs.Io.KnownBytes.{Appends}
use Rattle.brc_lang.specs.Written.{AppendsBeginning}
use Rattle.brc_check.specs.Accepted.{Accepted}
use Rattle.brc_report.specs.declared.paint.Paint.{Paint}
use Rattle.brc_schedule.specs.declared.schedule.Schedule.{Schedule}
use Rattle.brc_trace.specs.TraceText.{trace_text}
use Rattle.brc_machine.specs.MachineTallies.{machine_tally}
use Rattle.brc_world.specs.Runs.{events_of}
use Rattle.brc_world.specs.Tallies.{tally_of}
use Rattle.brc_command.specs.declared.step_fault.StepFault.{StepFault}
use Rattle.brc_command.specs.declared.step_fault.StepFault.TheVariants.{NoMemory, Output}
use Rattle.brc_command.specs.Texts.{IsReady, world_before, last_world, last_machine, report}

-- the lines of the schedule's steps, and then the report
abbrev pub traced_report : Paint → Accepted → Schedule → List ℕ
traced_report paint m s = trace_text paint (world_before m s) (events_of s.steps) ++ report m s

-- all lines and the whole report are written
pub record TracesTo (paint : Paint) (module_text schedule_text : List ℕ) (old new : Option (List ℕ)) : Type 0 where
  pub m : Accepted
  pub s : Schedule
  pub ready : IsReady module_text schedule_text m s
  pub reported : Appends old new (traced_report paint m s)
  -- and the report gives the objects that the machine of these steps has created, closed and left
  pub machine : tally_of (last_world m s) ≡ machine_tally (last_machine m s)

-- a prefix of the lines and the report is written
pub record TracesTowards (paint : Paint) (module_text schedule_text : List ℕ) (old new : Option (List ℕ)) : Type 0 where
  pub m : Accepted
  pub s : Schedule
  pub ready : IsReady module_text schedule_text m s
  pub begun : AppendsBeginning old new (traced_report paint m s)

-- what a trace that stops leaves: nothing, but a prefix if the writer returned an error, and perhaps if memory was
-- refused
abbrev pub LeavesTraceOf : Paint → List ℕ → List ℕ → StepFault → Option (List ℕ) → Option (List ℕ) → Type 0
LeavesTraceOf paint module_text schedule_text Output old new = TracesTowards paint module_text schedule_text old new
LeavesTraceOf paint module_text schedule_text NoMemory old new =
    (new ≡ old) ⊎ TracesTowards paint module_text schedule_text old new
LeavesTraceOf paint module_text schedule_text e old new = new ≡ old
