-- What the steps or the trace of two files leave, from what those of their texts leave.
use Rattle.std.proofs.Common.{ℕ, List, Option, inl, inr, refl}
use Rattle.brc_check.specs.Accepted.{Accepted}
use Rattle.brc_report.specs.declared.paint.Paint.{Paint}
use Rattle.brc_schedule.specs.declared.schedule.Schedule.{Schedule}
use Rattle.brc_command.specs.declared.step_fault.StepFault.{StepFault}
use Rattle.brc_command.specs.declared.step_fault.StepFault.TheVariants.{Text, Plan, Refused, NoFunction, NoMemory}
use Rattle.brc_command.specs.declared.step_fault.StepFault.TheVariants.{Output}
use Rattle.brc_command.specs.declared.stop.Stop.TheVariants.{Fault}
use Rattle.brc_command.specs.Commands.{HasStepReport, HasTraceReport, BeginsReport, Reports, LeavesTrace}
use Rattle.brc_command.specs.Commands.{IsStandardInput}
use Rattle.brc_command.specs.Loading.{ReadsAsModule, ReadsAsSchedule}
use Rattle.brc_command.specs.Texts.{IsReady, StepsTo, StepsTowards, report}
use Rattle.brc_command.specs.Traces.{TracesTo, TracesTowards, LeavesTraceOf, traced_report}
use Rattle.brc_command.proofs.GivenTexts.{texts_ready}

module _ (gives : List ℕ → List ℕ → Type 0) (file schedule bytes plan : List ℕ)
    (old new : Option (List ℕ)) (read : ReadsAsModule gives file bytes) (planned : ReadsAsSchedule gives schedule plan)
    (apart : IsStandardInput file → IsStandardInput schedule → ⊥) where
  ready_texts : (m : Accepted) (s : Schedule) → IsReady bytes plan m s → IsReady read.text planned.text m s
  ready_texts m s ready = texts_ready gives file schedule bytes plan read planned m s ready

  pub step_reported : StepsTo bytes plan old new → Reports (HasStepReport gives file schedule) old new
  step_reported stepped = (
    report stepped.m stepped.s,
    record {
      module_text = read.text;
      schedule_text = planned.text;
      m = stepped.m;
      s = stepped.s;
      module_given = read.given;
      schedule_given = planned.given;
      apart = apart;
      ready = ready_texts stepped.m stepped.s stepped.ready;
      reported = refl;
    },
    stepped.reported,
  )

  pub step_begun : StepsTowards bytes plan old new → BeginsReport (HasStepReport gives file schedule) old new
  step_begun begun = (
    report begun.m begun.s,
    record {
      module_text = read.text;
      schedule_text = planned.text;
      m = begun.m;
      s = begun.s;
      module_given = read.given;
      schedule_given = planned.given;
      apart = apart;
      ready = ready_texts begun.m begun.s begun.ready;
      reported = refl;
    },
    begun.begun,
  )

  pub trace_reported : (paint : Paint) → TracesTo paint bytes plan old new
      → Reports (HasTraceReport gives paint file schedule) old new
  trace_reported paint traced = (
    traced_report paint traced.m traced.s,
    record {
      module_text = read.text;
      schedule_text = planned.text;
      m = traced.m;
      s = traced.s;
      module_given = read.given;
      schedule_given = planned.given;
      apart = apart;
      ready = ready_texts traced.m traced.s traced.ready;
      reported = refl;
    },
    traced.reported,
  )

  towards : (paint : Paint) → TracesTowards paint bytes plan old new
      → BeginsReport (HasTraceReport gives paint file schedule) old new
  towards paint begun = (
    traced_report paint begun.m begun.s,
    record {
      module_text = read.text;
      schedule_text = planned.text;
      m = begun.m;
      s = begun.s;
      module_given = read.given;
      schedule_given = planned.given;
      apart = apart;
      ready = ready_texts begun.m begun.s begun.ready;
      reported = refl;
    },
    begun.begun,
  )

  pub trace_left : (paint : Paint) (e : StepFault) → LeavesTraceOf paint bytes plan e old new
      → LeavesTrace (HasTraceReport gives paint file schedule) (Fault e) old new
  trace_left paint Output left = towards paint left
  trace_left paint NoMemory (inl same) = inl same
  trace_left paint NoMemory (inr begun) = inr (towards paint begun)
  trace_left paint (Text e) left = left
  trace_left paint (Plan e) left = left
  trace_left paint (Refused r) left = left
  trace_left paint (NoFunction name) left = left
