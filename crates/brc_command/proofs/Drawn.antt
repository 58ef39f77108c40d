-- What the trace leaves if its picture can't be made or saved.
use Rattle.std.proofs.Common.{ℕ, List, [], Option, inl, refl, sym, append-nil}
use Rattle.brc_report.specs.declared.paint.Paint.{Paint}
use Rattle.brc_command.specs.declared.step_fault.StepFault.{StepFault}
use Rattle.brc_command.specs.declared.step_fault.StepFault.TheVariants.{Text, Plan, Refused, NoFunction, NoMemory}
use Rattle.brc_command.specs.declared.step_fault.StepFault.TheVariants.{Output}
use Rattle.brc_command.specs.Texts.{IsFaultOfTexts}
use Rattle.brc_command.specs.Traces.{TracesTo, TracesTowards, LeavesTraceOf, traced_report}

-- The picture can't be made, and nothing is written.
pub nothing_left : (paint : Paint) (module_text schedule_text : List ℕ) (e : StepFault) (old : Option (List ℕ))
    → IsFaultOfTexts module_text schedule_text e → LeavesTraceOf paint module_text schedule_text e old old
nothing_left paint module_text schedule_text Output old fault = absurd fault
nothing_left paint module_text schedule_text NoMemory old fault = inl refl
nothing_left paint module_text schedule_text (Text e) old fault = refl
nothing_left paint module_text schedule_text (Plan e) old fault = refl
nothing_left paint module_text schedule_text (Refused r) old fault = refl
nothing_left paint module_text schedule_text (NoFunction name) old fault = refl

-- The picture can't be saved, and the whole trace is written.
pub whole_left : (paint : Paint) (module_text schedule_text : List ℕ) (old new : Option (List ℕ))
    → TracesTo paint module_text schedule_text old new → TracesTowards paint module_text schedule_text old new
whole_left paint module_text schedule_text old new traced = record {
  m = traced.m;
  s = traced.s;
  ready = traced.ready;
  begun = record {
    front = traced_report paint traced.m traced.s;
    rest = [];
    parts = sym (append-nil (traced_report paint traced.m traced.s));
    appended = traced.reported;
  };
}
