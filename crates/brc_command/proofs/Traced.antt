-- What is written of a trace and its report, from the parts that are written.
use Rattle.std.proofs.Common.{◌≡◌, ℕ, List, ◌++◌, Option, Result, Ok, Err, OnOk, OnErr, ap, ◌∙◌, subst}
use Rattle.std.specs.Io.KnownBytes.{Appends}
use Rattle.brc_lang.specs.Written.{AppendsBeginning}
use Rattle.brc_model.specs.declared.thread.Call.{Call}
use Rattle.brc_model.specs.World.{World, first_world}
use Rattle.brc_check.specs.Accepted.{Accepted}
use Rattle.brc_check.specs.Tables.{states_of}
use Rattle.brc_report.specs.declared.paint.Paint.{Paint}
use Rattle.brc_report.specs.declared.tally.Tally.{Tally}
use Rattle.brc_report.specs.Report.{tally_text}
use Rattle.brc_schedule.specs.declared.schedule.Schedule.{Schedule}
use Rattle.brc_trace.specs.TraceText.{trace_text}
use Rattle.brc_machine.specs.MachineTallies.{machine_tally}
use Rattle.brc_world.specs.Runs.{world_after, events_of}
use Rattle.brc_world.specs.Tallies.{tally_of}
use Rattle.brc_command.specs.Calls.{calls_of}
use Rattle.brc_command.specs.Texts.{IsReady, world_before, last_world, last_machine, report}
use Rattle.brc_command.specs.Traces.{traced_report, TracesTo}
use Rattle.brc_command.proofs.Writing.{both_written, first_begun, second_begun, nothing_begun}

pub on_err : {T E : Type 0} {P : Type 0} (r : Result T E) → P → OnErr r P
on_err (Ok x) p = tt
on_err (Err e) p = p

-- the world in which the steps begin, and the text of its trace
abbrev pub BeginsAt : Accepted → Schedule → World → Type 0
BeginsAt m s w = w ≡ world_before m s

-- the calls are those that the schedule plans
pub begins_at : (m : Accepted) (s : Schedule) (w : World) (calls : List Call)
    → w ≡ first_world m.module (states_of m.module m.table) s.rows calls → calls ≡ calls_of m.module s.calls
    → BeginsAt m s w
begins_at m s w calls is planned = is ∙ ap (first_world m.module (states_of m.module m.table) s.rows) planned

abbrev pub trace_from : Paint → World → Schedule → List ℕ
trace_from paint w s = trace_text paint w (events_of s.steps)

-- a beginning of the trace
pub trace_begun : (paint : Paint) (m : Accepted) (s : Schedule) (w : World) (old new : Option (List ℕ)) → BeginsAt m s w
    → AppendsBeginning old new (trace_from paint w s) → AppendsBeginning old new (traced_report paint m s)
trace_begun paint m s w old new same begun =
    subst (λ (v : World). AppendsBeginning old new (trace_from paint v s ++ report m s)) same
    (first_begun old new (trace_from paint w s) (report m s) begun)

-- the trace alone
pub trace_written : (paint : Paint) (m : Accepted) (s : Schedule) (w : World) (old new : Option (List ℕ))
    → BeginsAt m s w → Appends old new (trace_from paint w s) → AppendsBeginning old new (traced_report paint m s)
trace_written paint m s w old new same whole =
    subst (λ (v : World). AppendsBeginning old new (trace_from paint v s ++ report m s)) same
    (second_begun old new new (trace_from paint w s) (report m s) whole (nothing_begun new (report m s)))

-- the report's tally is that of the last world
pub tally_there : (m : Accepted) (s : Schedule) (w last : World) (tally : Tally) → BeginsAt m s w
    → last ≡ world_after w (events_of s.steps) → tally ≡ tally_of last → tally_text tally ≡ report m s
tally_there m s w last tally same led counted =
    ap tally_text (counted ∙ ap tally_of (led ∙ ap (λ (v : World). world_after v (events_of s.steps)) same))

-- the trace and the report
pub report_written : (paint : Paint) (m : Accepted) (s : Schedule) (w : World) (old mid new : Option (List ℕ))
    (tally : Tally) → BeginsAt m s w → Appends old mid (trace_from paint w s) → tally_text tally ≡ report m s
    → Appends mid new (tally_text tally) → Appends old new (traced_report paint m s)
report_written paint m s w old mid new tally same whole counted more =
    subst (λ (v : World). Appends old new (trace_from paint v s ++ report m s)) same
    (both_written old mid new (trace_from paint w s) (report m s) whole (subst (Appends mid new) counted more))

-- the trace and a beginning of the report
pub report_begun : (paint : Paint) (m : Accepted) (s : Schedule) (w : World) (old mid new : Option (List ℕ))
    (tally : Tally) → BeginsAt m s w → Appends old mid (trace_from paint w s) → tally_text tally ≡ report m s
    → AppendsBeginning mid new (tally_text tally) → AppendsBeginning old new (traced_report paint m s)
report_begun paint m s w old mid new tally same whole counted begun =
    subst (λ (v : World). AppendsBeginning old new (trace_from paint v s ++ report m s)) same
    (second_begun old mid new (trace_from paint w s) (report m s) whole
    (subst (AppendsBeginning mid new) counted begun))

-- all of it, for the module that the text spells
pub traced_to : {T E : Type 0} (r : Result T E) (paint : Paint) (module_text schedule_text : List ℕ)
    (m : Accepted) (s : Schedule) (old new : Option (List ℕ)) → IsReady module_text schedule_text m s
    → tally_of (last_world m s) ≡ machine_tally (last_machine m s)
    → OnOk r (Appends old new (traced_report paint m s)) → OnOk r (TracesTo paint module_text schedule_text old new)
traced_to (Ok x) paint module_text schedule_text m s old new ready machine whole = record {
  m = m;
  s = s;
  ready = ready;
  reported = whole;
  machine = machine;
}
traced_to (Err e) paint module_text schedule_text m s old new ready machine whole = whole
