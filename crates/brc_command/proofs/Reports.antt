-- What is written of a run whose steps are all made: the lines of its trace, one after another, and then the report.
use Rattle.std.proofs.Common.{◌≡◌, ℕ, Bool, List, [], ◌++◌, refl, ap, ◌∙◌, subst}
use Rattle.std.specs.Prelude.{Option, None, Some, Result, Ok, Err, IfOk, is_some}
use Rattle.std.specs.Io.KnownBytes.{Appends}
use Rattle.brc_model.specs.declared.thread.Choice.{Choice}
use Rattle.brc_model.specs.StepMachine.{StepMachine}
use Rattle.brc_machine.specs.MachineTallies.{machine_tally}
use Rattle.brc_report.specs.Report.{tally_text}
use Rattle.brc_command.specs.declared.endings.Ending.{Ending}
use Rattle.brc_command.specs.declared.endings.Ending.TheVariants.{Whole, Wrong, Beyond}
use Rattle.brc_command.specs.declared.rerun.Rerun.{Rerun}
use Rattle.brc_command.specs.Reruns.{AllTaken, EndsBefore, ReportEnds, RunEnds, StepsEnd}
use Rattle.brc_command.specs.WholeRuns.{AreMade, AreTold, EndsWithReport}
use Rattle.brc_command.proofs.Writing.{both_written, nothing_written}

pub nothing_told : (trace : Bool) (old : Option (List ℕ)) → AreTold trace old old
nothing_told trace old = record { lines = []; are = λ no. refl; written = nothing_written old }

-- one line more, or nothing
pub told_more : (trace : Bool) (old mid new : Option (List ℕ)) → AreTold trace old mid → AreTold trace mid new
    → AreTold trace old new
told_more trace old mid new before here = record {
  lines = before.lines ++ here.lines;
  are = λ no. ap (λ (l : List ℕ). l ++ here.lines) (before.are no) ∙ here.are no;
  written = both_written old mid new before.lines here.lines before.written here.written;
}

-- the report after the lines
with_report : (trace : Bool) (first last : StepMachine) (events : List (ℕ × Choice)) (old mid new : Option (List ℕ))
    → AreMade first events last → AreTold trace old mid → Appends mid new (tally_text (machine_tally last))
    → EndsWithReport trace old new first events
with_report trace first last events old mid new made told reported = record {
  right = made.right;
  lines = told.lines;
  are = told.are;
  reported = both_written old mid new told.lines _ told.written
      (subst (λ (m : StepMachine). Appends mid new (tally_text (machine_tally m))) made.reached reported);
}

-- A run ends as it does once all its events are made.
run_ends : (r : Rerun) (last : StepMachine) (old mid new : Option (List ℕ)) → AllTaken r last old mid
    → (ending : Ending) → ReportEnds r last mid new ending → RunEnds r old new ending
run_ends r last old mid new taken Whole reported =
    with_report (is_some r.trace) _ last _ old mid new taken.made taken.told reported
run_ends r last old mid new taken (Wrong text) wrong = wrong
run_ends r last old mid new taken (Beyond number) stops = stops

pub ends_reported : {E : Type 0} (r : Rerun) (last : StepMachine) (old mid new : Option (List ℕ))
    → AllTaken r last old mid → (result : Result Ending E) → IfOk result (ReportEnds r last mid new)
    → IfOk result (RunEnds r old new)
ends_reported r last old mid new taken (Ok ending) ended = run_ends r last old mid new taken ending ended
ends_reported r last old mid new taken (Err e) ended = tt

-- A run that ends before its report is written ends so whatever is written.
ends_before : (r : Rerun) (old new : Option (List ℕ)) (ending : Ending) → EndsBefore r ending → RunEnds r old new ending
ends_before r old new Whole ended = absurd ended
ends_before r old new (Wrong text) ended = ended
ends_before r old new (Beyond number) ended = ended

pub ends_unwritten : {E : Type 0} (r : Rerun) (old new : Option (List ℕ)) (result : Result Ending E)
    → IfOk result (EndsBefore r) → IfOk result (RunEnds r old new)
ends_unwritten r old new (Ok ending) ended = ends_before r old new ending ended
ends_unwritten r old new (Err e) ended = tt

-- not all steps are taken
pub ended_before : (r : Rerun) (now : StepMachine) (old mid new : Option (List ℕ)) (found : Option Ending)
    (ending : Ending) → found ≡ Some ending → StepsEnd r now old mid found → RunEnds r old new ending
ended_before r now old mid new found ending is ended =
    ends_before r old new ending (subst (StepsEnd r now old mid) is ended)

-- all are
pub all_taken : (r : Rerun) (now : StepMachine) (old mid : Option (List ℕ)) (found : Option Ending) → found ≡ None
    → StepsEnd r now old mid found → AllTaken r now old mid
all_taken r now old mid found is ended = subst (StepsEnd r now old mid) is ended
