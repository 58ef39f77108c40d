-- A run of a module of which nothing is known before.
use Rattle.std.specs.Prelude.{ℕ, ◌<◌, ◌≤◌, List, take, map, Option, None, Some, is_some}
use Rattle.std.specs.Io.KnownBytes.{Appends}
use Rattle.brc_lang.specs.Grammar.{IsModule}
use Rattle.brc_model.specs.declared.thread.Choice.{Choice}
use Rattle.brc_model.specs.Limits.{row_limit}
use Rattle.brc_model.specs.Safety.{AreCalls}
use Rattle.brc_model.specs.StepMachine.{StepMachine}
use Rattle.brc_machine.specs.MachineTallies.{machine_tally}
use Rattle.brc_report.specs.Report.{tally_text}
use Rattle.brc_plain.specs.Begun.{begun}
use Rattle.brc_replay.specs.WrongRuns.{event_in, IsWrongRun}
use Rattle.brc_command.specs.declared.endings.Ending.{Ending}
use Rattle.brc_command.specs.declared.rerun.Rerun.{Rerun}
use Rattle.brc_command.specs.Endings.{IsEnding}
use Rattle.brc_command.specs.WholeRuns.{AreMade, AreTold, EndsWithReport, StopsAt}

-- its module, rows and calls are within the limits
pub record Fits (r : Rerun) : Type 0 where
  pub «module» : IsModule r.module.now
  pub some_rows : 0 < r.rows
  pub most_rows : r.rows ≤ row_limit
  pub calls : AreCalls r.module.now r.calls.now

-- its first events are a wrong run
pub record HasWrongBeginning (r : Rerun) : Type 0 where
  pub count : ℕ
  pub wrong : IsWrongRun r.module.now r.rows r.calls.now (map event_in (take count r.events.now))

-- its first machine
abbrev pub first_of : Rerun → StepMachine
first_of r = begun r.module.now r.rows r.calls.now

-- its events, as the model has them
abbrev pub events_in : Rerun → List (ℕ × Choice)
events_in r = map event_in r.events.now

-- This is how it ends, and what is written.
abbrev pub RunEnds : Rerun → Option (List ℕ) → Option (List ℕ) → Ending → Type 0
RunEnds r old new = IsEnding (EndsWithReport (is_some r.trace) old new (first_of r) (events_in r))
    (HasWrongBeginning r) (λ number. StopsAt number (first_of r) (events_in r))

-- ---- its parts

-- Its first events are made, and lead to this machine. Their lines are written, if it is traced.
pub record AreTaken (r : Rerun) (count : ℕ) (now : StepMachine) (old new : Option (List ℕ)) : Type 0 where
  pub made : AreMade (first_of r) (map event_in (take count r.events.now)) now
  pub told : AreTold (is_some r.trace) old new

-- All its events are made, and lead to this machine.
pub record AllTaken (r : Rerun) (now : StepMachine) (old new : Option (List ℕ)) : Type 0 where
  pub made : AreMade (first_of r) (events_in r) now
  pub told : AreTold (is_some r.trace) old new

-- It ends before all events are made, with nothing reported.
abbrev pub EndsBefore : Rerun → Ending → Type 0
EndsBefore r = IsEnding ⊥ (HasWrongBeginning r) (λ number. StopsAt number (first_of r) (events_in r))

-- all events are made, or it ends before
abbrev pub StepsEnd : Rerun → StepMachine → Option (List ℕ) → Option (List ℕ) → Option Ending → Type 0
StepsEnd r now old new None = AllTaken r now old new
StepsEnd r now old new (Some ending) = EndsBefore r ending

-- It ends once all events are made, and the report of the machine is written.
abbrev pub ReportEnds : Rerun → StepMachine → Option (List ℕ) → Option (List ℕ) → Ending → Type 0
ReportEnds r now old new = IsEnding (Appends old new (tally_text (machine_tally now))) (HasWrongBeginning r)
    (λ number. StopsAt number (first_of r) (events_in r))
