-- That a tally is that of a machine, from whose abstract state it is counted.
use Rattle.std.specs.Prelude.{◌≡◌, ℕ, ◌<◌, ◌≤◌, List, Option}
use Rattle.brc_lang.specs.declared.module.Module.{Module}
use Rattle.brc_lang.specs.Grammar.{IsModule}
use Rattle.brc_model.specs.declared.thread.Call.{Call}
use Rattle.brc_model.specs.declared.thread.Choice.{Choice}
use Rattle.brc_model.specs.declared.state.State.{State}
use Rattle.brc_model.specs.Paths.{IsAcceptable}
use Rattle.brc_model.specs.Tables.{AreTrueWhereReached}
use Rattle.brc_model.specs.Limits.{row_limit}
use Rattle.brc_model.specs.Safety.{AreCalls}
use Rattle.brc_model.specs.World.{World, world_of}
use Rattle.brc_model.specs.StepMachine.{StepMachine, first_machine, machine_after}
use Rattle.brc_report.specs.declared.tally.Tally.{Tally}
use Rattle.brc_machine.specs.MachineTallies.{machine_tally}

-- a reachable machine: some list of events leads to it from a first machine of an accepted module, whose states are
-- true at each point that a path reaches
pub record IsMachineOf (p : Module) (m : StepMachine) : Type 0 where
  pub fits : IsModule p
  pub accepted : IsAcceptable p
  pub states : ℕ → ℕ → Option State
  pub rows : ℕ
  pub calls : List Call
  pub events : List (ℕ × Choice)
  pub states_true : AreTrueWhereReached p states
  pub some_rows : 0 < rows
  pub most_rows : rows ≤ row_limit
  pub calls_fit : AreCalls p calls
  pub reached : m ≡ machine_after (first_machine p states rows calls) events

-- the tally is that of each reachable machine that has this world
abbrev pub IsMachineTally : World → Tally → Type 0
IsMachineTally w tally = (p : Module) (m : StepMachine) → IsMachineOf p m → world_of m ≡ w → tally ≡ machine_tally m
