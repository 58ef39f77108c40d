-- The contents of a world in the code, and the model's view of them: a word at each address.
use Rattle.std.specs.Prelude.{◌≡◌, ◌≤◌, List, length}
use Rattle.brc_lang.specs.declared.module.Module.{Module}
use Rattle.brc_model.specs.declared.layout.Layout.{Layout}
use Rattle.brc_model.specs.declared.state.Exit.{Exit}
use Rattle.brc_model.specs.declared.state.Exit.TheVariants as exits
use Rattle.brc_model.specs.declared.thread.Choice.{Choice}
use Rattle.brc_model.specs.declared.thread.Choice.TheVariants as choices
use Rattle.brc_model.specs.World.{World, IsReachable}
use Rattle.brc_model.specs.Actions.{StepActor}
use Rattle.brc_check.specs.Accepted.{Accepted}
use Rattle.brc_check.specs.Tables.{states_of}
use Rattle.brc_machine.specs.declared.faults.Faults.{Faults}
use Rattle.brc_machine.specs.Storage.{Columns, word_in}
use Rattle.brc_model.specs.Layout.{row_count}
use Rattle.brc_model.specs.Limits.{cell_limit, immortal_limit, number_limit}

pub record Contents : Type 0 where
  pub accepted : Accepted
  pub layout : Layout
  pub words : Columns
  -- by the thread's number: main is 0, the workers 1, 2, ..
  pub actors : List StepActor
  pub faults : Faults

-- the model's world of these contents: its states are those that the accepted module's table gives
abbrev pub model_of : Contents → World
model_of c = record {
  functions = c.accepted.module.functions;
  states = states_of c.accepted.module c.accepted.table;
  layout = c.layout;
  memory = word_in c.words;
  actors = c.actors;
  host_faults = c.faults.calls;
  close_faults = c.faults.closes;
}

-- the contents of a reachable world, in which each row and each thread has its words
pub record IsWorld (p : Module) (c : Contents) : Type 0 where
  pub reachable : IsReachable p (model_of c)
  pub rows : length c.words.local ≡ row_count c.layout
  pub threads : length c.words.thread ≡ length c.actors
  pub cells : c.words.width ≡ c.layout.cells
  pub few_cells : c.layout.cells ≤ cell_limit
  pub few_lists : c.layout.immortal_lists ≤ immortal_limit
  pub few_numbers : c.layout.numbers ≤ number_limit

-- the choice by which the thread's next step ends by the exit
abbrev pub choice_of : Exit → Choice
choice_of exits.Success = choices.Ok
choice_of exits.Fault = choices.Fault
