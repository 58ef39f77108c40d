-- The machine before any step, of a module that need not be one that the checker accepts.
use Rattle.std.specs.Prelude.{ℕ, List, Option, None}
use Rattle.brc_lang.specs.declared.module.Module.{Module}
use Rattle.brc_model.specs.declared.thread.Call.{Call}
use Rattle.brc_model.specs.declared.state.State.{State}
use Rattle.brc_model.specs.StepMachine.{StepMachine, first_machine}

-- the table that gives no point a state
abbrev pub no_states : ℕ → ℕ → Option State
no_states number at = None

-- the machine before any step
abbrev pub begun : Module → ℕ → List Call → StepMachine
begun m rows calls = first_machine m no_states rows calls
