-- What the next step of a thread of the plain machine does.
use Rattle.std.specs.Prelude.{ℕ, Option, None, slice_get}
use Rattle.brc_model.specs.declared.thread.Choice.{Choice}
use Rattle.brc_model.specs.Dispatch.{action_of}
use Rattle.brc_model.specs.StepMachine.{StepMachine, of_thread}
use Rattle.brc_machine.specs.declared.sight.Sight.{Sight}
use Rattle.brc_machine.specs.Sights.{sight_by}

-- Returns the sight of thread t's step by the choice, if there is such a thread and it takes a step.
abbrev pub sight_in : StepMachine → ℕ → Choice → Option Sight
sight_in m t choice =
    of_thread None
    (λ a. sight_by m.layout t m.memory a choice (action_of m.functions m.states m.layout t a choice))
    (slice_get m.actors t)
