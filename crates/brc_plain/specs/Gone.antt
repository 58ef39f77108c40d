-- Threads of the machine that are gone.
use Rattle.std.specs.Prelude.{ℕ, Bool, true, slice_get}
use Rattle.brc_model.specs.Safety.{has_gone}
use Rattle.brc_model.specs.StepMachine.{StepMachine, of_thread}

-- Says whether thread t is gone. One that isn't there is.
abbrev pub is_gone_at : StepMachine → ℕ → Bool
is_gone_at m t = of_thread true (λ a. has_gone a.actor.status) (slice_get m.actors t)
