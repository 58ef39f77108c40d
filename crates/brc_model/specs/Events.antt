-- Bad events. An event is bad if it touches a freed object, makes a move that isn't allowed, can't go on, or begins an
-- instruction that lacks what it needs.
use Rattle.std.specs.Prelude.{ℕ, Bool, true, false, ◌||◌, not, List, [], ◌∷◌, slice_get}
use Rattle.brc_model.specs.AbstractState.{are_allowed}
use Rattle.brc_model.specs.declared.duty.Duty.{Duty}
use Rattle.brc_model.specs.declared.thread.Choice.{Choice}
use Rattle.brc_model.specs.declared.thread.Choice.TheVariants.{Ok, Fault, Claim, Stop}
use Rattle.brc_model.specs.BadDuties.{touches_freed, is_bad_duty}
use Rattle.brc_model.specs.Threads.{function_in}
use Rattle.brc_model.specs.Actions.{StepActor, Action, Skip, Stuck, Silent, Calls, Does}
use Rattle.brc_model.specs.Dispatch.{action_of}
use Rattle.brc_model.specs.Needs.{starts_unfit}
use Rattle.brc_model.specs.StepMachine.{StepMachine, counting, of_thread}

-- Says whether the thread's action is bad.
abbrev pub is_bad_action : StepMachine → ℕ → StepActor → Action → Bool
is_bad_action m t a Skip = false
is_bad_action m t a Stuck = true
is_bad_action m t a (Silent moves place) = not (are_allowed m.layout m.abstract moves)
is_bad_action m t a (Calls row place) = touches_freed (counting m) t row
is_bad_action m t a (Does d rest place) = is_bad_duty (counting m) t a.actor d

-- Says whether the thread begins an instruction that lacks what it needs. A thread with duties is inside one.
abbrev pub begins_unfit : StepMachine → StepActor → List Duty → Bool
begins_unfit m a [] =
    starts_unfit m.memory a.actor.locked (function_in m.functions a.function a.place).code a.place
begins_unfit m a (d ∷ rest) = false

abbrev pub chooses_unfit : StepMachine → StepActor → Choice → Bool
chooses_unfit m a Ok = begins_unfit m a a.actor.agenda
chooses_unfit m a Fault = begins_unfit m a a.actor.agenda
chooses_unfit m a (Claim row) = false
chooses_unfit m a Stop = false

-- Says whether the event is bad: whether its thread's action is, or what it begins lacks what it needs.
abbrev pub is_bad_event : StepMachine → ℕ × Choice → Bool
is_bad_event m event =
    of_thread false
    (λ a. is_bad_action m event.0 a (action_of m.functions m.states m.layout event.0 a event.1) || chooses_unfit m a
    event.1)
    (slice_get m.actors event.0)
