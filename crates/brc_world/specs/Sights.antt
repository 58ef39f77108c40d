-- Sights of a world: what a thread's next step does, as it can be seen before the step is taken.
use Rattle.std.specs.Prelude.{ℕ, ◌==◌, if◌then◌else◌, List, [], ◌∷◌, ◌++◌, Option, None, slice_get}
use Rattle.brc_model.specs.declared.thread.Choice.{Choice}
use Rattle.brc_model.specs.declared.event.WordEvent.{WordEvent}
use Rattle.brc_model.specs.Dispatch.{action_of}
use Rattle.brc_model.specs.StepMachine.{of_thread}
use Rattle.brc_model.specs.World.{World, step}
use Rattle.brc_machine.specs.declared.sight.Sight.{Sight}
use Rattle.brc_machine.specs.Sights.{sight_by, listed, words_shown}

-- Returns the sight of thread t's step by the choice, if there is such a thread and it takes a step.
abbrev pub sight_at : World → ℕ → Choice → Option Sight
sight_at w t choice =
    of_thread None
    (λ a. sight_by w.layout t w.memory a choice (action_of w.functions w.states w.layout t a choice))
    (slice_get w.actors t)

-- ---- a run

-- the sight of the event, if it is thread t's
abbrev pub sights_at : ℕ → World → ℕ × Choice → List Sight
sights_at t w event = if event.0 == t then listed (sight_at w t event.1) else []

-- the sights of thread t along the events from the world
abbrev pub sights_on : ℕ → World → List (ℕ × Choice) → List Sight
sights_on t w [] = []
sights_on t w (event ∷ rest) = sights_at t w event ++ sights_on t (step w event.0 event.1) rest

-- the word events that the sights of thread t show along the events from the world
abbrev pub words_seen : ℕ → World → List (ℕ × Choice) → List WordEvent
words_seen t w events = words_shown (sights_on t w events)
