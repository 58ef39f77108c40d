-- The events that a schedule lists, and the world after them.
use Rattle.std.specs.Prelude.{◌≡◌, ◌≢◌, ℕ, List, ◌∷◌, ◌++◌, fold, replicate}
use Rattle.std.specs.List.{flat_map}
use Rattle.brc_model.specs.declared.thread.Choice.{Choice}
use Rattle.brc_model.specs.World.{World, step}
use Rattle.brc_schedule.specs.declared.schedule.Steps.{Steps}

-- the world after a list of events, each a thread and its choice
abbrev pub world_after : World → List (ℕ × Choice) → World
world_after w events = fold (λ v event. step v event.0 event.1) w events

abbrev pub events_of_line : Steps → List (ℕ × Choice)
events_of_line line = replicate line.times (line.thread, line.choice)

abbrev pub events_of : List Steps → List (ℕ × Choice)
events_of lines = flat_map events_of_line lines

-- the world after the first events of the list, where the next event would change it
pub record StandsWithin (old : World) (events : List (ℕ × Choice)) (new : World) : Type 0 where
  pub made : List (ℕ × Choice)
  pub next : ℕ × Choice
  pub left : List (ℕ × Choice)
  pub parts : events ≡ made ++ next ∷ left
  pub stands : new ≡ world_after old made
  pub moves : step new next.0 next.1 ≢ new
