-- Steps that are taken line by line, and in parts of lines: what is left to take leads to where all of it leads.
use Rattle.std.proofs.Common.{◌≡◌, ℕ, ◌+◌, ◌-◌, ◌<◌, ◌≤◌, List, ◌++◌, length, get_or, drop, sym, ap, ◌∙◌, arith}
use Rattle.std.specs.Prelude.{replicate}
use Rattle.std.proofs.lemmas.List.{replicate-append-replicate, drop_more}
use Rattle.std.proofs.Math.ListN.{drop_of_length-le}
use Rattle.std.proofs.lemmas.List.Sums.{fold-append}
use Rattle.brc_model.specs.declared.thread.Choice.{Choice}
use Rattle.brc_model.specs.World.{World, step}
use Rattle.brc_schedule.specs.declared.schedule.Steps.{Steps}
use Rattle.brc_world.specs.Runs.{world_after, events_of_line, events_of}

-- steps, and then more of them, when the first of them have been taken
pub then_more : (at new goal : World) (first more all : List (ℕ × Choice)) → all ≡ first ++ more
    → world_after at all ≡ goal → new ≡ world_after at first → world_after new more ≡ goal
then_more at new goal first more all parts leads taken =
    ap (λ (w : World). world_after w more) taken
    ∙ sym (fold-append (λ (w : World) (event : ℕ × Choice). step w event.0 event.1) at first more)
    ∙ ap (world_after at) (sym parts) ∙ leads

-- some steps of a line have been taken
pub part_taken : (at new goal : World) (event : ℕ × Choice) (left times : ℕ) → times ≤ left
    → world_after at (replicate left event) ≡ goal → new ≡ world_after at (replicate times event)
    → world_after new (replicate (left - times) event) ≡ goal
part_taken at new goal event left times few leads taken =
    let sum : times + (left - times) ≡ left = omega arith in
    then_more at new goal (replicate times event) (replicate (left - times) event) (replicate left event)
    (ap (λ (n : ℕ). replicate n event) (sym sum) ∙ sym (replicate-append-replicate times (left - times) event))
    leads taken

-- a line has been taken
pub line_taken : (at new goal : World) (all : List Steps) (index : ℕ) (d : Steps) → index < length all
    → world_after at (events_of (drop index all)) ≡ goal → new ≡ world_after at (events_of_line (get_or all index d))
    → world_after new (events_of (drop (index + 1) all)) ≡ goal
line_taken at new goal all index d inside leads taken =
    then_more at new goal (events_of_line (get_or all index d)) (events_of (drop (index + 1) all))
    (events_of (drop index all)) (ap events_of (drop_more all index d inside)) leads taken

-- every line has been taken
pub all_taken : (at goal : World) (all : List Steps) (index : ℕ) → length all ≤ index
    → world_after at (events_of (drop index all)) ≡ goal → at ≡ goal
all_taken at goal all index past leads =
    ap (λ (lines : List Steps). world_after at (events_of lines)) (sym (drop_of_length-le all past)) ∙ leads
