use Rattle.std.proofs.Common.{◌≡◌, map, take}
use Rattle.std.specs.Prelude.{filter, not}
use Rattle.brc_world.specs.Worlds.{model_of}
use Rattle.brc_world.specs.Tallies.{is_closed_row, left_in}
use Rattle.brc_world.proofs.world.World.left_of.Given as goal

-- `left` has the rows so far that aren't closed
abbrev pub invariant-loop-row : goal.invariant-loop-row
invariant-loop-row l =
    l.left ≡ map (left_in (model_of l.fn.self))
    (filter (λ row. not (is_closed_row (model_of l.fn.self) row)) (take l.row-index l.born))
