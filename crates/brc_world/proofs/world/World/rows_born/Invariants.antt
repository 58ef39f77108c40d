use Rattle.std.proofs.Common.{◌≡◌, ◌-◌, ◌≤◌}
use Rattle.brc_world.specs.Worlds.{model_of}
use Rattle.brc_world.specs.Tallies.{born_below}
use Rattle.brc_world.proofs.world.World.rows_born.Given as goal

-- `born` has the born rows below the loop's row
abbrev pub invariant-loop-row : goal.invariant-loop-row
invariant-loop-row l = record {
  first : 1 ≤ l.row;
  born : l.born.items ≡ born_below (model_of l.fn.self) (l.row - 1);
}
