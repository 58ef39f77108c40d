use Rattle.std.proofs.Common.{◌≡◌, length, take}
use Rattle.brc_world.specs.Worlds.{model_of}
use Rattle.brc_world.specs.Runs.{world_after, events_of}
use Rattle.brc_world.proofs.world.World.run.Given as goal

abbrev pub invariant-loop-line : goal.invariant-loop-line
invariant-loop-line l = record {
  stands : model_of l.self ≡ world_after (model_of l.fn.self) (events_of (take l.line-index l.line-items));
  as_many : length l.self.actors ≡ length l.fn.self.actors;
}
