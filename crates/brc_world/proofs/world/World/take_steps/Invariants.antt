use Rattle.std.proofs.Common.{◌≡◌, length, replicate}
use Rattle.brc_world.specs.Worlds.{model_of}
use Rattle.brc_world.specs.Runs.{world_after}
use Rattle.brc_world.proofs.world.World.take_steps.Given as goal

abbrev pub invariant-loop : goal.invariant-loop
invariant-loop l = record {
  stands : model_of l.self ≡ world_after (model_of l.fn.self) (replicate l.counter (l.line.thread, l.line.choice));
  as_many : length l.self.actors ≡ length l.fn.self.actors;
}
