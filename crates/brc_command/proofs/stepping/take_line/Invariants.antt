-- The steps that are left lead to where the line leads.
use Rattle.std.specs.Prelude.{◌≡◌, length, replicate}
use Rattle.brc_world.specs.Worlds.{model_of}
use Rattle.brc_world.specs.Runs.{world_after, events_of_line}
use Rattle.brc_command.proofs.stepping.take_line.Given as goal

abbrev pub invariant-loop-left : goal.invariant-loop-left
invariant-loop-left g l = record {
  leads : world_after (model_of l.world) (replicate l.left (l.line.thread, l.line.choice))
      ≡ world_after (model_of l.fn.world) (events_of_line l.line);
  as_many : length l.world.actors ≡ length l.fn.world.actors;
}

abbrev pub decreases-loop-left : goal.decreases-loop-left
decreases-loop-left g l = l.left
