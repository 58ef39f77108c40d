-- The lines that are left lead to where all lines lead.
use Rattle.std.specs.Prelude.{◌≡◌, length, drop}
use Rattle.brc_world.specs.Worlds.{model_of}
use Rattle.brc_world.specs.Runs.{world_after, events_of}
use Rattle.brc_command.proofs.stepping.take_lines.Given as goal

abbrev pub invariant-loop-line : goal.invariant-loop-line
invariant-loop-line g l = record {
  leads : world_after (model_of l.world) (events_of (drop l.line-index l.lines))
      ≡ world_after (model_of l.fn.world) (events_of l.fn.lines);
  as_many : length l.world.actors ≡ length l.fn.world.actors;
}
