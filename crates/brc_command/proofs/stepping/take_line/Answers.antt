use Rattle.std.proofs.Common.{◌≤◌, ◌∙◌, arith}
use Rattle.brc_world.specs.Worlds.{model_of}
use Rattle.brc_world.specs.Runs.{world_after, events_of_line}
use Rattle.brc_command.proofs.TakingLines.{part_taken}
use Rattle.brc_command.proofs.stepping.take_line.Goals as goal

pub loop-left-preserved : goal.loop-left-preserved
loop-left-preserved g c =
    let few : c.min-times.result ≤ c.loop-left.left = grind arith in
    record {
      leads = part_taken (model_of c.loop-left.world) (model_of c.take_steps.new.self)
          (world_after (model_of c.args.world.now) (events_of_line c.args.line))
          (c.args.line.thread, c.args.line.choice)
          c.loop-left.left c.min-times.result few c.loop-left.invariant.leads c.in_ok-take_steps.ensures.done;
      as_many = c.in_ok-take_steps.ensures.as_many ∙ c.loop-left.invariant.as_many;
    }
