use Rattle.std.proofs.Common.{◌∙◌}
use Rattle.brc_world.specs.Worlds.{model_of}
use Rattle.brc_world.specs.Runs.{world_after, events_of}
use Rattle.brc_command.proofs.TakingLines.{line_taken, all_taken}
use Rattle.brc_command.proofs.stepping.take_lines.Goals as goal

pub loop-line-preserved : goal.loop-line-preserved
loop-line-preserved g c = record {
  leads = line_taken (model_of c.loop-line.world) (model_of c.take_line.new.world)
      (world_after (model_of c.args.world.now) (events_of c.args.lines.now)) c.args.lines.now c.loop-line.line-index _
      c.loop-line-test.true c.loop-line.invariant.leads c.in_ok-take_line.ensures.stepped;
  as_many = c.in_ok-take_line.ensures.as_many ∙ c.loop-line.invariant.as_many;
}

pub returns : goal.returns
returns g c =
    all_taken (model_of c.loop-line.world) (world_after (model_of c.args.world.now) (events_of c.args.lines.now))
    c.args.lines.now c.loop-line.line-index c.loop-line-test.false c.loop-line.invariant.leads
