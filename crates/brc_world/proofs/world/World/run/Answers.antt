use Rattle.std.proofs.Common.{◌∙◌}
use Rattle.brc_world.specs.Worlds.{model_of}
use Rattle.brc_world.proofs.Running.{on_err, stopped_after, next_line, last_line}
use Rattle.brc_world.proofs.world.World.run.Goals as goal

pub returns-in_err-take_steps-clause-stopped : goal.returns-in_err-take_steps-clause-stopped
returns-in_err-take_steps-clause-stopped c =
    on_err c.from_residual.result
    (rw c.as_slice-line-items.ensures at
    (stopped_after (model_of c.args.self.now) (model_of c.loop-line.self) (model_of c.take_steps.new.self)
    c.as_slice-line-items.result.now c.loop-line.line-index _ c.loop-line.invariant.stands c.loop-line-test.true
    c.in_err-take_steps.ensures.stopped))

pub loop-line-preserved : goal.loop-line-preserved
loop-line-preserved c = record {
  stands =
      next_line (model_of c.args.self.now) (model_of c.loop-line.self) (model_of c.take_steps.new.self)
      c.as_slice-line-items.result.now c.loop-line.line-index _ c.loop-line.invariant.stands c.loop-line-test.true
      c.in_ok-take_steps.ensures.done;
  as_many = c.in_ok-take_steps.ensures.as_many ∙ c.loop-line.invariant.as_many;
}

pub returns-clause-done : goal.returns-clause-done
returns-clause-done c =
    rw c.as_slice-line-items.ensures at
    (last_line (model_of c.args.self.now) (model_of c.loop-line.self) c.as_slice-line-items.result.now
    c.loop-line.line-index c.loop-line.invariant.stands c.loop-line-test.false)
