use Rattle.std.proofs.Common.{ap, ◌∙◌, arith}
use Rattle.brc_world.specs.Worlds.{model_of}
use Rattle.brc_world.proofs.Running.{on_err, gone_done, stopped_at, one_more}
use Rattle.brc_world.proofs.world.World.take_steps.Goals as goal

pub returns-in_err-step-clause-stopped : goal.returns-in_err-step-clause-stopped
returns-in_err-step-clause-stopped c =
    on_err c.from_residual.result
    (stopped_at (model_of c.args.self.now) (model_of c.loop.self) (model_of c.step.new.self) c.from-thread.result
    c.args.line.thread c.args.line.choice c.loop.counter c.args.line.times c.from-thread.ensures
    c.loop.invariant.stands (omega arith)
    (ap model_of c.in_err-step.ensures.unchanged) c.in_err-step.ensures.refused)

pub returns-in-Gone-clause-done : goal.returns-in-Gone-clause-done
returns-in-Gone-clause-done c =
    gone_done (model_of c.args.self.now) (model_of c.loop.self) (model_of c.step.new.self) c.from-thread.result
    c.args.line.thread
    c.args.line.choice c.in_ok-step.field-0 c.loop.counter c.args.line.times c.from-thread.ensures
    c.loop.invariant.stands (omega arith)
    c.in_ok-step.ensures.made c.in_ok-step.ensures.answer c.in-Gone.is

pub loop-preserved : goal.loop-preserved
loop-preserved c = record {
  stands =
      one_more (model_of c.args.self.now) (model_of c.loop.self) (model_of c.step.new.self) c.args.line.thread
      c.args.line.choice
      c.loop.counter c.loop.invariant.stands
      (rw c.from-thread.ensures at c.in_ok-step.ensures.made);
  as_many = c.in_ok-step.ensures.as_many ∙ c.loop.invariant.as_many;
}
