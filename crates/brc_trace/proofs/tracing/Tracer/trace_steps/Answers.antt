use Rattle.std.proofs.Common.{◌≡◌, ℕ, ◌∙◌, true, subst, sym}
use Rattle.brc_world.specs.Answers.{is_gone_at}
use Rattle.brc_world.specs.Worlds.{model_of}
use Rattle.brc_trace.proofs.Gone.{counted_is}
use Rattle.brc_trace.proofs.Lines.{one_more, one_stops, rest_counted}
use Rattle.brc_trace.proofs.Traces.{on_err}
use Rattle.brc_trace.proofs.tracing.Tracer.trace_steps.Goals as goal

pub returns-then-is_gone-clause-traced : goal.returns-then-is_gone-clause-traced
returns-then-is_gone-clause-traced g c =
    rest_counted c.args.paint c.args.functions.now (model_of c.args.world.now) c.args.self.now.past c.args.steps.thread
    c.args.steps.choice c.loop-done.done c.args.steps.times (model_of c.loop-done.world) c.loop-done.self.past
    c.count.new.self _ _ c.loop-done-test.true (sym c.is_step_line.ensures ∙ c.if-is_step_line.true)
    (subst (λ (n : ℕ). is_gone_at (model_of c.loop-done.world) n ≡ true) c.from.ensures
    (sym c.is_gone.ensures ∙ c.if-is_gone.true))
    c.loop-done.invariant.traced
    (counted_is c.loop-done.self.past c.count.new.self _ c.count.ensures.threads c.count.ensures.number)

pub returns-in_err-trace_step-clause-stopped : goal.returns-in_err-trace_step-clause-stopped
returns-in_err-trace_step-clause-stopped g c =
    on_err _
    (one_stops c.args.paint c.args.functions.now (model_of c.args.world.now) c.args.self.now.past c.args.steps.thread
    c.args.steps.choice c.loop-done.done c.args.steps.times (model_of c.loop-done.world) c.loop-done.self.past
    _ _ _ _ c.loop-done-test.true c.loop-done.invariant.traced c.in_err-trace_step.ensures.stopped)

pub loop-done-preserved : goal.loop-done-preserved
loop-done-preserved g c = record {
  traced =
      one_more c.args.paint c.args.functions.now (model_of c.args.world.now) c.args.self.now.past c.args.steps.thread
      c.args.steps.choice c.loop-done.done (model_of c.loop-done.world) c.loop-done.self.past _ _ _ _ _
      c.loop-done.invariant.traced c.in_ok-trace_step.ensures.traced;
  fits =
      c.in_ok-trace_step.ensures.remembers ∙ c.loop-done.invariant.fits
      ∙ sym c.in_ok-trace_step.ensures.as_many;
  as_many = c.in_ok-trace_step.ensures.as_many ∙ c.loop-done.invariant.as_many;
}
