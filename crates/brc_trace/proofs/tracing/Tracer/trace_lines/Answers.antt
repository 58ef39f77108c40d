use Rattle.std.proofs.Common.{◌∙◌, List, subst, sym}
use Rattle.std.proofs.lemmas.List.{take_all}
use Rattle.brc_schedule.specs.declared.schedule.Steps.{Steps}
use Rattle.brc_world.specs.Runs.{events_of}
use Rattle.brc_world.specs.Worlds.{model_of}
use Rattle.brc_trace.specs.TraceText.{IsTraced}
use Rattle.brc_trace.proofs.Lines.{line_more, line_stops}
use Rattle.brc_trace.proofs.Traces.{on_err}
use Rattle.brc_trace.proofs.tracing.Tracer.trace_lines.Goals as goal

pub returns-in_err-trace_steps-clause-stopped : goal.returns-in_err-trace_steps-clause-stopped
returns-in_err-trace_steps-clause-stopped g c =
    on_err _
    (line_stops c.args.paint c.args.functions.now (model_of c.args.world.now) c.args.self.now.past c.args.lines.now
    c.loop-line.line-index _ (model_of c.loop-line.world) c.loop-line.self.past _ _ _ _ c.loop-line-test.true
    c.loop-line.invariant.traced c.in_err-trace_steps.ensures.stopped)

pub loop-line-preserved : goal.loop-line-preserved
loop-line-preserved g c = record {
  traced =
      line_more c.args.paint c.args.functions.now (model_of c.args.world.now) c.args.self.now.past c.args.lines.now
      c.loop-line.line-index _ (model_of c.loop-line.world) c.loop-line.self.past _ _ _ _ _ c.loop-line-test.true
      c.loop-line.invariant.traced c.in_ok-trace_steps.ensures.traced;
  fits =
      c.in_ok-trace_steps.ensures.remembers ∙ c.loop-line.invariant.fits
      ∙ sym c.in_ok-trace_steps.ensures.as_many;
  as_many = c.in_ok-trace_steps.ensures.as_many ∙ c.loop-line.invariant.as_many;
}

pub returns-clause-traced : goal.returns-clause-traced
returns-clause-traced g c =
    subst (λ (l : List Steps). IsTraced c.args.paint c.args.functions.now (model_of c.args.world.now)
    c.args.self.now.past
    (events_of l) (model_of c.loop-line.world) c.loop-line.self.past (g.W.Write.contents c.args.out.now)
    (g.W.Write.contents c.loop-line.out))
    (take_all c.loop-line.line-index c.args.lines.now c.loop-line-test.false)
    c.loop-line.invariant.traced
