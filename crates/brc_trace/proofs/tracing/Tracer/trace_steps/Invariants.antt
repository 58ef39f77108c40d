-- So many of the steps are taken, and their lines are written.
use Rattle.std.proofs.Common.{◌≡◌, length}
use Rattle.brc_world.specs.Worlds.{model_of}
use Rattle.brc_trace.specs.TraceText.{IsTraced}
use Rattle.brc_trace.proofs.Lines.{repeated}
use Rattle.brc_trace.proofs.tracing.Tracer.trace_steps.Given as goal

abbrev pub invariant-loop-done : goal.invariant-loop-done
invariant-loop-done g l = record {
  traced : IsTraced l.paint l.functions (model_of l.initial.world) l.initial.self.past
      (repeated l.steps.thread l.steps.choice l.done) (model_of l.world) l.self.past
      (g.W.Write.contents l.initial.out) (g.W.Write.contents l.out);
  fits : length l.self.past.threads ≡ length l.world.actors;
  as_many : length l.world.actors ≡ length l.initial.world.actors;
}
