-- The steps of the schedule's first `line-index` lines are taken, and what the trace shows of them is written.
use Rattle.std.proofs.Common.{◌≡◌, length, take}
use Rattle.brc_world.specs.Runs.{events_of}
use Rattle.brc_world.specs.Worlds.{model_of}
use Rattle.brc_trace.specs.TraceText.{IsTraced}
use Rattle.brc_trace.proofs.tracing.Tracer.trace_lines.Given as goal

abbrev pub invariant-loop-line : goal.invariant-loop-line
invariant-loop-line g l = record {
  traced : IsTraced l.paint l.functions (model_of l.initial.world) l.initial.self.past
      (events_of (take l.line-index l.lines)) (model_of l.world) l.self.past
      (g.W.Write.contents l.initial.out) (g.W.Write.contents l.out);
  fits : length l.self.past.threads ≡ length l.world.actors;
  as_many : length l.world.actors ≡ length l.initial.world.actors;
}
