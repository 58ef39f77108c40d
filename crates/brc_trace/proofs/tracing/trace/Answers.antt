use Rattle.std.proofs.Common.{List, ap, ◌∙◌}
use Rattle.brc_trace.specs.TraceText.{first_past}
use Rattle.brc_schedule.specs.declared.schedule.Steps.{Steps}
use Rattle.brc_world.specs.Runs.{world_after, events_of}
use Rattle.brc_world.specs.Worlds.{model_of}
use Rattle.brc_trace.proofs.Traces.{made_to, written_to}
use Rattle.brc_trace.proofs.tracing.trace.Goals as goal

pub returns-clause-made : goal.returns-clause-made
returns-clause-made g c =
    made_to c.trace_lines.result _ _ _ _ _ _ _ _ _ _
    (ap (λ (l : List Steps). world_after (model_of c.args.world.now) (events_of l)) c.as_slice.ensures)
    c.trace_lines.ensures.traced

pub returns-clause-whole : goal.returns-clause-whole
returns-clause-whole g c =
    written_to c.trace_lines.result _ _ _ _ _ _ _ _ _ _ _ _
    (c.as_slice-functions.ensures ∙ c.requires.functions)
    (c.in_ok-first_past.ensures ∙ ap first_past c.threads.ensures.value)
    (ap (λ (l : List Steps). events_of l) c.as_slice.ensures) c.trace_lines.ensures.traced
