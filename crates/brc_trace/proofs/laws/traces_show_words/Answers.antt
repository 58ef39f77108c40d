use Rattle.std.proofs.Common.{◌∙◌}
use Rattle.brc_model.specs.World.{world_of}
use Rattle.brc_trace.proofs.Showing.{trace_shown}
use Rattle.brc_trace.proofs.laws.traces_show_words.Goals as goal

pub returns : goal.returns
returns c functions m past t events =
    trace_shown functions t (world_of m) past events ∙ c.sights_are_traces.ensures m t events
