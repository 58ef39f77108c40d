use Rattle.std.proofs.Common.{◌∙◌, ap}
use Rattle.std.specs.Prelude.{map}
use Rattle.brc_replay.specs.WrongRuns.{event_in}
use Rattle.brc_command.proofs.EventsListed.{one_more}
use Rattle.brc_command.proofs.listed.add_events.Goals as goal

pub loop-preserved : goal.loop-preserved
loop-preserved c =
    ap (map event_in) c.in_ok-push.ensures.items ∙ one_more c.loop.events.items _ _ c.loop.counter c.loop.invariant
