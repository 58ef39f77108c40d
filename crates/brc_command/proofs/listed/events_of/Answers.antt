use Rattle.std.proofs.Common.{◌∙◌}
use Rattle.brc_command.proofs.EventsListed.{line_more}
use Rattle.brc_command.proofs.listed.events_of.Goals as goal

pub loop-at-preserved : goal.loop-at-preserved
loop-at-preserved c =
    c.in_ok-add_events.ensures ∙ line_more c.args.lines.now c.loop-at.at _ c.loop-at-test.true _ c.loop-at.invariant
