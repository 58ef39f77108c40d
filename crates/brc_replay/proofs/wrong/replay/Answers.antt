use Rattle.std.proofs.Common.{rules}
use Rattle.brc_plain.specs.Plains.{machine_in}
use Rattle.brc_replay.proofs.Replays.{event_taken, all_taken}
use Rattle.brc_replay.proofs.wrong.replay.Goals as goal

pub loop-event-preserved : goal.loop-event-preserved
loop-event-preserved c =
    event_taken (machine_in c.args.plain.now) (machine_in c.loop-event.plain) (machine_in c.step.new.self)
    c.args.events.now c.loop-event.event-index _ c.loop-event-test.true c.loop-event.invariant c.in_ok-step.ensures
    (search rules)

pub returns : goal.returns
returns c = λ yes.
    all_taken (machine_in c.args.plain.now) (machine_in c.loop-event.plain) c.args.events.now c.loop-event.event-index
    c.loop-event-test.false c.loop-event.invariant
