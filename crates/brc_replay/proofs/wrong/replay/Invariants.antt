use Rattle.std.proofs.Common.{map, take}
use Rattle.brc_plain.specs.Plains.{machine_in}
use Rattle.brc_replay.specs.WrongRuns.{event_in, AreTaken}
use Rattle.brc_replay.proofs.wrong.replay.Given as goal

-- The steps of the events so far are taken.
abbrev pub invariant-loop-event : goal.invariant-loop-event
invariant-loop-event l =
    AreTaken (machine_in l.fn.plain) (map event_in (take l.event-index l.events)) (machine_in l.plain)
