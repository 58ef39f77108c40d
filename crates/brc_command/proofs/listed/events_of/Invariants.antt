-- The events so far are those of the lines so far.
use Rattle.std.specs.Prelude.{◌≡◌, map, take}
use Rattle.brc_replay.specs.WrongRuns.{event_in}
use Rattle.brc_world.specs.Runs.{events_of}
use Rattle.brc_command.proofs.listed.events_of.Given as goal

abbrev pub invariant-loop-at : goal.invariant-loop-at
invariant-loop-at l = map event_in l.events.items ≡ events_of (take l.at l.lines)
