-- The events so far are those before, and then as many of the line's as have been added.
use Rattle.std.specs.Prelude.{◌≡◌, ◌++◌, map, replicate}
use Rattle.brc_replay.specs.WrongRuns.{event_in}
use Rattle.brc_command.proofs.listed.add_events.Given as goal

abbrev pub invariant-loop : goal.invariant-loop
invariant-loop l =
    map event_in l.events.items
    ≡ map event_in l.fn.events.items ++ replicate l.counter (l.line.thread, l.line.choice)
