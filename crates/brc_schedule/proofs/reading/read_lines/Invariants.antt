use Rattle.std.proofs.Common.{◌+◌, ◌^◌, ◌<◌, length}
use Rattle.brc_schedule.proofs.LineToLine.{IsReadTo}
use Rattle.brc_schedule.proofs.reading.read_lines.Given as goal

abbrev pub invariant-loop-text : goal.invariant-loop-text
invariant-loop-text l =
    record { read : IsReadTo l.bytes l.above l.cursor; room : l.cursor.line + length l.cursor.rest.now < 2 ^ 64 }

abbrev pub decreases-loop-text : goal.decreases-loop-text
decreases-loop-text l = length l.cursor.rest.now
