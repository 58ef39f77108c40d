use Rattle.brc_schedule.proofs.LineToLine.{goes_on, line_fault, line_room}
use Rattle.brc_schedule.proofs.reading.read_lines.Goals as goal

pub returns-in-Err : goal.returns-in-Err
returns-in-Err c =
    line_fault c.texts_round_trip.ensures c.args.bytes.now c.loop-text.above c.loop-text.cursor c.in-Some.text.now
    c.in-Some.rest.now c.in-Err.code
    c.loop-text.invariant.read c.in-Some.ensures c.in-Err.ensures.err

pub loop-text-preserved : goal.loop-text-preserved
loop-text-preserved c = record {
  read =
      goes_on c.texts_round_trip.ensures c.args.bytes.now c.loop-text.above c.in-Ok.below c.loop-text.cursor
      c.in-Some.text.now c.in-Some.rest
      c.loop-text.invariant.read c.in-Some.ensures c.in-Ok.ensures.ok;
  room =
      line_room c.loop-text.cursor.line c.loop-text.cursor.rest.now c.in-Some.text.now c.in-Some.rest.now
      c.in-Some.ensures c.loop-text.invariant.room;
}
