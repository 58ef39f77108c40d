use Rattle.std.proofs.Common.{Err, ap}
use Rattle.brc_command.specs.Lines.{stop_text}
use Rattle.brc_command.specs.Meetings.{contention_text}
use Rattle.brc_command.proofs.Outputs.{begun_anyway}
use Rattle.brc_command.proofs.counting.execute_counted.Goals as goal

pub returns-in-Ok-clause-done : goal.returns-in-Ok-clause-done
returns-in-Ok-clause-done g c = λ _. record {
  reported = c.in-Ok.ensures.reported;
  contention = c.in-Ok.contention;
  counted = begun_anyway c.write_contention.result _ _ (contention_text c.in-Ok.contention)
      c.write_contention.ensures.whole c.write_contention.ensures.begun;
}

pub returns-in-Err-clause-stopped : goal.returns-in-Err-clause-stopped
returns-in-Err-clause-stopped g c = λ _. record {
  stop = c.in-Err.stop;
  reason = c.in-Err.ensures.stopped;
  same_status = c.status.ensures.exact;
  line = begun_anyway c.write_stop.result _ _ (stop_text c.in-Err.stop) c.write_stop.ensures.whole
      c.write_stop.ensures.begun;
  left = record { unwritten = c.in-Err.ensures.unwritten; begun = λ is. c.in-Err.ensures.begun (ap Err is) };
}
