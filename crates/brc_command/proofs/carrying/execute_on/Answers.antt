use Rattle.brc_command.specs.Lines.{stop_text}
use Rattle.brc_command.proofs.Outputs.{begun_anyway}
use Rattle.brc_command.proofs.carrying.execute_on.Goals as goal

pub returns-in-Err-clause-stopped : goal.returns-in-Err-clause-stopped
returns-in-Err-clause-stopped g c = λ _. record {
  stop = c.in-Err.stop;
  reason = c.in-Err.ensures.stopped;
  same_status = c.status.ensures.exact;
  line = begun_anyway c.write_stop.result _ _ (stop_text c.in-Err.stop) c.write_stop.ensures.whole
      c.write_stop.ensures.begun;
  left = c.in-Err.ensures.left;
}
