use Rattle.brc_trace.proofs.MarkChanges.{set_taken, clear_taken, set_again, clear_set}
use Rattle.brc_trace.proofs.laws.changes_show_marks.Goals as goal

pub returns : goal.returns
returns c = record {
  set_taken = set_taken;
  clear_taken = clear_taken;
  set_again = set_again;
  clear_set = clear_set;
}
