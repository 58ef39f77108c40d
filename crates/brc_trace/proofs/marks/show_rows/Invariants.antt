-- The rows of the marks so far have been added.
use Rattle.std.proofs.Common.{◌≡◌, ◌++◌}
use Rattle.brc_trace.specs.WordTexts.{rows_set, rows_text}
use Rattle.brc_trace.proofs.MarkRows.{has_some}
use Rattle.brc_trace.proofs.marks.show_rows.Given as goal

abbrev pub invariant-loop-bit : goal.invariant-loop-bit
invariant-loop-bit l = record {
  text : l.line ≡ l.fn.line ++ rows_text (rows_set l.layout l.thread l.word l.found l.bit);
  some : l.some ≡ has_some (rows_set l.layout l.thread l.word l.found l.bit);
}
