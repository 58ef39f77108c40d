use Rattle.std.proofs.Common.{◌+◌, ◌^◌, ◌<◌, length}
use Rattle.brc_c_table.proofs.table.Table.read_rows.Given as goal

abbrev pub invariant-loop-text : goal.invariant-loop-text
invariant-loop-text l = l.cursor.line + length l.cursor.rest.now < 2 ^ 64

abbrev pub decreases-loop-text : goal.decreases-loop-text
decreases-loop-text l = length l.cursor.rest.now
