use Rattle.std.proofs.Common.{length}
use Rattle.brc_lang.proofs.Functions.{KnowsAbove}
use Rattle.brc_lang.proofs.reading.read_module.Given as goal

abbrev pub invariant-loop-alloc : goal.invariant-loop-alloc
invariant-loop-alloc l = KnowsAbove l.bytes l.version l.above l.cursor

abbrev pub decreases-loop-alloc : goal.decreases-loop-alloc
decreases-loop-alloc l = length l.cursor.rest.now
