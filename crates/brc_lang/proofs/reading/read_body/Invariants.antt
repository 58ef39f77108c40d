use Rattle.std.proofs.Common.{length}
use Rattle.brc_lang.proofs.Bodies.{IsInside}
use Rattle.brc_lang.proofs.reading.read_body.Given as goal

abbrev pub invariant-loop-text : goal.invariant-loop-text
invariant-loop-text l =
    IsInside l.above.version l.above.statics l.above.functions l.start l.code l.cursor

abbrev pub decreases-loop-text : goal.decreases-loop-text
decreases-loop-text l = length l.cursor.rest.now
