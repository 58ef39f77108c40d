-- What isn't written yet is the rest.
use Rattle.std.specs.Prelude.{length}
use Rattle.brc_lang.proofs.Written.{LeavesRest}
use Rattle.brc_lang.proofs.output.write_bytes.Given as goal

abbrev pub invariant-loop-rest : goal.invariant-loop-rest
invariant-loop-rest g l = LeavesRest (g.W.Write.contents l.initial.writer) (g.W.Write.contents l.writer) l.bytes l.rest

abbrev pub decreases-loop-rest : goal.decreases-loop-rest
decreases-loop-rest g l = length l.rest
