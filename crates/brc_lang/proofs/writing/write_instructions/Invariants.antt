-- The lines so far are written.
use Rattle.std.specs.Prelude.{take}
use Rattle.std.specs.Io.KnownBytes.{Appends}
use Rattle.brc_lang.specs.Grammar.{instructions}
use Rattle.brc_lang.proofs.writing.write_instructions.Given as goal

abbrev pub invariant-loop-instr : goal.invariant-loop-instr
invariant-loop-instr g l =
    Appends (g.W.Write.contents l.initial.writer) (g.W.Write.contents l.writer)
    (instructions l.initial.above (take l.instr-index l.code))
