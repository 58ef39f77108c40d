-- The lines so far are written.
use Rattle.std.specs.Prelude.{take}
use Rattle.std.specs.Io.KnownBytes.{Appends}
use Rattle.brc_lang.specs.Grammar.{static_lines}
use Rattle.brc_lang.proofs.writing.write_statics.Given as goal

abbrev pub invariant-loop-numbers : goal.invariant-loop-numbers
invariant-loop-numbers g l =
    Appends (g.W.Write.contents l.initial.writer) (g.W.Write.contents l.writer)
    (static_lines (take l.numbers-index l.statics))
