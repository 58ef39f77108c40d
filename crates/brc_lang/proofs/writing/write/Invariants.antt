-- The lines above the functions and the functions so far are written.
use Rattle.std.specs.Prelude.{take, ◌++◌}
use Rattle.std.specs.Io.KnownBytes.{Appends}
use Rattle.brc_lang.specs.Grammar.{top, functions}
use Rattle.brc_lang.proofs.writing.write.Given as goal

abbrev pub invariant-loop-number : goal.invariant-loop-number
invariant-loop-number g l =
    Appends (g.W.Write.contents l.fn.writer) (g.W.Write.contents l.writer)
    (top l.module.version l.module.statics ++ functions (take l.number l.functions))
