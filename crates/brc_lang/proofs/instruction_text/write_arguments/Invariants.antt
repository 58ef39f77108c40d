-- The arguments so far are written.
use Rattle.std.specs.Prelude.{take, ◌∷◌}
use Rattle.std.specs.List.{flat_map}
use Rattle.std.specs.Io.KnownBytes.{Appends}
use Rattle.brc_lang.specs.Grammar.{variable}
use Rattle.brc_lang.proofs.instruction_text.write_arguments.Given as goal

abbrev pub invariant-loop-argument : goal.invariant-loop-argument
invariant-loop-argument g l =
    Appends (g.W.Write.contents l.initial.writer) (g.W.Write.contents l.writer)
    (flat_map (λ a. 32 ∷ variable a.from) (take l.argument-index l.arguments))
