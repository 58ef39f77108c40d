-- The parameters so far are written.
use Rattle.std.specs.Prelude.{take, [], ◌∷◌}
use Rattle.std.specs.List.{flat_map}
use Rattle.std.specs.Io.KnownBytes.{Appends}
use Rattle.brc_lang.specs.Grammar.{spaced, parameter_words}
use Rattle.brc_lang.proofs.writing.write_parameters.Given as goal

abbrev pub invariant-loop-parameter : goal.invariant-loop-parameter
invariant-loop-parameter g l =
    Appends (g.W.Write.contents l.initial.writer) (g.W.Write.contents l.writer)
    (flat_map (λ p. 32 ∷ spaced (parameter_words (p ∷ []))) (take l.parameter-index l.parameters))
