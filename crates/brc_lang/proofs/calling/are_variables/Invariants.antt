use Rattle.std.proofs.Common.{map, take}
use Rattle.brc_lang.specs.InstructionWords.{variables_in, IsOk}
use Rattle.brc_lang.proofs.calling.are_variables.Given as goal

abbrev pub invariant-loop-word : goal.invariant-loop-word
invariant-loop-word l = IsOk (variables_in (map (λ w. w.now) (take l.word-index l.words)))
