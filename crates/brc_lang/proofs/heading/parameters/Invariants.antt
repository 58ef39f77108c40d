-- The parameters so far are read.
use Rattle.std.proofs.Common.{length}
use Rattle.brc_lang.proofs.Parameters.{HasRead, words_left}
use Rattle.brc_lang.proofs.heading.parameters.Given as goal

abbrev pub invariant-loop-rest : goal.invariant-loop-rest
invariant-loop-rest l = HasRead l.most l.initial.text l.parameters l.rest

abbrev pub decreases-loop-rest : goal.decreases-loop-rest
decreases-loop-rest l = length (words_left l.rest)
