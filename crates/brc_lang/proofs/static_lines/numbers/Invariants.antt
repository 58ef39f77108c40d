-- The numbers so far are read.
use Rattle.std.proofs.Common.{length}
use Rattle.brc_lang.proofs.Parameters.{words_left}
use Rattle.brc_lang.proofs.StaticLines.{HasNumbers}
use Rattle.brc_lang.proofs.static_lines.numbers.Given as goal

abbrev pub invariant-loop-rest : goal.invariant-loop-rest
invariant-loop-rest l = HasNumbers l.initial.text l.numbers l.rest

abbrev pub decreases-loop-rest : goal.decreases-loop-rest
decreases-loop-rest l = length (words_left l.rest)
