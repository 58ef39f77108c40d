use Rattle.brc_check.specs.Filling.{IsFilledTo}
use Rattle.brc_check.proofs.inferring.fill.Given as goal

abbrev pub invariant-loop-turn : goal.invariant-loop-turn
invariant-loop-turn l = IsFilledTo l.function l.filling l.turn
