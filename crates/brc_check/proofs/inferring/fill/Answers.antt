use Rattle.std.proofs.Common.{arith}
use Rattle.brc_check.proofs.Turns.{filled_first, filled_last}
use Rattle.brc_check.proofs.inferring.fill.Goals as goal

pub loop-turn-init : goal.loop-turn-init
loop-turn-init c = filled_first c.args.function.now c.args.filling.now c.requires.some c.requires.begun

pub returns-clause-filled : goal.returns-clause-filled
returns-clause-filled c =
    filled_last c.args.function.now c.loop-turn.filling c.loop-turn.turn c.loop-turn.invariant (omega arith)
