use Rattle.brc_work.proofs.GivingUp.{HaveGiven}
use Rattle.brc_work.proofs.worker.Worker.give_up_owned.Given as goal

-- The variables with lower numbers have given up what they owned, and the thread gives up the rest.
abbrev pub invariant-loop-number : goal.invariant-loop-number
invariant-loop-number g l = HaveGiven l.fn.self l.fn.state l.fn.rows l.fn.hand l.number l.rows l.hand
