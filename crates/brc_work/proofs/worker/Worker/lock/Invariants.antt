use Rattle.brc_lang.specs.declared.module.Instr.TheVariants as instructions
use Rattle.brc_work.specs.Fits.{MayDo, IsStill}
use Rattle.brc_work.specs.Performs.{Waits}
use Rattle.brc_work.proofs.worker.Worker.lock.Given as goal

-- The instruction hasn't begun yet.
abbrev pub invariant-loop : goal.invariant-loop
invariant-loop g l =
    MayDo l.fn.self (instructions.Lock l.fn.object) l.fn.rows l.hand
    × IsStill (instructions.Lock l.fn.object) l.fn.rows l.fn.hand l.hand
    × Waits (instructions.Lock l.fn.object) l.fn.rows l.fn.hand.view l.hand.view
