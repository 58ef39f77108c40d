use Rattle.brc_model.specs.Threads.{function_at}
use Rattle.brc_table.specs.Hands.{IsOf}
use Rattle.brc_work.specs.Calls.{Begins, GoesTo}
use Rattle.brc_work.specs.Fits.{Base}
use Rattle.brc_work.specs.Totals.{Asked}
use Rattle.brc_work.proofs.Traces.Calls.{Comes}
use Rattle.brc_work.proofs.worker.Worker.+call.Given as goal

-- A function calls only functions above it, whose numbers are less.
abbrev pub decreases-call : goal.decreases-call
decreases-call g l = l.function

-- The call is at a point that paths reach, in their state, and has made the events that its thread makes up to there.
abbrev pub invariant-loop : goal.invariant-loop
invariant-loop g l =
    IsOf l.fn.self l.hand
    × ((base : Base)
    → Begins base (function_at l.fn.checked.module.functions l.fn.function) l.fn.function l.fn.entry l.fn.hand
    → GoesTo base (function_at l.fn.checked.module.functions l.fn.function) l.at l.rows l.hand)
    × Asked g.H.Host.answers g.H.Host.counts l.fn.host l.host l.fn.totals l.totals
    (λ calls. Comes l.fn.checked.module.functions l.fn.function l.fn.entry l.fn.left l.left calls l.fn.hand.view l.at
    l.turns l.rows l.hand.view)
