use Rattle.std.specs.Prelude.{◌≡◌, ℕ, ◌+◌}
use Rattle.brc_table.specs.Hands.{IsOf}
use Rattle.brc_work.specs.Calls.{HasCalled}
use Rattle.brc_work.specs.Totals.{Asked}
use Rattle.brc_work.specs.Traces.{program_of, MakesCalls}
use Rattle.brc_work.proofs.worker.Worker.make_calls.Given as goal

-- The calls so far have made their thread's events and left the hand as it was, and their faults are counted. What they
-- have begun, and what may still begin, is the bound.
abbrev pub invariant-loop-call : goal.invariant-loop-call
invariant-loop-call g l =
    IsOf l.fn.self l.hand × HasCalled l.fn.hand l.hand
    × Asked g.H.Host.answers g.H.Host.counts l.fn.host l.host l.fn.totals l.totals
    (λ calls. (begun : ℕ) × (begun + l.left ≡ l.fn.steps)
    × MakesCalls (program_of l.fn.checked.module l.fn.function) l.fn.hand.view l.call begun calls
    l.hand.view)
