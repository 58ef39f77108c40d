use Rattle.brc_table.specs.Hands.{KeepsButView}
use Rattle.std.proofs.Common.{◌≡◌, List}
use Rattle.brc_host.specs.HostCalls.{HostCall, HasAnswered, close_faults}
use Rattle.brc_host.specs.HostCounts.{raised}
use Rattle.brc_table.specs.Calls.{IsFree}
use Rattle.brc_heap.specs.Steps.{Keeps}
use Rattle.brc_queue.specs.Scans.{HasScanned}
use Rattle.brc_queue.proofs.queue.Queue.merge_pending.Given as goal

-- The hand has looked at the mark words before this one, and has nothing to do.
abbrev pub invariant-loop-word : goal.invariant-loop-word
invariant-loop-word g l =
    KeepsButView l.fn.hand l.hand
    × IsFree l.hand.view × (l.hand.view.actor.head ≡ 0) × Keeps l.fn.hand.view l.hand.view
    × ((closes : List HostCall) × HasScanned l.fn.hand.view l.word closes l.hand.view
    × (l.failed ≡ raised (close_faults closes) 0)
    × HasAnswered g.H.Host.answers g.H.Host.counts l.fn.host closes l.host)
