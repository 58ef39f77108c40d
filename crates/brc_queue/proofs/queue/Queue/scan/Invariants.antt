use Rattle.brc_table.specs.Hands.{KeepsButView}
use Rattle.std.proofs.Common.{◌≡◌, List}
use Rattle.brc_host.specs.HostCalls.{HostCall, HasAnswered, close_faults}
use Rattle.brc_host.specs.HostCounts.{raised}
use Rattle.brc_free.specs.Works.{HasWorked}
use Rattle.brc_queue.specs.Scans.{scans_from}
use Rattle.brc_queue.proofs.queue.Queue.scan.Given as goal

-- The marks from this word on are left to scan, and the hand has settled.
abbrev pub invariant-loop-word : goal.invariant-loop-word
invariant-loop-word g l =
    KeepsButView l.fn.hand l.hand
    × (l.hand.view.actor.head ≡ 0)
    × ((closes : List HostCall)
    × HasWorked l.fn.hand.view closes (scans_from l.fn.hand.view.actor.used l.word) l.hand.view
    × (l.failed ≡ raised (close_faults closes) 0)
    × HasAnswered g.H.Host.answers g.H.Host.counts l.fn.host closes l.host)
