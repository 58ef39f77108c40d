use Rattle.brc_table.specs.Hands.{KeepsButView}
use Rattle.std.proofs.Common.{◌≡◌, List}
use Rattle.brc_host.specs.HostCalls.{HostCall, HasAnswered, close_faults}
use Rattle.brc_host.specs.HostCounts.{raised}
use Rattle.brc_model.specs.Knowledge.{AreUsedMarks}
use Rattle.brc_free.specs.Works.{HasWorked}
use Rattle.brc_queue.specs.Scans.{takes_from}
use Rattle.brc_queue.proofs.queue.Queue.scan_word.Given as goal

-- These marks are left to take, and the hand has settled.
abbrev pub invariant-loop-marks : goal.invariant-loop-marks
invariant-loop-marks g l =
    KeepsButView l.fn.hand l.hand
    × (l.hand.view.actor.head ≡ 0)
    × AreUsedMarks l.fn.hand.view.actor.used l.word l.marks
    × ((closes : List HostCall)
    × HasWorked l.fn.hand.view closes (takes_from l.fn.hand.view.actor.used l.word l.marks) l.hand.view
    × (l.failed ≡ raised (close_faults closes) 0)
    × HasAnswered g.H.Host.answers g.H.Host.counts l.fn.host closes l.host)

abbrev pub decreases-loop-marks : goal.decreases-loop-marks
decreases-loop-marks g l = l.marks
