use Rattle.brc_table.specs.Hands.{KeepsButView}
use Rattle.std.proofs.Common.{◌≡◌, ◌-◌, ◌*◌, List}
use Rattle.brc_host.specs.HostCalls.{HostCall, HasAnswered, close_faults}
use Rattle.brc_host.specs.HostCounts.{raised}
use Rattle.brc_word.specs.Words.{marks_of_word, first_marks}
use Rattle.brc_model.specs.Knowledge.{AreUsedMarks}
use Rattle.brc_table.specs.Calls.{IsFree}
use Rattle.brc_table.specs.Views.{view_after, loading_marks}
use Rattle.brc_heap.specs.Steps.{Keeps}
use Rattle.brc_queue.specs.Scans.{ClaimsFound}
use Rattle.brc_queue.proofs.queue.Queue.claim_word.Given as goal

-- These marks are left to claim, and the hand has nothing to do.
abbrev pub invariant-loop-marks : goal.invariant-loop-marks
invariant-loop-marks g l =
    KeepsButView l.fn.hand l.hand
    × IsFree l.hand.view × (l.hand.view.actor.head ≡ 0) × Keeps l.fn.hand.view l.hand.view
    × AreUsedMarks l.fn.hand.view.actor.used l.word l.marks
    × ((closes : List HostCall)
    × ClaimsFound l.word (first_marks l.found (l.fn.hand.view.actor.used - marks_of_word * l.word))
    (view_after (loading_marks l.fn.hand.view l.word) l.found) l.marks closes l.hand.view
    × (l.failed ≡ raised (close_faults closes) 0)
    × HasAnswered g.H.Host.answers g.H.Host.counts l.fn.host closes l.host)

abbrev pub decreases-loop-marks : goal.decreases-loop-marks
decreases-loop-marks g l = l.marks
