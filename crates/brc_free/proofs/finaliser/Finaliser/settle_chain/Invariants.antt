use Rattle.brc_table.specs.Hands.{KeepsButView}
use Rattle.std.proofs.Common.{◌≡◌, List, ◌∷◌}
use Rattle.brc_host.specs.HostCounts.{raised}
use Rattle.brc_host.specs.HostCalls.{HostCall, HasAnswered, close_faults}
use Rattle.brc_model.specs.declared.duty.Duty.{Duty}
use Rattle.brc_model.specs.declared.duty.Duty.TheVariants.{Settle}
use Rattle.brc_free.specs.Works.{HasWorked, ComesToSettle, to_settle}
use Rattle.brc_free.proofs.finaliser.Finaliser.settle_chain.Given as goal

-- After each object the hand settles what is left of its chain.
abbrev pub invariant-loop : goal.invariant-loop
invariant-loop g l =
    KeepsButView l.fn.hand l.hand
    × ((rest : List Duty) → ComesToSettle l.fn.hand.view rest → ComesToSettle l.hand.view rest
    × ((closes : List HostCall)
    × HasWorked (to_settle rest l.fn.hand.view) closes (Settle ∷ rest) (to_settle rest l.hand.view)
    × (l.failed ≡ raised (close_faults closes) 0)
    × HasAnswered g.H.Host.answers g.H.Host.counts l.fn.host closes l.host))
