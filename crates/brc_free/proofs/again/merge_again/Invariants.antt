use Rattle.brc_table.specs.Hands.{KeepsButView}
use Rattle.std.proofs.Common.{◌≡◌, List, [], ◌∷◌}
use Rattle.brc_model.specs.declared.duty.Duty.{Duty}
use Rattle.brc_model.specs.declared.duty.Reason.{Reason}
use Rattle.brc_model.specs.declared.duty.Duty.TheVariants.{MergeLoad}
use Rattle.brc_free.specs.Works.{HasWorked}
use Rattle.brc_free.proofs.again.merge_again.Given as goal

-- Each try that is lost leaves the count to be added.
abbrev pub invariant-loop : goal.invariant-loop
invariant-loop g l =
    KeepsButView l.fn.hand l.hand
    × ((r : Reason) × (rest : List Duty) × (l.fn.hand.view.actor.agenda ≡ MergeLoad l.fn.row l.fn.carried r ∷ rest)
    × HasWorked l.fn.hand.view [] (MergeLoad l.fn.row l.fn.carried r ∷ rest) l.hand.view)
