use Rattle.brc_table.specs.Hands.{KeepsButView}
use Rattle.std.proofs.Common.{[], ◌∷◌}
use Rattle.brc_model.specs.declared.duty.Reason.{Reason}
use Rattle.brc_model.specs.declared.duty.Duty.TheVariants.{SharedLoad}
use Rattle.brc_free.specs.Works.{HasWorked, behind}
use Rattle.brc_free.proofs.finaliser.Finaliser.give_up_again.Given as goal

-- Each try that is lost, and each merge of the object, leaves a reference to be given up in the shared word.
abbrev pub invariant-loop : goal.invariant-loop
invariant-loop g l =
    KeepsButView l.fn.hand l.hand
    × ((r : Reason) × HasWorked l.fn.hand.view [] (SharedLoad l.fn.row r ∷ behind l.fn.hand.view.actor.agenda)
    l.hand.view)
