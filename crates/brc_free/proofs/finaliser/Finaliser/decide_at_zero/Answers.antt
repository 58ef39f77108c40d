use Rattle.std.proofs.Common.{List, [], ◌∷◌, ◌++◌, sym, ap, ◌∙◌, subst}
use Rattle.brc_model.specs.declared.duty.Reason.TheVariants.{Own}
use Rattle.brc_model.specs.declared.duty.Duty.{Duty}
use Rattle.brc_model.specs.declared.duty.Duty.TheVariants.{MergeSwap}
use Rattle.brc_effect.specs.declared.outcomes.ZeroStep.{ZeroStep}
use Rattle.brc_heap.specs.Calls.{zero_left}
use Rattle.brc_free.specs.Works.{HasWorked, behind}
use Rattle.brc_free.proofs.Working.{worked_by}
use Rattle.brc_free.proofs.finaliser.Finaliser.decide_at_zero.Given as given
use Rattle.brc_free.proofs.finaliser.Finaliser.decide_at_zero.Goals.{After-decide}
use Rattle.brc_free.proofs.finaliser.Finaliser.decide_at_zero.Goals as goal

-- What the decision leaves.
decided : (g : given.Over) (c : After-decide g)
    → HasWorked c.args.hand.now.view [] (zero_left c.args.row c.decide.result ++ c.requires.duty.rest)
    c.decide.new.hand.view
decided g c = worked_by (c.decide.ensures.left c.requires.duty.rest c.requires.duty.next)

pub returns-in-Dying-clause-work : goal.returns-in-Dying-clause-work
returns-in-Dying-clause-work g c =
    subst (λ (ds : List Duty). HasWorked c.args.hand.now.view [] ds c.decide.new.hand.view)
    (ap (λ (z : ZeroStep). zero_left c.args.row z ++ c.requires.duty.rest) c.in-Dying.is
    ∙ sym (ap behind c.requires.duty.next))
    (decided g (goal.at.returns-in-Dying-clause-work g c).After-decide)

pub returns-in-Merge-clause-work : goal.returns-in-Merge-clause-work
returns-in-Merge-clause-work g c =
    subst (λ (ds : List Duty). HasWorked c.args.hand.now.view [] ds c.decide.new.hand.view)
    (ap (λ (z : ZeroStep). zero_left c.args.row z ++ c.requires.duty.rest) c.in-Merge.is
    ∙ sym (ap (λ (ds : List Duty). MergeSwap c.args.row Own ∷ behind ds) c.requires.duty.next))
    (decided g (goal.at.returns-in-Merge-clause-work g c).After-decide)
