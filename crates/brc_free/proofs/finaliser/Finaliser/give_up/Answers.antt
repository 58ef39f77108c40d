use Rattle.std.proofs.Common.{◌≡◌, List, [], ◌∷◌, ◌++◌, refl, sym, ap, ◌∙◌, subst}
use Rattle.brc_model.specs.declared.duty.Duty.{Duty}
use Rattle.brc_model.specs.declared.duty.Duty.TheVariants.{SharedLoad, SetMark}
use Rattle.brc_effect.specs.declared.outcomes.SharedRelease.{SharedRelease}
use Rattle.brc_heap.specs.Calls.{shared_left}
use Rattle.brc_heap.proofs.Stepping.{plain_first}
use Rattle.brc_free.specs.Works.{HasWorked, behind}
use Rattle.brc_free.proofs.Working.{worked_by, worked_call}
use Rattle.brc_free.proofs.GivingUp.{given_up}
use Rattle.brc_free.proofs.finaliser.Finaliser.give_up.Given as given
use Rattle.brc_free.proofs.finaliser.Finaliser.give_up.Goals.{After-release_shared}
use Rattle.brc_free.proofs.finaliser.Finaliser.give_up.Goals as goal

-- What the try leaves.
tried : (g : given.Over) (c : After-release_shared g) (answer : SharedRelease) → c.release_shared.result ≡ answer
    → HasWorked c.args.hand.now.view [] (shared_left c.args.row c.requires.duty.reason answer
    ++ behind c.args.hand.now.view.actor.agenda) c.release_shared.new.hand.view
tried g c answer is =
    let duty = c.requires.duty in
    subst (λ (s : SharedRelease). HasWorked c.args.hand.now.view [] (shared_left c.args.row duty.reason s
    ++ behind c.args.hand.now.view.actor.agenda) c.release_shared.new.hand.view) is
    (subst (λ (ds : List Duty). HasWorked c.args.hand.now.view []
    (shared_left c.args.row duty.reason c.release_shared.result ++ ds) c.release_shared.new.hand.view)
    (sym (ap behind duty.next))
    (worked_by (c.release_shared.ensures.left duty.reason duty.rest duty.next)))

pub returns-in-Kept-clause-work : goal.returns-in-Kept-clause-work
returns-in-Kept-clause-work g c =
    given_up c.args.row c.requires.duty.reason c.release_shared.result
    (tried g (goal.at.returns-in-Kept-clause-work g c).After-release_shared _ refl) c.in-Kept.is

pub hand_over-requires-clause-duty : goal.hand_over-requires-clause-duty
hand_over-requires-clause-duty g c =
    let at = tried g (goal.at.hand_over-requires-clause-duty g c).After-release_shared _ c.in-Queued.is in
    record {
      rest = behind c.args.hand.now.view.actor.agenda;
      next = at.agenda ∙ plain_first _ (SetMark c.args.row) _ refl;
    }

pub returns-in-Queued-clause-work : goal.returns-in-Queued-clause-work
returns-in-Queued-clause-work g c =
    worked_call _ _ _ [] (SetMark c.args.row ∷ behind c.args.hand.now.view.actor.agenda) behind
    (tried g (goal.at.returns-in-Queued-clause-work g c).After-release_shared _ c.in-Queued.is)
    (plain_first _ (SetMark c.args.row) _ refl) c.hand_over.ensures.work

pub give_up_again-requires-clause-duty : goal.give_up_again-requires-clause-duty
give_up_again-requires-clause-duty g c =
    let at = tried g (goal.at.give_up_again-requires-clause-duty g c).After-release_shared _ c.in-Again.is in
    record {
      reason = c.requires.duty.reason;
      rest = behind c.args.hand.now.view.actor.agenda;
      next = at.agenda ∙ plain_first _ (SharedLoad c.args.row _) _ refl;
    }

pub returns-in-Again-clause-work : goal.returns-in-Again-clause-work
returns-in-Again-clause-work g c =
    let reason = c.requires.duty.reason in
    worked_call _ _ _ [] (SharedLoad c.args.row reason ∷ behind c.args.hand.now.view.actor.agenda) behind
    (tried g (goal.at.returns-in-Again-clause-work g c).After-release_shared _ c.in-Again.is)
    (plain_first _ (SharedLoad c.args.row reason) _ refl) c.give_up_again.ensures.work
