use Rattle.std.proofs.Common.{List, [], ◌++◌, sym, ap, ◌∙◌, subst}
use Rattle.brc_model.specs.declared.duty.Holding.TheVariants.{InFlight}
use Rattle.brc_model.specs.declared.duty.Duty.{Duty}
use Rattle.brc_heap.specs.Calls.{local_left}
use Rattle.brc_heap.specs.Steps.{HasStepped}
use Rattle.brc_free.specs.Works.{HasWorked, behind, remaining_left}
use Rattle.brc_free.proofs.Working.{worked_by, worked_more}
use Rattle.brc_free.proofs.finaliser.Finaliser.release_item.Given as given
use Rattle.brc_free.proofs.finaliser.Finaliser.release_item.Goals.{After-lower-release, After-end_release-remaining}
use Rattle.brc_free.proofs.finaliser.Finaliser.release_item.Goals as goal

-- What the step on the local word leaves.
lowered : (g : given.Over) (c : After-lower-release g)
    → HasStepped c.args.hand.now.view (local_left c.args.row c.lower-release.result ++ c.requires.duty.rest)
    c.lower-release.new.hand.view
lowered g c =
    c.lower-release.ensures.left _ InFlight c.requires.duty.rest c.requires.duty.next c.step-word.ensures.view

pub end_release-remaining-requires-clause-duty : goal.end_release-remaining-requires-clause-duty
end_release-remaining-requires-clause-duty g c = (
  c.requires.duty.rest,
  (lowered g (goal.at.end_release-remaining-requires-clause-duty g c).After-lower-release).agenda,
)

-- What the release leaves to a call.
ended : (g : given.Over) (c : After-end_release-remaining g)
    → HasStepped c.args.hand.now.view (local_left c.args.row c.lower-release.result ++ c.requires.duty.rest)
    c.lower-release.new.hand.view
    → HasWorked c.args.hand.now.view []
    (remaining_left c.args.row c.end_release-remaining.result ++ c.requires.duty.rest)
    c.end_release-remaining.new.hand.view
ended g c at = worked_more (worked_by at) (c.end_release-remaining.ensures.work c.requires.duty.rest at.agenda)

pub merge_or_give_up-requires-clause-table : goal.merge_or_give_up-requires-clause-table
merge_or_give_up-requires-clause-table g c =
    let place = goal.at.merge_or_give_up-requires-clause-table g c in
    let same = (ended g place.After-end_release-remaining (lowered g place.After-lower-release)).keeps.layout in
    (cc, cc)

pub merge_or_give_up-requires-clause-alive : goal.merge_or_give_up-requires-clause-alive
merge_or_give_up-requires-clause-alive g c = λ gone.
    let place = goal.at.merge_or_give_up-requires-clause-alive g c in
    let at = ended g place.After-end_release-remaining (lowered g place.After-lower-release) in
    c.requires.alive (sym at.keeps.status ∙ gone)

pub merge_or_give_up-requires-clause-duty : goal.merge_or_give_up-requires-clause-duty
merge_or_give_up-requires-clause-duty g c =
    let place = goal.at.merge_or_give_up-requires-clause-duty g c in
    let at = ended g place.After-end_release-remaining (lowered g place.After-lower-release) in
    (c.requires.duty.rest, at.agenda)

pub returns-clause-work : goal.returns-clause-work
returns-clause-work g c =
    let place = goal.at.returns-clause-work g c in
    let at = ended g place.After-end_release-remaining (lowered g place.After-lower-release) in
    subst (λ (ds : List Duty). HasWorked c.args.hand.now.view [] ds c.merge_or_give_up.new.hand.view)
    (sym (ap behind c.requires.duty.next))
    (worked_more at (c.merge_or_give_up.ensures.work c.requires.duty.rest at.agenda))
