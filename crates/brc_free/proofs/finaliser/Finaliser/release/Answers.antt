use Rattle.std.proofs.Common.{◌≡◌, ℕ, [], ◌++◌, refl, sym, ◌∙◌, subst}
use Rattle.brc_model.specs.declared.actor.Status.TheVariants.{Running, Gone}
use Rattle.brc_model.specs.Duties.{ready}
use Rattle.brc_table.specs.declared.view.View.{View}
use Rattle.brc_model.specs.declared.duty.Duty.TheVariants.{DecideAtZero, SharedLoad}
use Rattle.brc_model.specs.declared.duty.Reason.TheVariants.{Own}
use Rattle.brc_effect.specs.declared.outcomes.LocalRelease.{LocalRelease}
use Rattle.brc_effect.specs.declared.outcomes.LocalRelease.TheVariants as local
use Rattle.brc_heap.specs.Calls.{local_left, released_locally}
use Rattle.brc_heap.proofs.Stepping.{plain_first}
use Rattle.brc_free.specs.Works.{HasWorked, EndsRelease, remaining_left}
use Rattle.brc_free.specs.declared.giving_up.Remaining.{Remaining}
use Rattle.brc_free.specs.declared.giving_up.Remaining.TheVariants as remaining
use Rattle.brc_free.proofs.Working.{worked_more}
use Rattle.brc_free.proofs.GivingUp.{released}
use Rattle.brc_free.proofs.finaliser.Finaliser.release.Given as given
use Rattle.brc_free.proofs.finaliser.Finaliser.release.Goals.{After-release_local-release, After-end_release-remaining, After-merge_or_give_up}
use Rattle.brc_free.proofs.finaliser.Finaliser.release.Goals as goal

-- Nothing comes behind the release.
local_ready : (head x : ℕ) (answer : LocalRelease) → local_left x answer ≡ ready head (local_left x answer ++ [])
local_ready head x local.Skip = refl
local_ready head x local.Kept = refl
local_ready head x local.Zero = sym (plain_first head (DecideAtZero x) [] refl)
local_ready head x local.Share = sym (plain_first head (SharedLoad x Own) [] refl)

ends : (g : given.Over) (c : After-release_local-release g)
    → EndsRelease c.args.row c.release_local-release.result [] c.release_local-release.new.hand.view
ends g c =
    c.release_local-release.ensures.left.agenda
    ∙ local_ready c.release_local-release.new.hand.view.actor.head c.args.row c.release_local-release.result

pub end_release-remaining-requires-clause-duty : goal.end_release-remaining-requires-clause-duty
end_release-remaining-requires-clause-duty g c =
    ([], ends g (goal.at.end_release-remaining-requires-clause-duty g c).After-release_local-release)

-- What the release leaves to a call.
ended : (g : given.Over) (c : After-end_release-remaining g)
    → EndsRelease c.args.row c.release_local-release.result [] c.release_local-release.new.hand.view
    → HasWorked c.release_local-release.new.hand.view []
    (remaining_left c.args.row c.end_release-remaining.result ++ [])
    c.end_release-remaining.new.hand.view
ended g c next = c.end_release-remaining.ensures.work [] next

-- Mostly nothing,
over : (g : given.Over) (c : After-end_release-remaining g)
    → EndsRelease c.args.row c.release_local-release.result [] c.release_local-release.new.hand.view
    → c.end_release-remaining.result ≡ remaining.Nothing
    → HasWorked c.release_local-release.new.hand.view [] [] c.end_release-remaining.new.hand.view
over g c next is =
    subst (λ (left : Remaining). HasWorked c.release_local-release.new.hand.view []
    (remaining_left c.args.row left ++ []) c.end_release-remaining.new.hand.view) is (ended g c next)

pub merge_or_give_up-requires-clause-table : goal.merge_or_give_up-requires-clause-table
merge_or_give_up-requires-clause-table g c =
    let place = goal.at.merge_or_give_up-requires-clause-table g c in
    let same = (ended g place.After-end_release-remaining (ends g place.After-release_local-release)).keeps.layout in
    (cc, cc)

running_gone : Running ≡ Gone → ⊥
running_gone is = absurd cc

pub merge_or_give_up-requires-clause-alive : goal.merge_or_give_up-requires-clause-alive
merge_or_give_up-requires-clause-alive g c = λ gone.
    let place = goal.at.merge_or_give_up-requires-clause-alive g c in
    let at = ended g place.After-end_release-remaining (ends g place.After-release_local-release) in
    running_gone (sym c.requires.running.0
    ∙ (sym (at.keeps.status ∙ c.release_local-release.ensures.left.keeps.status) ∙ gone))

pub merge_or_give_up-requires-clause-duty : goal.merge_or_give_up-requires-clause-duty
merge_or_give_up-requires-clause-duty g c =
    let place = goal.at.merge_or_give_up-requires-clause-duty g c in
    ([], (ended g place.After-end_release-remaining (ends g place.After-release_local-release)).agenda)

-- and otherwise what the call does.
called : (g : given.Over) (c : After-merge_or_give_up g)
    → HasWorked c.release_local-release.new.hand.view []
    (remaining_left c.args.row c.end_release-remaining.result ++ [])
    c.end_release-remaining.new.hand.view
    → HasWorked c.release_local-release.new.hand.view [] [] c.merge_or_give_up.new.hand.view
called g c at = worked_more at (c.merge_or_give_up.ensures.work [] at.agenda)

-- The whole release, from its step on the local word on.
works : (g : given.Over) (c : After-release_local-release g) (w : View)
    → HasWorked c.release_local-release.new.hand.view [] [] w
    → (word : ℕ) × HasWorked (released_locally c.args.hand.now.view c.args.row word) [] [] w
works g c w at =
    let (word, owner, answer, view) = c.release_local-release.ensures.events in
    (word, subst (λ (v : View). HasWorked v [] [] w) view at)

pub returns-in-Nothing-clause-work : goal.returns-in-Nothing-clause-work
returns-in-Nothing-clause-work g c =
    let place = goal.at.returns-in-Nothing-clause-work g c in
    works g place.After-release_local-release _
    (over g place.After-end_release-remaining (ends g place.After-release_local-release) c.in-Nothing.is)

pub returns-in-Nothing-clause-released : goal.returns-in-Nothing-clause-released
returns-in-Nothing-clause-released g c =
    let place = goal.at.returns-in-Nothing-clause-released g c in
    released c.release_local-release.ensures.left c.release_local-release.ensures.references
    (over g place.After-end_release-remaining (ends g place.After-release_local-release) c.in-Nothing.is)

pub returns-in-Merge-clause-work : goal.returns-in-Merge-clause-work
returns-in-Merge-clause-work g c =
    let place = goal.at.returns-in-Merge-clause-work g c in
    works g place.After-release_local-release _
    (called g place.After-merge_or_give_up
    (ended g place.After-end_release-remaining (ends g place.After-release_local-release)))

pub returns-in-Merge-clause-released : goal.returns-in-Merge-clause-released
returns-in-Merge-clause-released g c =
    let place = goal.at.returns-in-Merge-clause-released g c in
    released c.release_local-release.ensures.left c.release_local-release.ensures.references
    (called g place.After-merge_or_give_up
    (ended g place.After-end_release-remaining (ends g place.After-release_local-release)))
