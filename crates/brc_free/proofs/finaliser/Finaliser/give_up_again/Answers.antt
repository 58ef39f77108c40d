use Rattle.brc_table.proofs.Kept.{kept_on, kept_itself}
use Rattle.std.proofs.Common.{◌≡◌, List, [], ◌∷◌, ◌++◌, refl, sym, ap, ◌∙◌, subst}
use Rattle.brc_model.specs.declared.duty.Reason.TheVariants.{Handed}
use Rattle.brc_model.specs.declared.duty.Duty.{Duty}
use Rattle.brc_model.specs.declared.duty.Duty.TheVariants.{SharedLoad, SetMark, MergeSwap}
use Rattle.brc_effect.specs.declared.outcomes.SharedRelease.{SharedRelease}
use Rattle.brc_effect.specs.declared.outcomes.SharedRelease.TheVariants as shared
use Rattle.brc_effect.specs.declared.outcomes.Looked.{Looked}
use Rattle.brc_effect.specs.declared.outcomes.Looked.TheVariants as looks
use Rattle.brc_heap.specs.Calls.{shared_left}
use Rattle.brc_heap.specs.Marks.{look_left}
use Rattle.brc_heap.proofs.Stepping.{plain_first, plain_begins}
use Rattle.brc_free.specs.Works.{HasWorked, behind, merge_left}
use Rattle.brc_free.proofs.Working.{worked_by, worked_more, worked_call}
use Rattle.brc_free.proofs.GivingUp.{given_up, has_posted}
use Rattle.brc_free.proofs.finaliser.Finaliser.give_up_again.Given as given
use Rattle.brc_free.proofs.finaliser.Finaliser.give_up_again.Goals.{After-release_shared, After-post}
use Rattle.brc_free.proofs.finaliser.Finaliser.give_up_again.Goals as goal

-- What a try leaves.
tried : (g : given.Over) (c : After-release_shared g)
    → HasWorked c.args.hand.now.view [] (shared_left c.args.row c.loop.invariant.1.0 c.release_shared.result
    ++ behind c.args.hand.now.view.actor.agenda) c.release_shared.new.hand.view
tried g c =
    let at = c.loop.invariant.1.1 in
    worked_more at (worked_by (c.release_shared.ensures.left _ _ (at.agenda ∙ plain_first _ (SharedLoad c.args.row _) _
    refl)))

-- The object is in its owner's queue: its mark is set next.
queued : (g : given.Over) (c : After-release_shared g) → c.release_shared.result ≡ shared.Queued
    → HasWorked c.args.hand.now.view [] (SetMark c.args.row ∷ behind c.args.hand.now.view.actor.agenda)
    c.release_shared.new.hand.view
queued g c is =
    subst (λ (s : SharedRelease). HasWorked c.args.hand.now.view [] (shared_left c.args.row c.loop.invariant.1.0 s
    ++ behind c.args.hand.now.view.actor.agenda) c.release_shared.new.hand.view) is (tried g c)

pub loop-init : goal.loop-init
loop-init g c =
    let duty = c.requires.duty in (
      kept_itself _,
      (
        duty.reason,
        subst (λ (ds : List Duty). HasWorked c.args.hand.now.view [] (SharedLoad c.args.row duty.reason ∷ ds)
            c.args.hand.now.view)
            (sym (ap behind duty.next)) (worked_by (plain_begins duty.next refl)),
      ),
    )

pub release_shared-requires-clause-duty : goal.release_shared-requires-clause-duty
release_shared-requires-clause-duty g c = record {
  reason = c.loop.invariant.1.0;
  rest = behind c.args.hand.now.view.actor.agenda;
  next = c.loop.invariant.1.1.agenda ∙ plain_first _ (SharedLoad c.args.row _) _ refl;
}

pub returns-in-Kept-clause-work : goal.returns-in-Kept-clause-work
returns-in-Kept-clause-work g c =
    given_up c.args.row c.loop.invariant.1.0 c.release_shared.result
    (tried g (goal.at.returns-in-Kept-clause-work g c).After-release_shared) c.in-Kept.is

pub post-requires-clause-duty : goal.post-requires-clause-duty
post-requires-clause-duty g c =
    let at = queued g (goal.at.post-requires-clause-duty g c).After-release_shared c.in-Queued.is in
    record {
      rest = behind c.args.hand.now.view.actor.agenda;
      next = at.agenda ∙ plain_first _ (SetMark c.args.row) _ refl;
    }

pub returns-in-Left-clause-work : goal.returns-in-Left-clause-work
returns-in-Left-clause-work g c =
    let (before, said, found, is, view) = c.post.ensures.events in
    subst (λ (a : Looked). HasWorked c.args.hand.now.view [] (look_left c.args.row a
    ++ behind c.args.hand.now.view.actor.agenda) c.post.new.hand.view) c.in-Left.is
    (has_posted c.post.result before said found
    (queued g (goal.at.returns-in-Left-clause-work g c).After-release_shared c.in-Queued.is) is view)

-- The owner doesn't look there any more: the object is merged next.
claimed : (g : given.Over) (c : After-post g) → c.post.result ≡ looks.Claimed
    → HasWorked c.args.hand.now.view [] (SetMark c.args.row ∷ behind c.args.hand.now.view.actor.agenda)
    c.release_shared.new.hand.view
    → HasWorked c.args.hand.now.view [] (MergeSwap c.args.row Handed ∷ behind c.args.hand.now.view.actor.agenda)
    c.post.new.hand.view
claimed g c claims at =
    let (before, said, found, is, view) = c.post.ensures.events in
    subst (λ (a : Looked). HasWorked c.args.hand.now.view [] (look_left c.args.row a
    ++ behind c.args.hand.now.view.actor.agenda) c.post.new.hand.view) claims
    (has_posted c.post.result before said found at is view)

pub merge-requires-clause-table : goal.merge-requires-clause-table
merge-requires-clause-table g c =
    let place = goal.at.merge-requires-clause-table g c in
    let same = (claimed g place.After-post c.in-Claimed.is (queued g place.After-release_shared
    c.in-Queued.is)).keeps.layout in
    (cc, cc)

pub merge-requires-clause-alive : goal.merge-requires-clause-alive
merge-requires-clause-alive g c = λ gone.
    let place = goal.at.merge-requires-clause-alive g c in
    let at = claimed g place.After-post c.in-Claimed.is (queued g place.After-release_shared c.in-Queued.is) in
    c.requires.alive (sym at.keeps.status ∙ gone)

pub merge-requires-clause-duty : goal.merge-requires-clause-duty
merge-requires-clause-duty g c =
    let place = goal.at.merge-requires-clause-duty g c in
    let at = claimed g place.After-post c.in-Claimed.is (queued g place.After-release_shared c.in-Queued.is) in
    record {
      reason = Handed;
      rest = behind c.args.hand.now.view.actor.agenda;
      next = at.agenda ∙ plain_first _ (MergeSwap c.args.row Handed) _ refl;
    }

pub loop-preserved-in-Claimed : goal.loop-preserved-in-Claimed
loop-preserved-in-Claimed g c =
    let kept = c.loop.invariant in
    let tried = c.release_shared.ensures in
    let posts = c.post.ensures in
    let merged = c.merge.ensures in
    let place = goal.at.loop-preserved-in-Claimed g c in
    let at = claimed g place.After-post c.in-Claimed.is (queued g place.After-release_shared c.in-Queued.is) in (
      kept_on (kept_on (kept_on kept.0 tried.kept) posts.kept) merged.kept,
      (
        Handed,
        worked_call _ _ _ [] (MergeSwap c.args.row Handed ∷ behind c.args.hand.now.view.actor.agenda) merge_left at
            (plain_first _ (MergeSwap c.args.row Handed) _ refl) merged.work,
      ),
    )

pub loop-preserved : goal.loop-preserved
loop-preserved g c =
    let kept = c.loop.invariant in
    let lost = c.release_shared.ensures in (
      kept_on kept.0 lost.kept,
      (
        kept.1.0,
        subst (λ (s : SharedRelease). HasWorked c.args.hand.now.view [] (shared_left c.args.row kept.1.0 s
            ++ behind c.args.hand.now.view.actor.agenda) c.release_shared.new.hand.view) c.in-Again.is
            (tried g (goal.at.loop-preserved g c).After-release_shared),
      ),
    )
