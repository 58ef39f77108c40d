use Rattle.std.proofs.Common.{◌≡◌, List, [], ◌∷◌, ◌++◌, refl, sym, ap, ◌∙◌, subst}
use Rattle.brc_model.specs.declared.duty.Duty.{Duty}
use Rattle.brc_model.specs.declared.duty.Reason.TheVariants.{Handed}
use Rattle.brc_model.specs.declared.duty.Duty.TheVariants.{SharedLoad, SetMark, MergeSwap}
use Rattle.brc_effect.specs.declared.outcomes.Looked.{Looked}
use Rattle.brc_effect.specs.declared.outcomes.Looked.TheVariants as looks
use Rattle.brc_table.specs.declared.view.View.{View}
use Rattle.brc_heap.specs.Marks.{look_left}
use Rattle.brc_heap.proofs.Stepping.{plain_first, plain_begins}
use Rattle.brc_free.specs.Works.{HasWorked, behind, merge_left}
use Rattle.brc_free.proofs.Working.{worked_by, worked_call}
use Rattle.brc_free.proofs.GivingUp.{has_posted}
use Rattle.brc_free.proofs.finaliser.Finaliser.hand_over.Given as given
use Rattle.brc_free.proofs.finaliser.Finaliser.hand_over.Goals.{After-post}
use Rattle.brc_free.proofs.finaliser.Finaliser.hand_over.Goals as goal

-- What the hand finds once the object is in its owner's queue.
looked : (g : given.Over) (c : After-post g) (answer : Looked) → c.post.result ≡ answer
    → HasWorked c.args.hand.now.view [] (look_left c.args.row answer ++ behind c.args.hand.now.view.actor.agenda)
    c.post.new.hand.view
looked g c answer answers =
    let duty = c.requires.duty in
    let (before, said, found, is, view) = c.post.ensures.events in
    let begun = subst (λ (ds : List Duty). HasWorked c.args.hand.now.view [] (SetMark c.args.row ∷ ds)
    c.args.hand.now.view) (sym (ap behind duty.next)) (worked_by (plain_begins duty.next refl)) in
    subst (λ (a : Looked). HasWorked c.args.hand.now.view [] (look_left c.args.row a
    ++ behind c.args.hand.now.view.actor.agenda) c.post.new.hand.view) answers
    (has_posted c.post.result before said found begun is view)

pub returns-in-Left-clause-work : goal.returns-in-Left-clause-work
returns-in-Left-clause-work g c = looked g (goal.at.returns-in-Left-clause-work g c).After-post _ c.in-Left.is

pub merge-requires-clause-table : goal.merge-requires-clause-table
merge-requires-clause-table g c =
    let same = (looked g (goal.at.merge-requires-clause-table g c).After-post _ c.in-Claimed.is).keeps.layout in
    (cc, cc)

pub merge-requires-clause-alive : goal.merge-requires-clause-alive
merge-requires-clause-alive g c = λ gone.
    let at = looked g (goal.at.merge-requires-clause-alive g c).After-post _ c.in-Claimed.is in
    c.requires.alive (sym at.keeps.status ∙ gone)

pub merge-requires-clause-duty : goal.merge-requires-clause-duty
merge-requires-clause-duty g c =
    let at = looked g (goal.at.merge-requires-clause-duty g c).After-post _ c.in-Claimed.is in
    record {
      reason = Handed;
      rest = behind c.args.hand.now.view.actor.agenda;
      next = at.agenda ∙ plain_first _ (MergeSwap c.args.row Handed) _ refl;
    }

-- The object is merged, and its handed reference is to be given up.
merged : (g : given.Over) (c : After-post g) (w : View) → c.post.result ≡ looks.Claimed
    → HasWorked c.post.new.hand.view [] (merge_left c.post.new.hand.view.actor.agenda) w
    → HasWorked c.args.hand.now.view [] (SharedLoad c.args.row Handed ∷ behind c.args.hand.now.view.actor.agenda) w
merged g c w claims more =
    worked_call _ _ _ [] (MergeSwap c.args.row Handed ∷ behind c.args.hand.now.view.actor.agenda) merge_left
    (looked g c _ claims) (plain_first _ (MergeSwap c.args.row Handed) _ refl) more

pub give_up_again-requires-clause-table : goal.give_up_again-requires-clause-table
give_up_again-requires-clause-table g c =
    let at = merged g (goal.at.give_up_again-requires-clause-table g c).After-post
    c.merge.new.hand.view c.in-Claimed.is c.merge.ensures.work in
    let same = at.keeps.layout in
    (cc, cc)

pub give_up_again-requires-clause-alive : goal.give_up_again-requires-clause-alive
give_up_again-requires-clause-alive g c = λ gone.
    let at = merged g (goal.at.give_up_again-requires-clause-alive g c).After-post
    c.merge.new.hand.view c.in-Claimed.is c.merge.ensures.work in
    c.requires.alive (sym at.keeps.status ∙ gone)

pub give_up_again-requires-clause-duty : goal.give_up_again-requires-clause-duty
give_up_again-requires-clause-duty g c =
    let at = merged g (goal.at.give_up_again-requires-clause-duty g c).After-post
    c.merge.new.hand.view c.in-Claimed.is c.merge.ensures.work in
    record {
      reason = Handed;
      rest = behind c.args.hand.now.view.actor.agenda;
      next = at.agenda ∙ plain_first _ (SharedLoad c.args.row Handed) _ refl;
    }

pub returns-in-Claimed-clause-work : goal.returns-in-Claimed-clause-work
returns-in-Claimed-clause-work g c =
    worked_call _ _ _ [] (SharedLoad c.args.row Handed ∷ behind c.args.hand.now.view.actor.agenda) behind
    (merged g (goal.at.returns-in-Claimed-clause-work g c).After-post
    c.merge.new.hand.view c.in-Claimed.is c.merge.ensures.work)
    (plain_first _ (SharedLoad c.args.row Handed) _ refl) c.give_up_again.ensures.work
