use Rattle.std.proofs.Common.{◌≡◌, ℕ, Option, Some, List, [], ◌∷◌, ◌++◌, refl, sym, ap, ◌∙◌, subst}
use Rattle.brc_model.specs.declared.duty.Duty.{Duty}
use Rattle.brc_model.specs.declared.duty.Duty.TheVariants.{MergeLoad}
use Rattle.brc_effect.specs.declared.outcomes.MergeStep.{MergeStep}
use Rattle.brc_effect.specs.declared.outcomes.MergeStep.TheVariants as tries
use Rattle.brc_heap.specs.Calls.{merge_left as tried_left}
use Rattle.brc_heap.specs.Tries.{swap_left}
use Rattle.brc_heap.proofs.Stepping.{plain_first}
use Rattle.brc_free.specs.Works.{HasWorked, merge_left, carried_left}
use Rattle.brc_free.proofs.Working.{worked_by, worked_more, worked_call}
use Rattle.brc_free.proofs.MergeEnds.{merge_won}
use Rattle.brc_free.proofs.merging.merge.Given as given
use Rattle.brc_free.proofs.merging.merge.Goals.{After-take_local, After-merge}
use Rattle.brc_free.proofs.merging.merge.Goals as goal

-- The local word is swapped, and its count is to be added.
taken : (g : given.Over) (c : After-take_local g) (count : ℕ) → c.take_local.result ≡ Some count
    → HasWorked c.args.hand.now.view [] (MergeLoad c.args.row count c.requires.duty.reason ∷ c.requires.duty.rest)
    c.take_local.new.hand.view
taken g c count is =
    let duty = c.requires.duty in
    subst (λ (o : Option ℕ). HasWorked c.args.hand.now.view []
    (swap_left c.args.row duty.reason o ++ duty.rest) c.take_local.new.hand.view) is
    (worked_by (c.take_local.ensures.left duty.reason duty.rest duty.next))

pub returns-in-None-clause-work : goal.returns-in-None-clause-work
returns-in-None-clause-work g c =
    let duty = c.requires.duty in
    subst (λ (ds : List Duty). HasWorked c.args.hand.now.view [] ds c.take_local.new.hand.view)
    (ap (λ (o : Option ℕ). swap_left c.args.row duty.reason o ++ duty.rest) c.in-None.is
    ∙ sym (ap merge_left duty.next))
    (worked_by (c.take_local.ensures.left duty.reason duty.rest duty.next))

pub merge-requires-clause-duty : goal.merge-requires-clause-duty
merge-requires-clause-duty g c =
    let duty = c.requires.duty in
    let at = taken g (goal.at.merge-requires-clause-duty g c).After-take_local c.in-Some.carried c.in-Some.is in
    record {
      reason = duty.reason;
      rest = duty.rest;
      next = at.agenda ∙ plain_first _ (MergeLoad _ _ duty.reason) duty.rest refl;
    }

pub returns-in-Kept-clause-work : goal.returns-in-Kept-clause-work
returns-in-Kept-clause-work g c =
    let duty = c.requires.duty in
    let at = taken g (goal.at.returns-in-Kept-clause-work g c).After-take_local c.in-Some.carried c.in-Some.is in
    let here = at.agenda ∙ plain_first _ (MergeLoad c.args.row c.in-Some.carried duty.reason) duty.rest refl in
    subst (λ (ds : List Duty). HasWorked c.args.hand.now.view [] ds c.merge.new.hand.view)
    (ap (λ (ds : List Duty). ds ++ duty.rest)
    (merge_won c.args.row c.in-Some.carried duty.reason c.merge.result c.in-Kept.is
    (c.merge.ensures.own duty.reason duty.rest here))
    ∙ sym (ap merge_left duty.next))
    (worked_more at (worked_by (c.merge.ensures.left duty.reason duty.rest here)))

-- Another thread came before the exchange: the count is still to be added.
lost : (g : given.Over) (c : After-merge g) → c.merge.result ≡ tries.Again
    → HasWorked c.args.hand.now.view []
    (MergeLoad c.args.row c.in-Some.carried c.requires.duty.reason ∷ c.requires.duty.rest) c.take_local.new.hand.view
    → HasWorked c.args.hand.now.view []
    (MergeLoad c.args.row c.in-Some.carried c.requires.duty.reason ∷ c.requires.duty.rest) c.merge.new.hand.view
lost g c is at =
    let duty = c.requires.duty in
    subst (λ (a : MergeStep). HasWorked c.args.hand.now.view []
    (tried_left c.args.row c.in-Some.carried duty.reason a ++ duty.rest) c.merge.new.hand.view) is
    (worked_more at (worked_by (c.merge.ensures.left duty.reason duty.rest
    (at.agenda ∙ plain_first _ (MergeLoad c.args.row c.in-Some.carried duty.reason) duty.rest refl))))

pub merge_again-requires-clause-duty : goal.merge_again-requires-clause-duty
merge_again-requires-clause-duty g c =
    let duty = c.requires.duty in
    let place = goal.at.merge_again-requires-clause-duty g c in
    let at = lost g place.After-merge c.in-Again.is (taken g place.After-take_local c.in-Some.carried c.in-Some.is) in
    record {
      reason = duty.reason;
      rest = duty.rest;
      next = at.agenda ∙ plain_first _ (MergeLoad _ _ duty.reason) duty.rest refl;
    }

pub returns-in-Again-clause-work : goal.returns-in-Again-clause-work
returns-in-Again-clause-work g c =
    let duty = c.requires.duty in
    let place = goal.at.returns-in-Again-clause-work g c in
    let at = lost g place.After-merge c.in-Again.is (taken g place.After-take_local c.in-Some.carried c.in-Some.is) in
    subst (λ (ds : List Duty). HasWorked c.args.hand.now.view [] ds c.merge_again.new.hand.view)
    (sym (ap merge_left duty.next))
    (worked_call _ _ _ [] (MergeLoad c.args.row c.in-Some.carried duty.reason ∷ duty.rest) carried_left at
    (plain_first _ (MergeLoad c.args.row c.in-Some.carried duty.reason) duty.rest refl) c.merge_again.ensures.work)
