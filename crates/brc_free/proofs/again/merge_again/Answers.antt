use Rattle.brc_table.proofs.Kept.{kept_on, kept_itself}
use Rattle.std.proofs.Common.{List, [], ◌++◌, refl, sym, ap, ◌∙◌, subst}
use Rattle.brc_model.specs.declared.duty.Duty.{Duty}
use Rattle.brc_model.specs.declared.duty.Duty.TheVariants.{MergeLoad}
use Rattle.brc_effect.specs.declared.outcomes.MergeStep.{MergeStep}
use Rattle.brc_heap.specs.Calls.{merge_left as tried_left}
use Rattle.brc_heap.proofs.Stepping.{plain_first, plain_begins}
use Rattle.brc_free.specs.Works.{HasWorked, carried_left}
use Rattle.brc_free.proofs.Working.{worked_by, worked_more}
use Rattle.brc_free.proofs.MergeEnds.{merge_won}
use Rattle.brc_free.proofs.again.merge_again.Goals as goal

pub loop-init : goal.loop-init
loop-init g c =
    let duty = c.requires.duty in (
      kept_itself _,
      (duty.reason, duty.rest, duty.next, worked_by (plain_begins duty.next refl)),
    )

pub merge-requires-clause-duty : goal.merge-requires-clause-duty
merge-requires-clause-duty g c =
    let (r, rest, next, at) = c.loop.invariant.1 in
    record { reason = r; rest = rest; next = at.agenda ∙ plain_first _ (MergeLoad _ _ r) rest refl }

pub returns-in-Kept-clause-work : goal.returns-in-Kept-clause-work
returns-in-Kept-clause-work g c =
    let (r, rest, next, at) = c.loop.invariant.1 in
    let here = at.agenda ∙ plain_first _ (MergeLoad c.args.row c.args.carried r) rest refl in
    subst (λ (ds : List Duty). HasWorked c.args.hand.now.view [] ds c.merge.new.hand.view)
    (ap (λ (ds : List Duty). ds ++ rest)
    (merge_won c.args.row c.args.carried r c.merge.result c.in-Kept.is (c.merge.ensures.own r rest here))
    ∙ sym (ap carried_left next))
    (worked_more at (worked_by (c.merge.ensures.left r rest here)))

pub loop-preserved : goal.loop-preserved
loop-preserved g c =
    let kept = c.loop.invariant in
    let (r, rest, next, at) = kept.1 in
    let tried = c.merge.ensures in (
      kept_on kept.0 tried.kept,
      (
        r,
        rest,
        next,
        subst (λ (a : MergeStep). HasWorked c.args.hand.now.view []
            (tried_left c.args.row c.args.carried r a ++ rest) c.merge.new.hand.view) c.in-Again.is
            (worked_more at (worked_by (tried.left r rest
            (at.agenda ∙ plain_first _ (MergeLoad c.args.row c.args.carried r) rest refl)))),
      ),
    )
