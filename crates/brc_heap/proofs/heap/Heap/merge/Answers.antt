use Rattle.std.proofs.Common.{sym, ap, ◌∙◌, subst}
use Rattle.brc_table.specs.declared.view.View.{View}
use Rattle.brc_table.specs.Views.{view_after}
use Rattle.brc_table.specs.Plays.{FindsKnown}
use Rattle.brc_heap.proofs.MergeTries.{own_dies, merge_dying, merge_tried_once}
use Rattle.brc_heap.proofs.heap.Heap.merge.Goals as goal

pub returns-in-Dying-clause-own : goal.returns-in-Dying-clause-own
returns-in-Dying-clause-own g c = λ r rest next dying.
    own_dies _ c.args.row c.args.carried c.go_on-word.result c.step-found.result r rest next
    (subst (λ (v : View). FindsKnown v v.actor.agenda c.step-found.result) c.go_on-word.ensures.view
    c.step-found.ensures.finds)
    (sym c.merge_step-step.ensures ∙ dying)

pub returns-in-Dying-clause-left : goal.returns-in-Dying-clause-left
returns-in-Dying-clause-left g c = λ r rest next.
    merge_dying _ _ _ c.args.row c.args.carried c.go_on-word.result c.step-found.result r rest c.merge_step-step.result
    c.merge_step-step.ensures
    (c.step-found.ensures.view ∙ ap (λ (v : View). view_after v c.step-found.result) c.go_on-word.ensures.view)
    c.in-Dying.is (returns-in-Dying-clause-own g c r rest next) (c.chain.ensures.stepped _ rest) next

pub returns-in_default-clause-own : goal.returns-in_default-clause-own
returns-in_default-clause-own g c = λ r rest next dying. absurd (c.in_default.not-Dying dying)

pub returns-in_default-clause-left : goal.returns-in_default-clause-left
returns-in_default-clause-left g c = λ r rest.
    merge_tried_once _ _ c.args.row c.args.carried c.go_on-word.result c.step-found.result r rest
    c.merge_step-step.result c.merge_step-step.ensures
    (c.step-found.ensures.view ∙ ap (λ (v : View). view_after v c.step-found.result) c.go_on-word.ensures.view)
    c.in_default.not-Dying
