use Rattle.std.proofs.Common.{◌≡◌, ◌<◌, List, [], ◌∷◌, sym, ap, ◌∙◌, subst, append-nil}
use Rattle.brc_model.specs.declared.duty.Duty.{Duty}
use Rattle.brc_model.specs.declared.duty.Duty.TheVariants.{MergeLoad}
use Rattle.brc_model.specs.declared.duty.Reason.{Reason}
use Rattle.brc_model.specs.declared.layout.Layout.{Layout}
use Rattle.brc_model.specs.Layout.{row_count}
use Rattle.brc_table.specs.Hands.{TableState}
use Rattle.brc_table.specs.Views.{turned, work_about}
use Rattle.brc_effect.specs.declared.outcomes.MergeStep.{MergeStep}
use Rattle.brc_heap.specs.Calls.{merge_left}
use Rattle.brc_heap.specs.Steps.{HasStepped}
use Rattle.brc_heap.specs.Tries.{still_carried}
use Rattle.brc_heap.proofs.Leaving.{turned_works}
use Rattle.brc_heap.proofs.Stepping.{stepped_leaves}
use Rattle.brc_heap.proofs.MergeTries.{merge_piece, merge_chained, carries_none}
use Rattle.brc_heap.proofs.heap.Heap.merge_carried.Given as given
use Rattle.brc_heap.proofs.heap.Heap.merge_carried.Goals.{After-remember}
use Rattle.brc_heap.proofs.heap.Heap.merge_carried.Goals as goal

stepped : (g : given.Over) (c : After-remember g) (r : Reason)
    → work_about c.args.row c.args.hand.now.view ≡ MergeLoad c.args.row c.args.carried r ∷ []
    → HasStepped (turned c.args.hand.now.view c.args.row)
    (merge_left c.args.row c.args.carried r c.merge-step.result) c.remember.new.hand.view
stepped g c r duty =
    subst (HasStepped (turned c.args.hand.now.view c.args.row) _) (sym c.remember.ensures.same.1)
    (subst (λ (ds : List Duty). HasStepped (turned c.args.hand.now.view c.args.row) ds c.merge-step.new.hand.view)
    (append-nil (merge_left c.args.row c.args.carried r c.merge-step.result)) (c.merge-step.ensures.left r [] duty))

pub returns-clause-events : goal.returns-clause-events
returns-clause-events g c =
    let (word, found, answer, view) = c.merge-step.ensures.events in
    let (r, duty) = c.requires.duty in (
      word,
      found,
      c.remember.ensures.same.1 ∙ (view ∙ merge_chained _ c.args.row c.args.carried word found r _ answer duty
          (c.merge-step.ensures.own r [] duty)),
      answer,
    )

pub returns-clause-left : goal.returns-clause-left
returns-clause-left g c = λ r duty.
    stepped_leaves (turned_works c.args.row c.args.hand.now.view)
    (stepped g (goal.at.returns-clause-left g c).After-remember r duty)
    (merge_piece c.args.row c.args.carried r c.merge-step.result)

pub returns-clause-again : goal.returns-clause-again
returns-clause-again g c = λ r duty again. record {
  duty = (returns-clause-left g c r duty).left_is ∙ ap (merge_left c.args.row c.args.carried r) again;
  begun =
      c.remember.ensures.row ∙ (c.still_carried.ensures
      ∙ ap (λ (s : MergeStep). still_carried s c.args.carried) again);
}

pub returns-clause-done : goal.returns-clause-done
returns-clause-done g c = λ other.
    c.remember.ensures.row ∙ (c.still_carried.ensures ∙ carries_none c.merge-step.result c.args.carried other)

pub returns-clause-references : goal.returns-clause-references
returns-clause-references g c =
    (stepped g (goal.at.returns-clause-references g c).After-remember _ c.requires.duty.1).keeps.references

pub remember-requires-clause-there : goal.remember-requires-clause-there
remember-requires-clause-there g c =
    subst (λ (l : Layout). c.args.row < row_count l)
    (c.requires.table.1 ∙ sym (ap (λ (w : TableState). w.layout) c.words.ensures))
    (c.rows_are_there.ensures.work c.args.row _ [] c.requires.duty.1)
