use Rattle.std.proofs.Common.{ℕ, ◌<◌, ◌∙◌, [], inl, inr, sym, ap, subst}
use Rattle.brc_model.specs.declared.duty.Reason.{Reason}
use Rattle.brc_model.specs.declared.layout.Layout.{Layout}
use Rattle.brc_model.specs.Layout.{row_count}
use Rattle.brc_table.specs.Hands.{HandState, TableState}
use Rattle.brc_table.specs.Views.{RowsAreThere}
use Rattle.brc_heap.specs.Calls.{Merges}
use Rattle.brc_heap.proofs.heap.Heap.merge_step.Goals as goal

-- The row of a merge is there.
merged_there : (r : Reason) (hand : HandState) (x : ℕ) → RowsAreThere hand.view → Merges r hand x
    → x < row_count hand.view.layout
merged_there r hand x rows (inl first) = rows.work x _ [] first.duty
merged_there r hand x rows (inr (carried, begun)) = rows.work x _ [] begun.duty

pub carried-requires-clause-there : goal.carried-requires-clause-there
carried-requires-clause-there g c =
    let (r, merges) = c.requires.duty in
    subst (λ (l : Layout). c.args.row < row_count l)
    (c.requires.table.1 ∙ sym (ap (λ (w : TableState). w.layout) c.words.ensures))
    (merged_there r c.args.hand.now c.args.row c.rows_are_there.ensures merges)
