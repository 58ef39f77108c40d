use Rattle.std.proofs.Common.{sym, ◌∙◌, ap, ℕ, ◌+◌, arith}
use Rattle.brc_heap.specs.Ends.{is_closed}
use Rattle.brc_run.proofs.Rows.{one_more, none_more, few_pass}
use Rattle.brc_run.proofs.tally.gone_in.Goals.{then-closed, else-closed}
use Rattle.brc_run.proofs.tally.gone_in.Goals as goal

pub overflow_add-closed : goal.overflow_add-closed
overflow_add-closed g c =
    let few = few_pass (is_closed c.args.end.now.state) c.args.first c.loop-row.row in
    omega (arith, few, c.loop-row.invariant.counted, c.loop-row-test.true, c.loop-row.auto.row)

pub loop-row-preserved : goal.loop-row-preserved
loop-row-preserved g c = record {
  first = omega (arith, c.loop-row.invariant.first);
  counted = elim c.if-closed.branch [
    | then-closed w ↦
        w.closed-is ∙ ap (λ (n : ℕ). n + 1) c.loop-row.invariant.counted
        ∙ sym (one_more (is_closed c.args.end.now.state) c.args.first c.loop-row.row c.loop-row.invariant.first
        (sym c.closed.ensures ∙ w.if-closed.true))
    | else-closed w ↦
        w.closed-is ∙ c.loop-row.invariant.counted
        ∙ sym (none_more (is_closed c.args.end.now.state) c.args.first c.loop-row.row c.loop-row.invariant.first
        (sym c.closed.ensures ∙ w.if-closed.false))
  ];
}
