use Rattle.std.proofs.Common.{sym, ◌∙◌, ap, ℕ, ◌+◌, arith}
use Rattle.brc_heap.specs.Ends.{was_born}
use Rattle.brc_run.proofs.Rows.{one_more, none_more, few_pass}
use Rattle.brc_run.proofs.tally.born_in.Goals.{then-born, else-born}
use Rattle.brc_run.proofs.tally.born_in.Goals as goal

pub overflow_add-born : goal.overflow_add-born
overflow_add-born g c =
    let few = few_pass (was_born c.args.end.now.state) c.args.first c.loop-row.row in
    omega (arith, few, c.loop-row.invariant.counted, c.loop-row-test.true, c.loop-row.auto.row)

pub loop-row-preserved : goal.loop-row-preserved
loop-row-preserved g c = record {
  first = omega (arith, c.loop-row.invariant.first);
  counted = elim c.if-born.branch [
    | then-born w ↦
        w.born-is ∙ ap (λ (n : ℕ). n + 1) c.loop-row.invariant.counted
        ∙ sym (one_more (was_born c.args.end.now.state) c.args.first c.loop-row.row c.loop-row.invariant.first
        (sym c.born.ensures ∙ w.if-born.true))
    | else-born w ↦
        w.born-is ∙ c.loop-row.invariant.counted
        ∙ sym (none_more (was_born c.args.end.now.state) c.args.first c.loop-row.row c.loop-row.invariant.first
        (sym c.born.ensures ∙ w.if-born.false))
  ];
}
