use Rattle.std.proofs.Common.{sym, ◌∙◌, ap, arith}
use Rattle.brc_run.specs.Tallies.{is_open, left_at}
use Rattle.brc_run.proofs.Rows.{one_left, none_left}
use Rattle.brc_run.proofs.tally.add_open.Goals.{then-is_open+in_ok-push, else-is_open}
use Rattle.brc_run.proofs.tally.add_open.Goals as goal

pub loop-row-preserved : goal.loop-row-preserved
loop-row-preserved g c = record {
  first = omega (arith, c.loop-row.invariant.first);
  passed = elim c.if-is_open.branch [
    | then-is_open+in_ok-push w ↦
        w.left-is ∙ w.in_ok-push.ensures.ok
        ∙ one_left (is_open c.args.end.now.state) (left_at c.args.end.now.state) c.args.first c.loop-row.row
        c.args.left.now _ c.loop-row.invariant.first (sym c.is_open.ensures ∙ w.if-is_open.true) c.loop-row.invariant.passed _
        (ap (λ k. record { row = c.loop-row.row; kind = k }) w.kind-kind.ensures)
    | else-is_open w ↦
        w.left-is ∙ c.loop-row.invariant.passed
        ∙ none_left (is_open c.args.end.now.state) (left_at c.args.end.now.state) c.args.first c.loop-row.row
        c.args.left.now c.loop-row.invariant.first (sym c.is_open.ensures ∙ w.if-is_open.false)
  ];
}
