use Rattle.std.proofs.Common.{◌∙◌}
use Rattle.brc_work.proofs.Entering.{passed_more, passed_past, passed_all}
use Rattle.brc_work.proofs.variables.passed.Goals as goal
use Rattle.brc_work.proofs.variables.passed.Goals.{then-number-arguments, else-number-arguments}

pub loop-number-preserved : goal.loop-number-preserved
loop-number-preserved c =
    elim c.if-number-arguments.branch [
      | then-number-arguments w ↦
          w.inner-is
          ∙ passed_more c.args.rows.now c.loop-number.inner c.args.arguments.now c.loop-number.number _
          w.named_by.result c.loop-number.invariant w.if-number-arguments.true w.named_by.ensures
      | else-number-arguments w ↦
          w.inner-is
          ∙ passed_past c.args.rows.now c.loop-number.inner c.args.arguments.now c.loop-number.number
          c.loop-number.invariant w.if-number-arguments.false
    ]

pub returns : goal.returns
returns c =
    passed_all c.args.rows.now c.loop-number.inner c.args.arguments.now c.loop-number.number c.loop-number.invariant
    c.loop-number-test.false
