-- The first arguments are passed already.
use Rattle.std.proofs.Common.{◌∙◌}
use Rattle.brc_machine.proofs.Arguments.{passed_more, passed_past, passed_all}
use Rattle.brc_machine.proofs.variables.passed_variables.Goals as goal
use Rattle.brc_machine.proofs.variables.passed_variables.Goals.{then-number-arguments, else-number-arguments}

pub loop-number-preserved : goal.loop-number-preserved
loop-number-preserved c =
    elim c.if-number-arguments.branch [
      | then-number-arguments w ↦
          w.passed-is
          ∙ passed_more c.loop-number.passed c.args.variables.now c.args.arguments.now c.loop-number.number _ _
          c.loop-number.invariant w.if-number-arguments.true w.row_of.ensures
      | else-number-arguments w ↦
          w.passed-is
          ∙ passed_past c.loop-number.passed c.args.variables.now c.args.arguments.now c.loop-number.number
          c.loop-number.invariant w.if-number-arguments.false
    ]

pub returns : goal.returns
returns c =
    passed_all c.loop-number.passed c.args.variables.now c.args.arguments.now c.loop-number.number
    c.loop-number.invariant c.loop-number-test.false
