use Rattle.brc_check.proofs.Passing.{none-more, none-left}
use Rattle.brc_check.proofs.finding.path_to.Goals as goal

pub loop-function-preserved : goal.loop-function-preserved
loop-function-preserved c =
    none-more c.as_slice-function-items.result.now c.args.refused.now c.loop-function.function-index
    c.function-item.result c.loop-function.invariant c.loop-function-test.true c.function-item.is
    (rw c.in_default.is at c.in_ok-path.ensures)

pub unreachable-requires : goal.unreachable-requires
unreachable-requires c =
    none-left c.as_slice-function-items.result.now c.args.module.now.functions c.args.refused.now
    c.loop-function.function-index c.as_slice-function-items.ensures c.loop-function-test.false
    c.loop-function.invariant c.requires.refused
