use Rattle.std.proofs.Common.{◌∙◌, ap}
use Rattle.brc_model.specs.Layout.{root_row}
use Rattle.brc_model.specs.declared.duty.Reason.TheVariants.{Own}
use Rattle.brc_heap.specs.Calls.{shared_left}
use Rattle.brc_heap_tests.proofs.Readiness.{both_leave}
use Rattle.brc_heap_tests.proofs.calls.release_shared.Goals as goal

pub loop-preserved : goal.loop-preserved
loop-preserved c =
    let next = c.try_release_shared-ended-in-Again.ensures in (
      next.table,
      both_leave c.loop.invariant.1
          (next.left Own ((c.loop.invariant.1).left_is ∙ ap (shared_left root_row Own) c.in-Again.is)),
      next.references ∙ c.loop.invariant.2,
    )
