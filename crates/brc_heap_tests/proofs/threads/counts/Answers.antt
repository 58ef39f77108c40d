use Rattle.brc_heap_tests.proofs.Readiness.{ready_at_birth}
use Rattle.brc_heap_tests.proofs.threads.counts.Goals as goal

pub loop-kept-2-init : goal.loop-kept-2-init
loop-kept-2-init c =
    ready_at_birth c.loop-kept.invariant c.birth-row.ensures.row c.birth-row.ensures.table c.birth-row.ensures.born
