use Rattle.brc_heap.proofs.Tries.{zero_dying, zero_merges}
use Rattle.brc_heap.proofs.heap.Heap.decide.Goals as goal

pub returns-in-Dying-clause-left : goal.returns-in-Dying-clause-left
returns-in-Dying-clause-left g c = λ rest.
    zero_dying c.go_on-word.result c.zero_step-step.result c.zero_step-step.ensures c.go_on-word.ensures.view
    c.in-Dying.is (c.chain.ensures.stepped _ rest)

pub returns-in-Merge-clause-left : goal.returns-in-Merge-clause-left
returns-in-Merge-clause-left g c = λ rest.
    zero_merges c.go_on-word.result c.zero_step-step.result c.zero_step-step.ensures c.go_on-word.ensures.view
    c.in-Merge.is
