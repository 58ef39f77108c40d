use Rattle.std.proofs.Common.{ap, ◌∙◌}
use Rattle.brc_table.specs.Views.{view_after}
use Rattle.brc_heap.proofs.Tries.{answered, local_lowered, local_stays}
use Rattle.brc_heap.proofs.heap.Heap.lower.Goals as goal

pub returns-in-Kept-clause-left : goal.returns-in-Kept-clause-left
returns-in-Kept-clause-left g c = λ v holding rest next loaded.
    local_lowered v _ _ c.args.row c.args.word holding rest _
    (answered c.args.hand.now.view c.args.word c.thread.ensures c.is_running.ensures c.local_release-release.ensures)
    c.in-Kept.is
    (c.step.ensures.view ∙ ap (view_after c.args.hand.now.view) c.step.ensures.overwrites) next loaded

pub returns-in-Skip-clause-left : goal.returns-in-Skip-clause-left
returns-in-Skip-clause-left g c = λ v holding rest next loaded.
    local_stays v _ c.args.row c.args.word holding rest _
    (answered c.args.hand.now.view c.args.word c.thread.ensures c.is_running.ensures c.local_release-release.ensures)
    c.in-Skip.is next loaded
