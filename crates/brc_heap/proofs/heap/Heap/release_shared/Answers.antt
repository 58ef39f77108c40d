use Rattle.std.proofs.Common.{ap, ◌∙◌}
use Rattle.brc_table.specs.declared.view.View.{View}
use Rattle.brc_table.specs.Views.{view_after}
use Rattle.brc_heap.proofs.Tries.{shared_dying, shared_tried}
use Rattle.brc_heap.proofs.heap.Heap.release_shared.Goals as goal

pub returns-in-Dying-clause-left : goal.returns-in-Dying-clause-left
returns-in-Dying-clause-left g c = λ r rest.
    shared_dying c.go_on-word.result c.step-found.result c.shared_release-release.result
    c.shared_release-release.ensures
    (c.step-found.ensures.view ∙ ap (λ (v : View). view_after v c.step-found.result) c.go_on-word.ensures.view)
    c.in-Dying.is (c.chain.ensures.stepped _ rest)

pub returns-in_default-clause-left : goal.returns-in_default-clause-left
returns-in_default-clause-left g c = λ r rest.
    shared_tried c.go_on-word.result c.step-found.result c.shared_release-release.result
    c.shared_release-release.ensures
    (c.step-found.ensures.view ∙ ap (λ (v : View). view_after v c.step-found.result) c.go_on-word.ensures.view)
    c.in_default.not-Dying
