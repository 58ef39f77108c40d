use Rattle.std.proofs.Common.{sym, ap, ◌∙◌, subst}
use Rattle.brc_table.specs.Views.{view_after}
use Rattle.brc_heap.specs.Steps.{HasStepped}
use Rattle.brc_heap.proofs.Stepping.{died}
use Rattle.brc_heap.proofs.heap.Heap.chain.Goals as goal

pub returns-clause-stepped : goal.returns-clause-stepped
returns-clause-stepped g c = λ v rest at.
    subst (HasStepped v rest) (sym (c.step.ensures.view ∙ ap (view_after c.args.hand.now.view)
    c.step.ensures.overwrites))
    (died at c.rows_are_there.ensures)
