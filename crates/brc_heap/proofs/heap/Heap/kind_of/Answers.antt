use Rattle.std.proofs.Common.{[], sym, subst}
use Rattle.brc_heap.specs.Calls.{Leaves}
use Rattle.brc_heap.proofs.Asking.{ask_leaves}
use Rattle.brc_heap.proofs.heap.Heap.kind_of.Goals as goal

pub returns-clause-left : goal.returns-clause-left
returns-clause-left g c =
    subst (Leaves c.args.row [] c.args.hand.now.view) (sym c.kind_load.ensures.view)
    (ask_leaves c.args.hand.now.view c.args.row c.kind_load.result c.requires.idle)
