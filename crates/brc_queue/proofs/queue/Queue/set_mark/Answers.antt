use Rattle.std.proofs.Common.{◌∷◌, sym, subst}
use Rattle.brc_model.specs.declared.duty.Duty.TheVariants.{Look}
use Rattle.brc_table.specs.Turns.{turned_to}
use Rattle.brc_heap.specs.Steps.{HasStepped}
use Rattle.brc_heap.proofs.MarkTries.{mark_stepped}
use Rattle.brc_queue.proofs.queue.Queue.set_mark.Goals as goal

pub returns-clause-left : goal.returns-clause-left
returns-clause-left g c = λ rest next.
    let v = turned_to c.args.work c.args.hand.now.view c.args.row in
    subst (HasStepped v (Look c.args.row ∷ rest)) (sym c.go_on.ensures.view) (mark_stepped next c.go_on.result)
