use Rattle.std.proofs.Common.{[], ◌∷◌}
use Rattle.brc_model.specs.declared.duty.Duty.TheVariants.{Look}
use Rattle.brc_heap.proofs.Leaving.{leaves_then}
use Rattle.brc_heap.specs.Marks.{look_left}
use Rattle.brc_queue.proofs.queue.Queue.post.Goals as goal

pub returns-clause-left : goal.returns-clause-left
returns-clause-left g c =
    leaves_then c.args.row (Look c.args.row ∷ []) (look_left c.args.row c.look.result) c.args.hand.now.view
    c.mark.new.hand.view c.look.new.hand.view c.mark.ensures.left c.look.ensures.left
