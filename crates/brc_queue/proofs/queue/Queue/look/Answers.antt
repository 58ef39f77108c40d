use Rattle.std.proofs.Common.{List, [], subst, append-nil}
use Rattle.brc_model.specs.declared.duty.Duty.{Duty}
use Rattle.brc_table.specs.Views.{turned}
use Rattle.brc_heap.specs.Marks.{look_left}
use Rattle.brc_heap.specs.Steps.{HasStepped}
use Rattle.brc_heap.proofs.Leaving.{turned_works}
use Rattle.brc_heap.proofs.Stepping.{stepped_leaves}
use Rattle.brc_heap.proofs.MarkTries.{look_piece}
use Rattle.brc_queue.proofs.queue.Queue.look.Goals as goal

pub returns-clause-left : goal.returns-clause-left
returns-clause-left g c =
    stepped_leaves (turned_works c.args.row c.args.hand.now.view)
    (subst (λ (ds : List Duty). HasStepped (turned c.args.hand.now.view c.args.row) ds c.check_owner.new.hand.view)
    (append-nil (look_left c.args.row c.check_owner.result)) (c.check_owner.ensures.left [] c.requires.duty))
    (look_piece c.args.row c.check_owner.result)

pub returns-clause-references : goal.returns-clause-references
returns-clause-references g c = (c.check_owner.ensures.left [] c.requires.duty).keeps.references
