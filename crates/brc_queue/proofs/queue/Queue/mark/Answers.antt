use Rattle.std.proofs.Common.{[], refl}
use Rattle.std.proofs.lemmas.Bool.{eq-eqb}
use Rattle.brc_heap.proofs.Leaving.{turned_works}
use Rattle.brc_heap.proofs.Stepping.{stepped_leaves}
use Rattle.brc_queue.proofs.queue.Queue.mark.Goals as goal

pub returns-clause-left : goal.returns-clause-left
returns-clause-left g c =
    stepped_leaves (turned_works c.args.row c.args.hand.now.view) (c.set_mark.ensures.left [] c.requires.duty)
    (eq-eqb c.args.row c.args.row refl, refl, refl)

pub returns-clause-references : goal.returns-clause-references
returns-clause-references g c = (c.set_mark.ensures.left [] c.requires.duty).keeps.references
