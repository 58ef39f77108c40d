use Rattle.std.proofs.Common.{List, [], ◌∙◌, subst, append-nil}
use Rattle.brc_model.specs.declared.duty.Duty.{Duty}
use Rattle.brc_table.specs.Views.{turned}
use Rattle.brc_heap.specs.Calls.{zero_left}
use Rattle.brc_heap.specs.Steps.{HasStepped}
use Rattle.brc_heap.proofs.Leaving.{turned_works}
use Rattle.brc_heap.proofs.Stepping.{stepped_leaves}
use Rattle.brc_heap.proofs.Tries.{zero_piece, zero_chained}
use Rattle.brc_heap.proofs.heap.Heap.zero_step.Given as given
use Rattle.brc_heap.proofs.heap.Heap.zero_step.Goals.{After-decide}
use Rattle.brc_heap.proofs.heap.Heap.zero_step.Goals as goal

stepped : (g : given.Over) (c : After-decide g)
    → HasStepped (turned c.args.hand.now.view c.args.row) (zero_left c.args.row c.decide.result) c.decide.new.hand.view
stepped g c =
    subst (λ (ds : List Duty). HasStepped (turned c.args.hand.now.view c.args.row) ds c.decide.new.hand.view)
    (append-nil (zero_left c.args.row c.decide.result)) (c.decide.ensures.left [] c.requires.duty)

pub returns-clause-events : goal.returns-clause-events
returns-clause-events g c =
    let (word, answer, view) = c.decide.ensures.events in
    (word, answer, view ∙ zero_chained _ c.args.row word _ answer c.requires.duty)

pub returns-clause-left : goal.returns-clause-left
returns-clause-left g c =
    stepped_leaves (turned_works c.args.row c.args.hand.now.view)
    (stepped g (goal.at.returns-clause-left g c).After-decide) (zero_piece c.args.row c.decide.result)

pub returns-clause-references : goal.returns-clause-references
returns-clause-references g c = (stepped g (goal.at.returns-clause-references g c).After-decide).keeps.references
