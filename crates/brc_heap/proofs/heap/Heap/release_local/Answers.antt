use Rattle.std.proofs.Common.{List, [], refl, sym, ap, ◌∙◌, subst, append-nil}
use Rattle.brc_model.specs.declared.duty.Duty.{Duty}
use Rattle.brc_model.specs.declared.duty.Holding.TheVariants.{AsCaller}
use Rattle.brc_table.specs.declared.view.View.{View}
use Rattle.brc_table.specs.Views.{releasing}
use Rattle.brc_heap.specs.Calls.{local_left, local_answer}
use Rattle.brc_heap.specs.Steps.{HasStepped}
use Rattle.brc_heap.proofs.OwnRows.{share_unowned}
use Rattle.brc_heap.proofs.Tries.{local_piece, lowered_here, releasing_works}
use Rattle.brc_heap.proofs.Stepping.{stepped_leaves}
use Rattle.brc_heap.proofs.heap.Heap.release_local.Given as given
use Rattle.brc_heap.proofs.heap.Heap.release_local.Goals.{After-lower}
use Rattle.brc_heap.proofs.heap.Heap.release_local.Goals as goal

-- What the release leaves, behind its load.
stepped : (g : given.Over) (c : After-lower g)
    → HasStepped (releasing c.args.hand.now.view c.args.row) (local_left c.args.row c.lower.result)
    c.lower.new.hand.view
stepped g c =
    subst (λ (ds : List Duty). HasStepped (releasing c.args.hand.now.view c.args.row) ds c.lower.new.hand.view)
    (append-nil (local_left c.args.row c.lower.result))
    (c.lower.ensures.left _ AsCaller [] refl c.release_load-word.ensures.view)

pub lower-requires-clause-duty : goal.lower-requires-clause-duty
lower-requires-clause-duty g c = (
  releasing c.args.hand.now.view c.args.row,
  record { holding = AsCaller; rest = []; next = refl; is = c.release_load-word.ensures.view },
)

pub returns-clause-events : goal.returns-clause-events
returns-clause-events g c = (
  c.release_load-word.result,
  c.release_load-word.ensures.owner,
  c.lower.ensures.answer
      ∙ ap (λ (v : View). local_answer v c.release_load-word.result) c.release_load-word.ensures.view,
  c.lower.ensures.view
      ∙ lowered_here c.args.hand.now.view c.args.row c.release_load-word.result c.release_load-word.ensures.view,
)

pub returns-clause-left : goal.returns-clause-left
returns-clause-left g c =
    stepped_leaves (releasing_works c.args.hand.now.view c.args.row c.requires.idle)
    (stepped g (goal.at.returns-clause-left g c).After-lower) (local_piece c.args.row c.lower.result)

pub returns-clause-references : goal.returns-clause-references
returns-clause-references g c = (stepped g (goal.at.returns-clause-references g c).After-lower).keeps.references

pub returns-clause-own : goal.returns-clause-own
returns-clause-own g c = λ shares mine.
    let (word, owner, answer, view) = returns-clause-events g c in
    let none = share_unowned c.args.hand.now.view c.args.row word c.requires.running.0 owner mine (sym shares ∙ answer)
    in (word, none, view)
