use Rattle.std.proofs.Common.{[], sym, ap, ◌∙◌, subst}
use Rattle.brc_table.specs.declared.view.View.{View}
use Rattle.brc_heap.specs.Calls.{Leaves, RetainsOwn}
use Rattle.brc_heap.proofs.OwnRows.{retain_owns}
use Rattle.brc_heap.proofs.Retaining.{retain_leaves, retained_head, retained_references}
use Rattle.brc_heap.proofs.heap.Heap.retain.Goals as goal

pub returns-clause-left : goal.returns-clause-left
returns-clause-left g c =
    let (word, found, owner, view) = c.retain_steps.ensures.events in
    subst (Leaves c.args.row [] c.args.hand.now.view) (sym view)
    (retain_leaves c.args.hand.now.view c.args.row word found c.requires.idle)

pub returns-clause-head : goal.returns-clause-head
returns-clause-head g c =
    let (word, found, owner, view) = c.retain_steps.ensures.events in
    ap (λ (v : View). v.actor.head) view ∙ retained_head c.args.hand.now.view c.args.row word found

pub returns-clause-references : goal.returns-clause-references
returns-clause-references g c =
    let (word, found, owner, view) = c.retain_steps.ensures.events in
    ap (λ (v : View). v.references) view ∙ retained_references c.args.hand.now.view c.args.row word found

pub returns-clause-own : goal.returns-clause-own
returns-clause-own g c = λ mine.
    let (word, found, owner, view) = c.retain_steps.ensures.events in
    let v = c.args.hand.now.view in (
      word,
      found,
      view,
      subst (RetainsOwn c.args.row word found v) (sym view)
          (retain_owns v c.args.row word found c.requires.running.0 owner mine),
    )
