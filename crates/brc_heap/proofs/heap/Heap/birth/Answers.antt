use Rattle.std.proofs.Common.{sym, subst}
use Rattle.brc_model.specs.Layout.{IsCounted}
use Rattle.brc_heap.specs.Calls.{HasBorn}
use Rattle.brc_heap.proofs.Bearing.{has_born}
use Rattle.brc_heap.proofs.OwnRows.{next_is_counted}
use Rattle.brc_heap.proofs.heap.Heap.birth.Goals as goal

pub returns-clause-born : goal.returns-clause-born
returns-clause-born g c =
    let v = c.args.hand.now.view in
    subst (HasBorn v) (sym c.birth_steps.ensures.view) (has_born v c.kind_word-word.result)

pub returns-clause-counted : goal.returns-clause-counted
returns-clause-counted g c =
    let v = c.args.hand.now.view in
    subst (IsCounted v.layout) (sym c.birth_steps.ensures.row)
    (next_is_counted v c.rows_are_there.ensures c.requires.room)
