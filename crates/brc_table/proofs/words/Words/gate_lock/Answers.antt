use Rattle.std.proofs.Common.{◌<◌, ◌∙◌, ap, subst}
use Rattle.brc_word.specs.Words.{locked_word}
use Rattle.brc_model.specs.declared.layout.Layout.{Layout}
use Rattle.brc_model.specs.Layout.{row_count}
use Rattle.brc_table.specs.Hands.{HandState}
use Rattle.brc_table.proofs.Duties.{held_there}
use Rattle.brc_table.proofs.words.Words.gate_lock.Goals as goal

pub lock_gate-requires-clause-there : goal.lock_gate-requires-clause-there
lock_gate-requires-clause-there g c =
    subst (λ (l : Layout). c.args.row < row_count l) c.requires.table.1
    (held_there c.args.hand.now.view c.args.row
    c.rows_are_there.ensures c.requires.held)

pub lock_gate-requires-clause-gate : goal.lock_gate-requires-clause-gate
lock_gate-requires-clause-gate g c =
    c.locked-gate.ensures.word
    ∙ ap locked_word (c.hand.invariant.1 ∙ ap (λ (h : HandState). h.view.thread) c.hand.view_is)
