use Rattle.std.proofs.Common.{sym, subst}
use Rattle.brc_model.specs.declared.layout.Layout.{Layout}
use Rattle.brc_model.specs.Counting.{IsPlainLayout}
use Rattle.brc_model.specs.Duties.{address_of}
use Rattle.brc_table.specs.Hands.{plan_of}
use Rattle.brc_table.specs.Places.{HasWord}
use Rattle.brc_table.proofs.Changing.{itself_becomes}
use Rattle.brc_table.proofs.NextDuty.{index_small, next_there, word_there}
use Rattle.brc_table.proofs.words.Words.step.Goals as goal

pub step_from-requires-clause-begins : goal.step_from-requires-clause-begins
step_from-requires-clause-begins g c = itself_becomes (plan_of c.args.self.now) c.args.hand.now.view

pub step_from-requires-clause-there : goal.step_from-requires-clause-there
step_from-requires-clause-there g c =
    let v = c.args.hand.now.view in
    let d = c.args.duty in
    subst (λ (l : Layout). HasWord l (address_of l v.thread v.actor.head d)) c.requires.table.1
    (word_there v d (subst IsPlainLayout (sym c.requires.table.1) c.layout_is_plain.ensures) c.rows_are_there.ensures
    c.requires.known c.requires.cell c.requires.chain c.requires.row
    (next_there v d c.requires.next c.requires.known c.rows_are_there.ensures))

pub step_from-requires-clause-indexed : goal.step_from-requires-clause-indexed
step_from-requires-clause-indexed g c =
    let v = c.args.hand.now.view in
    index_small v.layout v.thread v.actor.used c.args.duty
    (subst IsPlainLayout (sym c.requires.table.1) c.layout_is_plain.ensures) c.rows_are_there.ensures.few
    c.rows_are_there.ensures.used
    c.requires.row
