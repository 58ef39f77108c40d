use Rattle.std.proofs.Common.{sym, subst}
use Rattle.brc_model.specs.declared.layout.Layout.{Layout}
use Rattle.brc_model.specs.Counting.{IsPlainLayout}
use Rattle.brc_model.specs.Duties.{address_of}
use Rattle.brc_table.specs.Hands.{plan_of}
use Rattle.brc_table.specs.Places.{HasWord}
use Rattle.brc_table.specs.Accesses.{row_of}
use Rattle.brc_table.proofs.GoingOn.{goes_on_becomes, goes_on_alive, goes_on_row}
use Rattle.brc_table.proofs.NextDuty.{index_small, word_there}
use Rattle.brc_table.proofs.words.Words.go_on.Goals as goal

pub step_of-requires-clause-begins : goal.step_of-requires-clause-begins
step_of-requires-clause-begins g c =
    goes_on_becomes c.work_is_put_aside.ensures c.work_is_taken_back.ensures (plan_of c.args.self.now) c.args.work
    c.args.hand.now.view (row_of c.args.duty) c.requires.may

pub step_of-requires-clause-alive : goal.step_of-requires-clause-alive
step_of-requires-clause-alive g c = goes_on_alive c.args.work c.args.hand.now.view (row_of c.args.duty) c.requires.may

pub step_of-requires-clause-there : goal.step_of-requires-clause-there
step_of-requires-clause-there g c =
    let v = c.args.hand.now.view in
    let d = c.args.duty in
    subst (λ (l : Layout). HasWord l (address_of l v.thread v.actor.head d)) c.requires.table.1
    (word_there v d (subst IsPlainLayout (sym c.requires.table.1) c.layout_is_plain.ensures) c.rows_are_there.ensures
    c.requires.known c.requires.cell c.requires.chain c.requires.row
    (goes_on_row c.args.work v d c.requires.known c.rows_are_there.ensures c.requires.next))

pub step_of-requires-clause-indexed : goal.step_of-requires-clause-indexed
step_of-requires-clause-indexed g c =
    let v = c.args.hand.now.view in
    index_small v.layout v.thread v.actor.used c.args.duty
    (subst IsPlainLayout (sym c.requires.table.1) c.layout_is_plain.ensures) c.rows_are_there.ensures.few
    c.rows_are_there.ensures.used
    c.requires.row
