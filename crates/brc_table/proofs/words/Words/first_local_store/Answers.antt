use Rattle.std.proofs.Common.{◌<◌, refl, subst}
use Rattle.brc_model.specs.declared.layout.Layout.{Layout}
use Rattle.brc_model.specs.Layout.{row_count}
use Rattle.brc_model.specs.Duties.{resources_of}
use Rattle.brc_table.specs.Hands.{plan_of}
use Rattle.brc_table.proofs.Duties.{own_next, own_due, owns_first_there}
use Rattle.brc_table.proofs.Silent.{filled_becomes, filled_alive}
use Rattle.brc_table.proofs.FieldLists.{taken_once}
use Rattle.brc_table.proofs.words.Words.first_local_store.Goals as goal

pub step_from-requires-clause-begins : goal.step_from-requires-clause-begins
step_from-requires-clause-begins g c =
    let v = c.args.hand.now.view in
    filled_becomes c.duties_are_kept.ensures c.needed_fields_are_unlocked.ensures (plan_of c.args.self.now) c.args.row v
    v.actor.agenda refl c.requires.duty c.requires.alive
    (taken_once c.args.hand.now c.args.row (resources_of c.requires.field.word) c.fields_are_taken.ensures
    c.requires.field.first)

pub step_from-requires-clause-there : goal.step_from-requires-clause-there
step_from-requires-clause-there g c =
    subst (λ (l : Layout). c.args.row < row_count l) c.requires.table.1
    (owns_first_there c.args.hand.now.view c.args.row c.args.hand.now.view.actor.agenda c.rows_are_there.ensures refl
    c.requires.duty)

pub step_from-requires-clause-due : goal.step_from-requires-clause-due
step_from-requires-clause-due g c =
    let v = c.args.hand.now.view in
    let field = c.requires.field in (
      resources_of field.word,
      field.first,
      own_due v c.args.row field.word v.actor.agenda refl c.requires.duty field.some field.seen,
    )

pub step_from-requires-clause-alive : goal.step_from-requires-clause-alive
step_from-requires-clause-alive g c =
    let v = c.args.hand.now.view in filled_alive v c.args.row v.actor.agenda c.requires.duty c.requires.alive

pub step_from-requires-clause-next : goal.step_from-requires-clause-next
step_from-requires-clause-next g c =
    let v = c.args.hand.now.view in own_next v c.args.row v.actor.agenda refl c.requires.duty
