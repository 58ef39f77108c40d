use Rattle.std.proofs.Common.{◌<◌, refl, subst}
use Rattle.brc_model.specs.declared.layout.Layout.{Layout}
use Rattle.brc_model.specs.Layout.{row_count}
use Rattle.brc_table.specs.Hands.{plan_of}
use Rattle.brc_table.proofs.DyingDuties.{gate_close_next, gate_close_there, close_due}
use Rattle.brc_table.proofs.Silent.{emptied_becomes, emptied_alive}
use Rattle.brc_table.proofs.FieldLists.{taken_once}
use Rattle.brc_table.proofs.words.Words.gate_close.Goals as goal

pub step_from-requires-clause-begins : goal.step_from-requires-clause-begins
step_from-requires-clause-begins g c =
    let v = c.args.hand.now.view in
    emptied_becomes c.duties_are_kept.ensures c.needed_fields_are_unlocked.ensures
    (plan_of c.args.self.now) c.args.row v
    v.actor.agenda refl c.requires.duty c.requires.alive
    (taken_once c.args.hand.now c.args.row 0 c.fields_are_taken.ensures c.requires.field)

pub step_from-requires-clause-there : goal.step_from-requires-clause-there
step_from-requires-clause-there g c =
    let v = c.args.hand.now.view in
    subst (λ (l : Layout). c.args.row < row_count l) c.requires.table.1
    (gate_close_there v c.args.row v.actor.agenda c.rows_are_there.ensures refl c.requires.duty)

pub step_from-requires-clause-alive : goal.step_from-requires-clause-alive
step_from-requires-clause-alive g c =
    let v = c.args.hand.now.view in emptied_alive v c.args.row v.actor.agenda c.requires.duty c.requires.alive

pub step_from-requires-clause-next : goal.step_from-requires-clause-next
step_from-requires-clause-next g c =
    let v = c.args.hand.now.view in gate_close_next v c.args.row v.actor.agenda refl c.requires.duty

pub step_from-requires-clause-due : goal.step_from-requires-clause-due
step_from-requires-clause-due g c =
    let v = c.args.hand.now.view in (0, c.requires.field, close_due v c.args.row v.actor.agenda refl c.requires.duty)
