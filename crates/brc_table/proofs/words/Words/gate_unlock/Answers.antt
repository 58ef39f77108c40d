use Rattle.std.proofs.Common.{◌<◌, refl, subst}
use Rattle.brc_model.specs.declared.layout.Layout.{Layout}
use Rattle.brc_model.specs.Layout.{row_count}
use Rattle.brc_table.specs.Hands.{plan_of}
use Rattle.brc_table.proofs.Duties.{runs_on, held_there}
use Rattle.brc_table.proofs.Locking.{unlocking_becomes}
use Rattle.brc_table.proofs.words.Words.gate_unlock.Goals as goal

pub step_from-requires-clause-begins : goal.step_from-requires-clause-begins
step_from-requires-clause-begins g c =
    unlocking_becomes c.work_is_put_aside.ensures c.unlocks_begin.ensures c.immortals_are_free.ensures
    (plan_of c.args.self.now) c.args.hand.now.view c.args.row c.requires.running c.requires.idle c.requires.held
    c.requires.locked c.requires.retains

pub step_from-requires-clause-there : goal.step_from-requires-clause-there
step_from-requires-clause-there g c =
    subst (λ (l : Layout). c.args.row < row_count l) c.requires.table.1
    (held_there c.args.hand.now.view c.args.row
    c.rows_are_there.ensures c.requires.held)

pub step_from-requires-clause-alive : goal.step_from-requires-clause-alive
step_from-requires-clause-alive g c = runs_on c.args.hand.now.view c.requires.running.0

pub step_from-requires-clause-next : goal.step_from-requires-clause-next
step_from-requires-clause-next g c = refl

pub step_from-requires-clause-due : goal.step_from-requires-clause-due
step_from-requires-clause-due g c = (c.args.hand.now.view.in_field, c.requires.field, refl)
