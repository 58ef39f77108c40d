use Rattle.std.proofs.Common.{arith}
use Rattle.brc_model.specs.Layout.{row_count}
use Rattle.std.proofs.Common.{ap}
use Rattle.brc_table.specs.Hands.{plan_of}
use Rattle.brc_table.proofs.DyingDuties.{settling_becomes, settles_next, settles_alive}
use Rattle.brc_table.proofs.words.Words.gate_load.Goals as goal

pub step_from-requires-clause-begins : goal.step_from-requires-clause-begins
step_from-requires-clause-begins g c =
    settling_becomes c.settles_begin.ensures (plan_of c.args.self.now) c.args.hand.now.view c.requires.settles
    c.requires.chain

pub step_from-requires-clause-alive : goal.step_from-requires-clause-alive
step_from-requires-clause-alive g c =
    settles_alive c.args.hand.now.view c.args.hand.now.view.actor.agenda c.requires.settles

pub step_from-requires-clause-there : goal.step_from-requires-clause-there
step_from-requires-clause-there g c =
    let rows = ap row_count c.requires.table.1 in omega (arith, rows, c.rows_are_there.ensures.head, c.requires.chain)

pub step_from-requires-clause-next : goal.step_from-requires-clause-next
step_from-requires-clause-next g c =
    settles_next c.args.hand.now.view c.args.hand.now.view.actor.agenda c.requires.settles
