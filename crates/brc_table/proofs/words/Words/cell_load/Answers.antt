use Rattle.std.proofs.Common.{◌<◌, refl, subst}
use Rattle.brc_model.specs.declared.layout.Layout.{Layout}
use Rattle.brc_model.specs.Layout.{row_count}
use Rattle.brc_table.specs.Hands.{plan_of}
use Rattle.brc_table.proofs.Locking.{loading_becomes, known_low}
use Rattle.brc_table.proofs.CellGuards.{change_there, load_changes}
use Rattle.brc_table.proofs.Duties.{runs_on}
use Rattle.brc_table.proofs.words.Words.cell_load.Goals as goal

pub step_from-requires-clause-begins : goal.step_from-requires-clause-begins
step_from-requires-clause-begins g c =
    loading_becomes c.work_is_put_aside.ensures c.cell_loads_begin.ensures c.immortals_are_free.ensures
    (plan_of c.args.self.now) c.args.hand.now.view c.args.row c.args.cell c.requires.running c.requires.idle
    c.requires.loads c.requires.knows

pub step_from-requires-clause-there : goal.step_from-requires-clause-there
step_from-requires-clause-there g c = (
  subst (λ (l : Layout). c.args.row < row_count l) c.requires.table.1
      (change_there c.args.hand.now.view c.args.row c.rows_are_there.ensures
      (load_changes c.args.hand.now.view c.args.row c.requires.loads)),
  subst (λ (l : Layout). c.args.cell < l.cells) c.requires.table.1
      (known_low c.args.hand.now.view c.args.row c.args.cell c.rows_are_there.ensures c.requires.knows),
)

pub step_from-requires-clause-alive : goal.step_from-requires-clause-alive
step_from-requires-clause-alive g c = runs_on c.args.hand.now.view c.requires.running.0

pub step_from-requires-clause-next : goal.step_from-requires-clause-next
step_from-requires-clause-next g c = refl
