use Rattle.brc_table.proofs.Kept.{kept_on, kept_itself}
use Rattle.std.proofs.Common.{List, [], ◌∷◌, ◌++◌, sym, ◌∙◌, subst}
use Rattle.brc_model.specs.declared.duty.Duty.{Duty}
use Rattle.brc_model.specs.declared.duty.Duty.TheVariants.{SettleCell}
use Rattle.brc_model.specs.Duties.{cells_from}
use Rattle.brc_free.specs.Works.{HasWorked, cells_left}
use Rattle.brc_free.proofs.FirstDuties.{settle_cell_first}
use Rattle.brc_free.proofs.Working.{worked_first, worked_call}
use Rattle.brc_free.proofs.SettleDuties.{cells_first, cell_next}
use Rattle.brc_free.proofs.finaliser.Finaliser.empty_cells.Goals as goal

pub loop-cell-init : goal.loop-cell-init
loop-cell-init g c =
    let v = c.args.hand.now.view in (
      kept_itself _,
      λ rest is. worked_first v (cells_from c.args.row 0 c.args.cells ++ rest)
          (is ∙ sym (cells_first v.actor.head c.args.row 0 c.args.cells rest)),
    )

pub loop-cell-preserved : goal.loop-cell-preserved
loop-cell-preserved g c =
    let v = c.args.hand.now.view in
    let u = c.loop-cell.hand.view in
    let w = c.empty_cell.new.hand.view in
    let kept = c.loop-cell.invariant in
    let emptied = c.empty_cell.ensures in (
      kept_on kept.0 emptied.kept,
      λ rest is.
          worked_call v u w [] (SettleCell c.args.row c.loop-cell.cell c.args.cells ∷ rest) cells_left
          (subst (λ (ds : List Duty). HasWorked v [] ds u)
          (cell_next c.args.row c.loop-cell.cell c.args.cells rest c.loop-cell-test.true) (kept.1 rest is))
          (settle_cell_first u.actor.head c.args.row c.loop-cell.cell c.args.cells rest) emptied.work,
    )
