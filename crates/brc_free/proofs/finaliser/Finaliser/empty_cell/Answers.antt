use Rattle.std.proofs.Common.{◌≡◌, ◌≢◌, ℕ, ◌+◌, ◌-◌, List, [], ◌∷◌, ◌++◌, refl, sym, ap, ◌∙◌, subst, arith}
use Rattle.std.proofs.lemmas.Bool.{eq-eqb}
use Rattle.brc_model.specs.declared.duty.Holding.TheVariants.{InFlight}
use Rattle.brc_model.specs.declared.duty.Duty.{Duty}
use Rattle.brc_model.specs.declared.duty.Duty.TheVariants.{SettleCell, ReleaseLoad}
use Rattle.brc_model.specs.Duties.{cells_from, release_found}
use Rattle.brc_table.specs.declared.view.View.{View}
use Rattle.brc_table.specs.Accesses.{IsNext}
use Rattle.brc_table.specs.Views.{NamesFewCells, RowsAreThere, view_after}
use Rattle.brc_free.specs.Works.{HasWorked, CellNext, behind, cells_left}
use Rattle.brc_free.proofs.FirstDuties.{settle_cell_first}
use Rattle.brc_heap.proofs.Stepping.{plain_first, finalising_unlocked}
use Rattle.brc_free.proofs.Working.{worked_first, worked_call}
use Rattle.brc_free.proofs.SettleDuties.{cell_emptied, item_found}
use Rattle.brc_free.proofs.finaliser.Finaliser.empty_cell.Goals as goal

-- The cell is empty. What was there is given up next, and then come the cells that are left.
emptied : (v w : View) (row cell found : ℕ) (duty : CellNext row cell v.actor.agenda) → RowsAreThere v → w
    ≡ view_after v found
    → HasWorked v [] (release_found found ++ (cells_from row (cell + 1) duty.count ++ duty.rest)) w
emptied v w row cell found duty there is =
    let begins = worked_first v (SettleCell row cell duty.count ∷ duty.rest)
    (duty.next ∙ sym (settle_cell_first v.actor.head row cell duty.count duty.rest)) in
    cell_emptied v v w [] row cell duty.count found duty.rest begins is
    (finalising_unlocked v (SettleCell row cell duty.count) duty.rest row there duty.next (eq-eqb row row refl))

-- There was an item, which is given up next.
item_next : (v w : View) (row cell found : ℕ) (duty : CellNext row cell v.actor.agenda) → RowsAreThere v → w
    ≡ view_after v found
    → found ≢ 0
    → HasWorked v [] (ReleaseLoad (found - 1) InFlight ∷ (cells_from row (cell + 1) duty.count ++ duty.rest)) w
item_next v w row cell found duty there is some =
    subst (λ (ds : List Duty). HasWorked v [] (ds ++ (cells_from row (cell + 1) duty.count ++ duty.rest)) w)
    (item_found found some) (emptied v w row cell found duty there is)

pub step-item-requires-clause-next : goal.step-item-requires-clause-next
step-item-requires-clause-next g c =
    subst (IsNext (SettleCell c.args.row c.args.cell c.args.cells)) (sym c.requires.duty.next) refl

pub step-item-requires-clause-cell : goal.step-item-requires-clause-cell
step-item-requires-clause-cell g c =
    let few =
    subst (NamesFewCells c.args.hand.now.view.layout) c.requires.duty.next c.rows_are_there.ensures.cells in
    omega (arith, c.requires.duty.low, few)

pub returns-then-item-eq0-clause-work : goal.returns-then-item-eq0-clause-work
returns-then-item-eq0-clause-work g c =
    let duty = c.requires.duty in
    let left = cells_from c.args.row (c.args.cell + 1) duty.count ++ duty.rest in
    subst (λ (ds : List Duty). HasWorked c.args.hand.now.view [] ds c.step-item.new.hand.view)
    (ap (λ (n : ℕ). release_found n ++ left) c.if-item-eq0.true ∙ sym (ap cells_left duty.next))
    (emptied _ _ c.args.row c.args.cell _ duty c.rows_are_there.ensures c.step-item.ensures.view)

pub release_item-requires-clause-duty : goal.release_item-requires-clause-duty
release_item-requires-clause-duty g c =
    let at = item_next _ _ c.args.row c.args.cell _ c.requires.duty c.rows_are_there.ensures
    c.step-item.ensures.view c.if-item-eq0.false in
    record {
      rest = cells_from c.args.row (c.args.cell + 1) c.requires.duty.count ++ c.requires.duty.rest;
      next = at.agenda ∙ plain_first _ (ReleaseLoad _ InFlight) _ refl;
    }

pub returns-clause-work : goal.returns-clause-work
returns-clause-work g c =
    subst (λ (ds : List Duty). HasWorked c.args.hand.now.view [] ds c.release_item.new.hand.view)
    (sym (ap cells_left c.requires.duty.next))
    (worked_call _ _ _ [] _ behind
    (item_next _ _ c.args.row c.args.cell _ c.requires.duty c.rows_are_there.ensures
    c.step-item.ensures.view c.if-item-eq0.false)
    (plain_first _ (ReleaseLoad _ InFlight) _ refl) c.release_item.ensures.work)
