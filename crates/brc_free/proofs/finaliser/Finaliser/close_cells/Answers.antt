use Rattle.std.proofs.Common.{[], refl, sym, ◌∙◌, subst}
use Rattle.brc_table.specs.Calls.{ClosesRow}
use Rattle.brc_free.proofs.FirstDuties.{settle_end_first}
use Rattle.brc_free.proofs.SettleDuties.{cells_unlocked, ended}
use Rattle.brc_free.proofs.finaliser.Finaliser.close_cells.Goals as goal

pub gate_close-requires-clause-alive : goal.gate_close-requires-clause-alive
gate_close-requires-clause-alive g c = λ gone.
    let at = c.empty_cells.ensures.work c.requires.duty.rest c.requires.duty.next in
    c.requires.alive (sym at.keeps.status ∙ gone)

pub gate_close-requires-clause-duty : goal.gate_close-requires-clause-duty
gate_close-requires-clause-duty g c =
    let at = c.empty_cells.ensures.work c.requires.duty.rest c.requires.duty.next in
    subst (ClosesRow c.args.row) (sym (at.agenda ∙ settle_end_first _ _ _)) refl

pub returns-clause-work : goal.returns-clause-work
returns-clause-work g c = λ rest is.
    ended _ _ _ [] _ c.gate_close.result rest (c.empty_cells.ensures.work rest is) c.gate_close.ensures.view
    (cells_unlocked _ _ _ rest c.rows_are_there.ensures is)
