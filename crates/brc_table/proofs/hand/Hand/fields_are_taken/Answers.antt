use Rattle.std.proofs.Common.{ap, sym, ◌∙◌}
use Rattle.brc_table.specs.Hands.{HandState}
use Rattle.brc_table.specs.Uses.{field_rows}
use Rattle.brc_table.proofs.FieldLists.{rows_are}
use Rattle.brc_table.proofs.hand.Hand.fields_are_taken.Goals as goal

pub returns : goal.returns
returns g c =
    ap field_rows (sym (ap (λ (h : HandState). h.fields) c.self.view_is))
    ∙ (rows_are c.self.inside.seat.me.1 ∙ (c.self.invariant.0 ∙ ap (λ (h : HandState). h.view.taken) c.self.view_is))
