use Rattle.std.proofs.Common.{ℕ, List, sym, ap, ◌∙◌, subst}
use Rattle.brc_table.specs.Hands.{TableState, HandState}
use Rattle.brc_table.specs.Uses.{FirstField}
use Rattle.brc_table.proofs.FieldLists.{first_is}
use Rattle.brc_table.proofs.words.Words.field_take.Goals as goal

pub exchange-requires : goal.exchange-requires
exchange-requires g c =
    let table_is = ap (λ (w : TableState). w.table) c.self.view_is in (
      ap (λ (h : HandState). h.table) c.hand.view_is ∙ (c.requires.table.0 ∙ sym table_is),
      first_is c.hand.inside.seat.me.1 c.args.row 1
          (subst (λ (l : List (ℕ × ℕ)). FirstField l c.args.row 1)
          (sym (ap (λ (h : HandState). h.fields) c.hand.view_is)) c.requires.field),
    )
