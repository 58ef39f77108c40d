use Rattle.std.proofs.Common.{sym, ap, ◌∙◌, subst, arith}
use Rattle.brc_model.specs.Machine.{is_running}
use Rattle.brc_table.specs.declared.view.View.{View}
use Rattle.brc_table.specs.Views.{RowsAreThere, HasSpares, IsGivenBy}
use Rattle.brc_table.specs.Hands.{TableState, HandState}
use Rattle.brc_table.specs.Homes.{rows_of}
use Rattle.brc_table.specs.Joining.{joining}
use Rattle.brc_table.proofs.GivenHands.{parts}
use Rattle.brc_table.proofs.Joining.{joins, joins_there, none_held}
use Rattle.brc_table.proofs.words.Words.take_in.Goals as goal

pub join_seat-requires : goal.join_seat-requires
join_seat-requires g c =
    let table_is = ap (λ (w : TableState). w.table) c.self.view_is in
    let view_is = ap (λ (h : HandState). h.view) c.gone.view_is in
    let hand = c.hand.inside.seat in
    let gone = c.gone.inside.seat in (
      ap (λ (h : HandState). h.table) c.hand.view_is ∙ (c.requires.table.0 ∙ sym table_is),
      ap (λ (h : HandState). h.table) c.gone.view_is ∙ (c.requires.other_table.0 ∙ sym table_is),
      none_held gone.me.1 (ap (λ (h : HandState). h.fields) c.gone.view_is ∙ c.requires.no_field),
      omega (arith, c.self.invariant.1),
      joins c.self.inside.table.shared.key hand.id gone.id hand.me.0 gone.me.0 g.E.Ended.view
          (ap (λ (v : View). v.actor.status) view_is ∙ c.requires.gone) (view_is ∙ c.requires.view),
    )

-- The hand is still as its plain fields say.
pub invariant_of-hand : goal.invariant_of-hand
invariant_of-hand g c =
    let before = c.hand.inside.seat.me in
    let after =
    parts c.join_seat.new.seat.me (joining before.0 c.gone.inside.seat.me.0) before.1 c.join_seat.ensures.2 in
    let view = after.0 in
    let fits = c.hand.invariant in (
      ap rows_of after.1 ∙ (fits.0 ∙ sym (ap (λ (v : View). v.taken) view)),
      fits.1 ∙ sym (ap (λ (v : View). v.thread) view),
      fits.2 ∙ sym (ap (λ (v : View). is_running v.actor.status) view),
      fits.3 ∙ sym (ap (λ (v : View). v.actor.head) view),
      fits.4 ∙ sym (ap (λ (v : View). v.actor.used) view),
      subst RowsAreThere (sym view) (joins_there before.0 c.gone.inside.seat.me.0 fits.5),
      subst (HasSpares c.hand.inside.spares.items) (sym view) fits.6,
      subst (IsGivenBy c.hand.inside.spares.items) (sym view) fits.7,
      fits.8,
    )
