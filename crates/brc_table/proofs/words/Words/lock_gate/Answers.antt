use Rattle.std.proofs.Common.{◌≡◌, ℕ, ◌<◌, None, refl, arith, ap, sym, ◌∙◌, subst}
use Rattle.brc_word.specs.Words.{locked_word}
use Rattle.brc_table.specs.declared.view.View.{View}
use Rattle.brc_table.specs.Hands.{TableState, HandState, IsRunning, HasNoWork, HoldsOne}
use Rattle.brc_table.specs.Places.{word_count, in_tile}
use Rattle.brc_table.proofs.Places.{header_within}
use Rattle.brc_table.proofs.FieldSteps.{lock_allowed}
use Rattle.brc_table.proofs.words.Words.lock_gate.Goals as goal

pub compare_exchange-requires : goal.compare_exchange-requires
compare_exchange-requires g c =
    let hand = c.hand.inside in
    let me = hand.seat.me in
    let x = g.R.OfRow.target in
    let shared = c.self.inside.table.shared in
    let table_is = ap (λ (w : TableState). w.table) c.self.view_is in
    let layout_is = ap (λ (w : TableState). w.layout) c.self.view_is in
    let view_is = ap (λ (h : HandState). h.view) c.hand.view_is in
    let at : c.in_line-index.result ≡ in_tile 2 c.args.row = c.in_line-index.ensures in
    let there = header_within c.args.self.now.layout 2 c.args.row (omega arith) c.requires.there in
    let here : (P : View → ℕ → Type 0) → P c.args.hand.now.view c.args.row → P me.0 x =
    λ P is. subst (P me.0) c.requires.row (subst (λ (v : View). P v c.args.row) (sym view_is) is) in (
      ap (λ (h : HandState). h.table) c.hand.view_is ∙ (c.requires.table.0 ∙ sym table_is),
      subst (λ (i : ℕ). i < shared.table_id.words) (sym at) (subst (λ (k : ℕ). in_tile 2 c.args.row < k)
          (sym (c.self.invariant.1 ∙ ap word_count layout_is)) there),
      lock_allowed c.model_laws.ensures c.work_is_put_aside.ensures c.locks_begin.ensures
          c.immortals_are_free.ensures shared.key me.0 x c.args.gate
          (here (λ v y. IsRunning v) c.requires.running)
          (here HasNoWork c.requires.idle) (here HoldsOne c.requires.held)
          (here (λ v y. v.actor.locked ≡ None) c.requires.unlocked)
          (here (λ v y. c.args.gate ≡ locked_word v.thread) c.requires.gate) shared.table_id.slots hand.seat.id
          c.in_line-index.result me refl (at ∙ ap (in_tile 2) c.requires.row),
    )
