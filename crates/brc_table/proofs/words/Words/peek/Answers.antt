use Rattle.std.proofs.Common.{ℕ, ◌≤◌, ◌<◌, refl, ap, sym, ◌∙◌, subst}
use Rattle.brc_model.specs.declared.layout.Layout.{Layout}
use Rattle.brc_table.specs.declared.view.View.{View}
use Rattle.brc_table.specs.Hands.{TableState, HandState}
use Rattle.brc_table.specs.Places.{word_count}
use Rattle.brc_table.proofs.Peeking.{peek_allowed}
use Rattle.brc_table.proofs.ThreadWords.{thread_within}
use Rattle.brc_table.proofs.words.Words.peek.Goals as goal

pub load-requires : goal.load-requires
load-requires g c =
    let hand = c.hand.inside in
    let shared = c.self.inside.table.shared in
    let layout = c.args.self.now.layout in
    let table_is = ap (λ (w : TableState). w.table) c.self.view_is in
    let layout_is = ap (λ (w : TableState). w.layout) c.self.view_is in
    let view_is = ap (λ (h : HandState). h.view) c.hand.view_is in
    let known : c.args.thread ≤ layout.workers =
    subst (λ (l : Layout). c.args.thread ≤ l.workers) c.requires.table.1 c.requires.known in
    let there = thread_within layout c.args.thread c.layout_is_plain.ensures known in
    let mine : g.W.Worker.number ≤ hand.seat.me.0.layout.workers =
    subst (λ (k : ℕ). k ≤ hand.seat.me.0.layout.workers) c.requires.number
    (subst (λ (v : View). c.args.thread ≤ v.layout.workers) (sym view_is) c.requires.known) in (
      ap (λ (h : HandState). h.table) c.hand.view_is ∙ (c.requires.table.0 ∙ sym table_is),
      subst (λ (k : ℕ). c.args.thread < k) (sym (c.self.invariant.1 ∙ ap word_count layout_is)) there,
      peek_allowed c.accounts_are_there.ensures c.chains_are_there.ensures shared.key hand.seat.me.0 g.W.Worker.number
          mine shared.table_id.slots hand.seat.id c.args.thread hand.seat.me refl c.requires.number,
    )
