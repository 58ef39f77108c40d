use Rattle.std.proofs.Common.{ℕ, ◌≤◌, ◌<◌, refl, ap, sym, ◌∙◌, subst}
use Rattle.brc_model.specs.declared.layout.Layout.{Layout}
use Rattle.brc_table.specs.declared.view.View.{View}
use Rattle.brc_table.specs.Hands.{TableState, HandState}
use Rattle.brc_table.specs.Places.{word_count}
use Rattle.brc_table.specs.Giving.{MayStart}
use Rattle.brc_table.proofs.Starting.{start_allowed}
use Rattle.brc_table.proofs.ThreadWords.{thread_within}
use Rattle.brc_table.proofs.words.Words.start.Goals as goal

pub store-requires : goal.store-requires
store-requires g c =
    let main = c.main.inside in
    let shared = c.self.inside.table.shared in
    let layout = c.args.self.now.layout in
    let table_is = ap (λ (w : TableState). w.table) c.self.view_is in
    let layout_is = ap (λ (w : TableState). w.layout) c.self.view_is in
    let view_is = ap (λ (h : HandState). h.view) c.main.view_is in
    let known : c.args.thread ≤ layout.workers =
    subst (λ (l : Layout). c.args.thread ≤ l.workers) c.requires.table.1 c.requires.may_start.known_worker in
    let there = thread_within layout c.args.thread c.layout_is_plain.ensures known in
    let may : MayStart main.seat.me.0 g.W.Worker.number =
    subst (MayStart main.seat.me.0) c.requires.number
    (subst (λ (v : View). MayStart v c.args.thread) (sym view_is) c.requires.may_start) in (
      ap (λ (h : HandState). h.table) c.main.view_is ∙ (c.requires.table.0 ∙ sym table_is),
      subst (λ (k : ℕ). c.args.thread < k) (sym (c.self.invariant.1 ∙ ap word_count layout_is)) there,
      start_allowed c.accounts_are_there.ensures c.chains_are_there.ensures shared.key main.seat.me.0 g.W.Worker.number
          may shared.table_id.slots main.seat.id c.args.thread main.seat.me refl c.requires.number,
    )
