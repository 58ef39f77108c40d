use Rattle.std.proofs.Common.{◌≡◌, ℕ, ◌<◌, Option, refl, ap, sym, ◌∙◌, subst}
use Rattle.atomic_table.specs.Table.{State, Allows}
use Rattle.brc_table.specs.Homes.{TableStands}
use Rattle.brc_model.specs.declared.layout.Layout.{Layout}
use Rattle.brc_table.specs.Hands.{TableState, HandState}
use Rattle.brc_table.specs.Places.{word_count, cell_place}
use Rattle.brc_table.specs.Swaps.{MaySwap, Swaps}
use Rattle.brc_table.specs.declared.view.View.{View}
use Rattle.brc_table.proofs.Places.{cell_within}
use Rattle.brc_table.proofs.Swapping.{swap_allowed}
use Rattle.brc_table.proofs.words.Words.swap_item.Goals as goal

pub swap-requires : goal.swap-requires
swap-requires g c =
    let hand = c.hand.inside in
    let shared = c.self.inside.table.shared in
    let table_is = ap (λ (w : TableState). w.table) c.self.view_is in
    let layout_is = ap (λ (w : TableState). w.layout) c.self.view_is in
    let view_is = ap (λ (h : HandState). h.view) c.hand.view_is in
    let cells_is = c.self.invariant.3 ∙ layout_is in
    let layout = c.args.self.now.layout in
    let at : c.place-index.result ≡ cell_place layout c.args.row c.args.cell =
    c.place-index.ensures ∙ ap (λ (l : Layout). cell_place l c.args.row c.args.cell) cells_is in
    let there = cell_within c.args.self.now.layout c.args.row c.args.cell c.requires.cell c.requires.there in
    let may : MaySwap hand.seat.me.0 g.B.Swap.list g.B.Swap.cell g.B.Swap.item =
    subst (λ (v : View). MaySwap v g.B.Swap.list g.B.Swap.cell g.B.Swap.item) (sym view_is)
    (subst (MaySwap c.args.hand.now.view g.B.Swap.list g.B.Swap.cell) c.requires.item
    (subst (λ (i : ℕ). MaySwap c.args.hand.now.view g.B.Swap.list i c.args.item) c.requires.index
    (subst (λ (x : ℕ). MaySwap c.args.hand.now.view x c.args.cell c.args.item) c.requires.list c.requires.may))) in
    let place_is : c.place-index.result ≡ cell_place shared.key.layout g.B.Swap.list g.B.Swap.cell =
    at ∙ (ap (λ (x : ℕ). cell_place layout x c.args.cell) c.requires.list
    ∙ (ap (cell_place layout g.B.Swap.list) c.requires.index
    ∙ ap (λ (l : Layout). cell_place l g.B.Swap.list g.B.Swap.cell) (sym layout_is)))
    in (
      ap (λ (h : HandState). h.table) c.hand.view_is ∙ (c.requires.table.0 ∙ sym table_is),
      subst (λ (i : ℕ). i < shared.table_id.words) (sym at)
          (subst (λ (k : ℕ). cell_place layout c.args.row c.args.cell < k)
          (sym (c.self.invariant.1 ∙ ap word_count layout_is)) there),
      subst (λ (w : ℕ). Allows (λ (s : State (Option _) View). TableStands shared.key s.words s.homes s.views)
          shared.table_id.slots hand.seat.id hand.seat.me c.place-index.result (λ found. w)
          (λ found after. Swaps g.B.Swap.list g.B.Swap.cell g.B.Swap.item hand.seat.me found after))
          (sym c.requires.item)
          (swap_allowed c.work_is_put_aside.ensures c.immortals_are_free.ensures c.accounts_are_there.ensures
          c.chains_are_there.ensures c.items_are_there.ensures c.cells_are_swapped.ensures shared.key hand.seat.me.0
          g.B.Swap.list g.B.Swap.cell g.B.Swap.item may shared.table_id.slots hand.seat.id c.place-index.result
          hand.seat.me refl place_is),
    )
