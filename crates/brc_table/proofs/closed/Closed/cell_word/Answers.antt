use Rattle.std.proofs.Common.{◌≡◌, ℕ, ◌<◌, ◌≤◌, sym, ap, ◌∙◌, subst, arith}
use Rattle.std.specs.Prelude.{slice_index}
use Rattle.std.specs.Slots.{slots_items, slots_len}
use Rattle.brc_model.specs.declared.layout.Layout.{Layout}
use Rattle.brc_table.specs.Ending.{ClosedTable, cell_at}
use Rattle.brc_model.specs.Layout.{row_count}
use Rattle.brc_table.specs.Places.{cell_place}
use Rattle.brc_table.proofs.Places.{cell_within}
use Rattle.brc_table.proofs.Lists.{index_found}
use Rattle.brc_table.proofs.closed.Closed.cell_word.Goals as goal

pub word-requires : goal.word-requires
word-requires g c =
    let layout = c.self.inside.layout in
    let is = c.self.view_is in
    let at : c.place.result ≡ cell_place layout c.args.row c.args.cell =
    c.place.ensures ∙ ap (λ (l : Layout). cell_place l c.args.row c.args.cell) c.self.invariant.6 in (
      subst (λ (k : ℕ). k < slots_len c.self.inside.table.words) (sym at)
          (subst (λ (k : ℕ). cell_place layout c.args.row c.args.cell < k) (sym c.self.invariant.2)
          (cell_within layout c.args.row c.args.cell
          (subst (λ (closed : ClosedTable _). c.args.cell < closed.state.layout.cells) (sym is) c.requires.cell)
          (subst (λ (closed : ClosedTable _). c.args.row < row_count closed.state.layout) (sym is) c.requires.there))),
      c.self.invariant.0,
    )

pub returns-clause-word : goal.returns-clause-word
returns-clause-word g c =
    let items = slots_items c.self.inside.table.words in
    index_found items c.place.result c.word.result c.word.ensures
    ∙ (ap (slice_index items) c.place.ensures
    ∙ (ap (λ (l : Layout). cell_at l items c.args.row c.args.cell) c.self.invariant.6
    ∙ ap (λ (closed : ClosedTable _). cell_at closed.state.layout closed.state.words c.args.row c.args.cell)
    c.self.view_is))

pub returns-clause-names : goal.returns-clause-names
returns-clause-names g c =
    let row = c.args.row in
    let i = c.args.cell in
    let is = c.self.view_is in
    let state = c.args.self.now.state in
    let named : cell_at state.layout state.words row i ≤ row_count state.layout =
    subst (λ (closed : ClosedTable _). cell_at closed.state.layout closed.state.words row i
    ≤ row_count closed.state.layout) is
    (c.self.invariant.4 row i
    (subst (λ (closed : ClosedTable _). row < row_count closed.state.layout) (sym is) c.requires.there)
    (subst (λ (closed : ClosedTable _). i < closed.state.layout.cells) (sym is) c.requires.cell)) in
    omega (arith, named, returns-clause-word g c)
