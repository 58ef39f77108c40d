use Rattle.std.proofs.Common.{◌≡◌, ◌<◌, ◌≤◌, ℕ, ap, sym, ◌∙◌, subst, arith}
use Rattle.brc_model.specs.declared.layout.Layout.{Layout}
use Rattle.brc_model.specs.Layout.{block_of, block_size, row_at, row_count}
use Rattle.brc_model.proofs.Basics.Blocks.{block_at}
use Rattle.brc_table.specs.Hands.{HandState, TableState}
use Rattle.brc_table.specs.Views.{RowsAreThere}
use Rattle.brc_table.specs.declared.view.View.{View}
use Rattle.brc_table.proofs.ExitDuties.{low_row}
use Rattle.brc_table.proofs.words.Words.own_row.Goals as goal

-- A row of the hand's block has an index in a block of this layout.
in_block : (v : View) (l : Layout) (i : ℕ) → v.layout ≡ l → RowsAreThere v → i < v.actor.used
    → (v.thread ≤ l.workers) × (i < block_size l v.thread)
in_block v l i same rows low = (
  subst (λ (k : Layout). v.thread ≤ k.workers) same rows.thread,
  subst (λ (k : Layout). i < block_size k v.thread) same (omega (arith, low, rows.used)),
)

pub returns-clause-row : goal.returns-clause-row
returns-clause-row g c =
    c.row_at.ensures
    ∙ (ap (λ (t : ℕ). row_at c.layout.result t c.args.index)
    (c.hand.invariant.1 ∙ ap (λ (h : HandState). h.view.thread) c.hand.view_is)
    ∙ ap (λ (l : Layout). row_at l c.args.hand.now.view.thread c.args.index)
    (c.layout.ensures ∙ (c.self.invariant.0 ∙ ap (λ (w : TableState). w.layout) c.self.view_is)))

pub returns-clause-there : goal.returns-clause-there
returns-clause-there g c =
    let v = c.args.hand.now.view in
    let layout = c.args.self.now.layout in
    let within = in_block v layout c.args.index c.requires.table.1 c.rows_are_there.ensures c.requires.used in
    subst (λ (x : ℕ). x < row_count layout) (sym (returns-clause-row g c))
    (low_row layout v.thread c.args.index within.0 within.1)

pub returns-clause-own : goal.returns-clause-own
returns-clause-own g c =
    let v = c.args.hand.now.view in
    let layout = c.args.self.now.layout in
    let within = in_block v layout c.args.index c.requires.table.1 c.rows_are_there.ensures c.requires.used in
    ap (block_of layout) (returns-clause-row g c) ∙ block_at layout v.thread c.args.index within.0 within.1
