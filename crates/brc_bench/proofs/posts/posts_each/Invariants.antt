use Rattle.std.specs.Prelude.{◌≡◌, [], ◌∷◌, ◌++◌, All, length}
use Rattle.brc_model.specs.Layout.{root_row, IsCounted}
use Rattle.brc_bench.specs.Swaps.{IsAtRest}
use Rattle.brc_bench.proofs.posts.posts_each.Given as goal

abbrev pub invariant-loop-row : goal.invariant-loop-row
invariant-loop-row l = IsAtRest l.heap l.hand × (l.hand.view.references ≡ l.rows.items ++ root_row ∷ [])
    × All (λ row. IsCounted l.heap.layout row) l.rows.items

abbrev pub decreases-loop-row : goal.decreases-loop-row
decreases-loop-row l = length l.rows.items
