use Rattle.std.specs.Prelude.{◌≡◌, ◌≤◌, [], ◌∷◌, ◌++◌, All, length}
use Rattle.brc_model.specs.Layout.{root_row, IsCounted}
use Rattle.brc_bench.specs.Swaps.{IsAtRest}
use Rattle.brc_bench.proofs.posts.hands_over.Given as goal

abbrev pub invariant-loop-value : goal.invariant-loop-value
invariant-loop-value l = IsAtRest l.heap l.owner × (l.owner.view.references ≡ root_row ∷ [])
    × IsAtRest l.heap l.other × (l.other.view.references ≡ l.rows.items ++ root_row ∷ [])
    × All (λ row. IsCounted l.heap.layout row) l.rows.items × (length l.rows.items ≤ l.value) × (l.made ≤ l.value)
