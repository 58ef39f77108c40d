use Rattle.std.specs.Prelude.{◌≡◌}
use Rattle.brc_bench.specs.Swaps.{IsReadyToSwap}
use Rattle.brc_bench.proofs.swaps.locked_swap.Given as goal

abbrev pub invariant-loop : goal.invariant-loop
invariant-loop l = IsReadyToSwap l.lists l.hand l.row 0 l.held
    × (l.hand.view.references ≡ l.fn.hand.view.references) × (l.hand.view.layout ≡ l.fn.hand.view.layout)
    × (l.held ≡ l.fn.held)
