use Rattle.std.specs.Prelude.{◌≡◌, [], ◌∷◌}
use Rattle.brc_model.specs.Layout.{root_row}
use Rattle.brc_bench.specs.Swaps.{IsAtRest}
use Rattle.brc_bench.proofs.heaps.in_turn.Given as goal

abbrev pub invariant-loop-thread : goal.invariant-loop-thread
invariant-loop-thread g l =
    IsAtRest l.heap l.main × (l.main.view.references ≡ root_row ∷ []) × (l.main.view.thread ≡ 0)
