use Rattle.std.specs.Prelude.{◌≡◌, None, [], ◌∷◌}
use Rattle.brc_model.specs.Layout.{root_row, IsCounted}
use Rattle.brc_fixtures.specs.Resting.{IsAtRest}
use Rattle.brc_soak_tests.proofs.chain.chain_of_lists.Given as goal

abbrev pub invariant-loop : goal.invariant-loop
invariant-loop g l = IsAtRest l.heap l.hand None × IsCounted l.heap.layout l.outer
    × (l.hand.view.references ≡ l.outer ∷ root_row ∷ [])
