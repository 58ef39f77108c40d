use Rattle.std.specs.Prelude.{◌≡◌, None, [], ◌∷◌}
use Rattle.brc_model.specs.Layout.{root_row}
use Rattle.brc_fixtures.specs.Resting.{IsAtRest}
use Rattle.brc_soak_tests.proofs.second_word.fills_first_word.Given as goal

abbrev pub invariant-loop : goal.invariant-loop
invariant-loop g l = IsAtRest l.heap l.hand None × (l.hand.view.references ≡ root_row ∷ [])
