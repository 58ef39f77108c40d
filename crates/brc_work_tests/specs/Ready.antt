-- What the tests' helpers know of a hand between two calls.
use Rattle.std.specs.Prelude.{◌≡◌, None, [], ◌∷◌}
use Rattle.brc_model.specs.Layout.{root_row}
use Rattle.brc_table.specs.Calls.{IsFree}
use Rattle.brc_table.specs.Hands.{TableState, HandState, IsOf}

-- The hand runs, has nothing to do, has locked nothing, and holds one reference, to the root.
pub record HoldsRoot (heap : TableState) (hand : HandState) : Type 0 where
  pub table : IsOf heap hand
  pub free : IsFree hand.view
  pub settled : hand.view.actor.head ≡ 0
  pub unlocked : hand.view.actor.locked ≡ None
  pub references : hand.view.references ≡ root_row ∷ []
