-- What the tests' helpers require of a hand.
use Rattle.std.specs.Prelude.{◌≡◌, ◌≤◌, ◌<◌, ℕ, Option, None, length, []}
use Rattle.brc_model.specs.Layout.{root_row}
use Rattle.brc_table.specs.Views.{holds, open_work}
use Rattle.brc_fixtures.specs.Resting.{HasBack}
use Rattle.brc_table.specs.Hands.{TableState, HandState, IsOf, IsRunning, HasNoWork, most_references}

-- The hand runs, holds a reference to the row's object, has nothing to do about it, and has locked nothing.
pub record IsReadyAt (heap : TableState) (hand : HandState) (x : ℕ) : Type 0 where
  pub table : IsOf heap hand
  pub running : IsRunning hand.view
  pub held : 1 ≤ holds hand.view x
  pub idle : HasNoWork hand.view x
  pub few : length hand.view.references < most_references
  pub unlocked : hand.view.actor.locked ≡ None

-- The same of the root's object.
abbrev pub IsReady : TableState → HandState → Type 0
IsReady heap hand = IsReadyAt heap hand root_row

-- The hand runs, holds a reference to the root, has no work at all, and has locked this row's object, or none.
pub record IsResting (heap : TableState) (hand : HandState) (locked : Option ℕ) : Type 0 where
  pub table : IsOf heap hand
  pub running : IsRunning hand.view
  pub held : 1 ≤ holds hand.view root_row
  pub rests : open_work hand.view ≡ []
  pub locked_is : hand.view.actor.locked ≡ locked
  pub returned : HasBack hand locked
