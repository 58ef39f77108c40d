-- What the example knows of a hand between two calls.
use Rattle.std.specs.Prelude.{◌≡◌, ℕ, Option, None, List, [], ◌∷◌}
use Rattle.std.specs.Coded.{Unit-prop}
use Rattle.std.proofs.Props.{props}
use Rattle.brc_model.specs.declared.duty.Duty.{Duty}
use Rattle.brc_model.specs.Layout.{root_row}
use Rattle.brc_table.specs.Views.{open_work}
use Rattle.brc_table.specs.Swaps.{with_item}
use Rattle.brc_table.specs.Hands.{TableState, HandState, IsOf, IsRunning, MayWait}
use Rattle.brc_list.specs.Calls.{word_of}
use Rattle.brc_fixtures.specs.Resting.{HasBack}

-- The hand runs, has nothing to do and no dying object, and has locked this row's object, or none. It holds a reference
-- to the root, one to the item, if there is one, and no other.
pub record IsResting (heap : TableState) (hand : HandState) (item locked : Option ℕ) : Type 0 where
  pub table : IsOf heap hand
  pub running : IsRunning hand.view
  pub rests : open_work hand.view ≡ []
  pub head : hand.view.actor.head ≡ 0
  pub locked_is : hand.view.actor.locked ≡ locked
  pub returned : HasBack hand locked
  pub references : hand.view.references ≡ with_item hand.view.layout (word_of item) (root_row ∷ [])

-- The hand rests between two calls, and has locked nothing.
abbrev pub Holds : TableState → HandState → Option ℕ → Type 0
Holds heap hand item = IsResting heap hand item None

-- ---- a fact that a struct can keep

pub waits-prop : (ds : List Duty) → IsProp (MayWait ds)
waits-prop [] = Unit-prop
waits-prop (d ∷ []) = Prim.hlevel props
waits-prop (d ∷ e ∷ ds) = λ one other. absurd one

pub ruleset resting_props = (props, waits-prop)

pub holds-prop : (heap : TableState) (hand : HandState) (item : Option ℕ) → IsProp (Holds heap hand item)
holds-prop heap hand item = Prim.hlevel resting_props
