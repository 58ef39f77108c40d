-- What the tests know of a hand between two calls.
use Rattle.std.specs.Prelude.{◌≡◌, ℕ, Option, None, Some, [], ◌∷◌}
use Rattle.std.proofs.Props.{props}
use Rattle.brc_model.specs.declared.actor.Status.TheVariants.{Running}
use Rattle.brc_model.specs.Layout.{root_row}
use Rattle.brc_table.specs.Views.{open_work}
use Rattle.brc_table.specs.Uses.{FirstField}
use Rattle.brc_table.specs.Hands.{TableState, HandState, IsOf, IsRunning}

-- If the hand has locked this row's object, then the field that it took last is that one, with what it held.
abbrev pub HasBack : HandState → Option ℕ → Type 0
HasBack hand None = Unit {0}
HasBack hand (Some x) = FirstField hand.fields x hand.view.in_field

-- The hand runs, has no work at all, and has locked this row's object, or none. The heap has no static list.
pub record IsAtRest (heap : TableState) (hand : HandState) (locked : Option ℕ) : Type 0 where
  pub table : IsOf heap hand
  pub running : IsRunning hand.view
  pub rests : open_work hand.view ≡ []
  pub locked_is : hand.view.actor.locked ≡ locked
  pub returned : HasBack hand locked
  pub no_lists : heap.layout.immortal_lists ≡ 0

-- The hand runs, has nothing to do, not even aside, holds one reference, to the root, and has locked nothing. The heap
-- has no static list.
pub record IsAlone (heap : TableState) (hand : HandState) : Type 0 where
  pub table : IsOf heap hand
  pub status : hand.view.actor.status ≡ Running
  pub agenda : hand.view.actor.agenda ≡ []
  pub aside : hand.view.actor.aside ≡ []
  pub references : hand.view.references ≡ root_row ∷ []
  pub unlocked : hand.view.actor.locked ≡ None
  pub no_lists : heap.layout.immortal_lists ≡ 0

-- a fact that a struct can keep
pub alone-prop : (heap : TableState) (hand : HandState) → IsProp (IsAlone heap hand)
alone-prop heap hand = Prim.hlevel props
