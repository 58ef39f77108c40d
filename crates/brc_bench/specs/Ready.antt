-- What a hand needs so that it can retain and release an object again and again.
use Rattle.std.specs.Prelude.{◌≡◌, ◌<◌, ◌≤◌, ℕ, None, length}
use Rattle.std.specs.Prelude.{List, [], ◌∷◌}
use Rattle.std.specs.Coded.{Unit-prop}
use Rattle.std.proofs.Props.{props}
use Rattle.brc_model.specs.declared.duty.Duty.{Duty}
use Rattle.brc_table.specs.Hands.{MayWait}
use Rattle.brc_model.specs.Layout.{IsCounted}
use Rattle.brc_table.specs.Views.{holds}
use Rattle.brc_table.specs.Hands.{TableState, HandState, IsOf, IsRunning, HasNoWork, most_references}

-- The hand runs, holds a reference to the counted object, has nothing to do about it, and has locked nothing.
pub record IsReady (heap : TableState) (hand : HandState) (row : ℕ) : Type 0 where
  pub table : IsOf heap hand
  pub running : IsRunning hand.view
  pub counted : IsCounted hand.view.layout row
  pub held : 1 ≤ holds hand.view row
  pub idle : HasNoWork hand.view row
  pub few : length hand.view.references < most_references
  pub unlocked : hand.view.actor.locked ≡ None

-- ---- a fact that a struct can keep

pub waits-prop : (ds : List Duty) → IsProp (MayWait ds)
waits-prop [] = Unit-prop
waits-prop (d ∷ []) = Prim.hlevel props
waits-prop (d ∷ e ∷ ds) = λ one other. absurd one

pub ruleset ready_props = (props, waits-prop)
