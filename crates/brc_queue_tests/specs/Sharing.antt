-- What the tests' helpers know of a hand between two calls.
use Rattle.std.specs.Prelude.{◌≡◌, ℕ, None, List, [], ◌∷◌}
use Rattle.std.proofs.Props.{props}
use Rattle.brc_model.specs.declared.actor.Status.TheVariants.{Running}
use Rattle.brc_model.specs.declared.duty.Duty.{Duty}
use Rattle.brc_model.specs.declared.layout.Layout.{Layout}
use Rattle.brc_model.specs.Layout.{root_row}
use Rattle.brc_table.specs.Hands.{TableState, HandState, IsOf, carried_of}
use Rattle.brc_fixtures.specs.Modules.{plain_layout}

-- the tests' heaps: two workers with two rows each
abbrev pub small_layout : Layout
small_layout = plain_layout 2 2

-- the first row of the first worker
abbrev pub shared_row : ℕ
shared_row = 2

-- The hand runs, holds references to these rows and no others, and has this to do and nothing else. It has locked
-- nothing, and carries nothing from the shared row.
pub record HasWork (heap : TableState) (hand : HandState) (rows : List ℕ) (work : List Duty) : Type 0 where
  pub table : IsOf heap hand
  pub layout : hand.view.layout ≡ small_layout
  pub status : hand.view.actor.status ≡ Running
  pub agenda : hand.view.actor.agenda ≡ work
  pub aside : hand.view.actor.aside ≡ []
  pub references : hand.view.references ≡ rows
  pub unlocked : hand.view.actor.locked ≡ None
  pub none : carried_of hand shared_row ≡ None

-- The hand has nothing to do, and holds one reference, to the root.
abbrev pub HoldsRoot : TableState → HandState → Type 0
HoldsRoot heap hand = HasWork heap hand (root_row ∷ []) []

-- The hand has nothing to do, and holds one reference to the object of the shared row, and one to the root.
abbrev pub HoldsBoth : TableState → HandState → Type 0
HoldsBoth heap hand = HasWork heap hand (shared_row ∷ root_row ∷ []) []

-- The hand holds one reference, to the root, and has this to do.
abbrev pub HasLeft : TableState → HandState → List Duty → Type 0
HasLeft heap hand work = HasWork heap hand (root_row ∷ []) work

-- ---- a fact that a struct can keep

pub holds-prop : (heap : TableState) (hand : HandState) → IsProp (HoldsRoot heap hand)
holds-prop heap hand = Prim.hlevel props
