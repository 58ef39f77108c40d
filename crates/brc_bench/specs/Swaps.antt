-- What a hand needs for a locked swap: to lock a list, swap a cell of it, and unlock it.
use Rattle.std.specs.Prelude.{◌≡◌, ◌<◌, ◌≤◌, ◌+◌, ◌==◌, ℕ, Option, None, Some, List, [], length, count_by}
use Rattle.brc_model.specs.Layout.{IsCounted}
use Rattle.brc_table.specs.Views.{behind_first, open_work}
use Rattle.brc_table.specs.KnownWords.{KnowsCell}
use Rattle.brc_table.specs.Swaps.{with_item}
use Rattle.brc_table.specs.Uses.{FirstField}
use Rattle.brc_table.specs.Hands.{TableState, HandState, IsOf, IsRunning, most_references}
use Rattle.brc_list.specs.Calls.{word_of}
use Rattle.brc_bench.specs.Ready.{ready_props}

-- If the hand has locked this row's object, then the field that it took last is that one, with what it held.
abbrev pub HasBack : HandState → Option ℕ → Type 0
HasBack hand None = Unit {0}
HasBack hand (Some x) = FirstField hand.fields x hand.view.in_field

-- The hand runs, has nothing to do, and has locked the object of the row `locked`, or none.
pub record IsResting (heap : TableState) (hand : HandState) (locked : Option ℕ) : Type 0 where
  pub table : IsOf heap hand
  pub running : IsRunning hand.view
  pub rests : open_work hand.view ≡ []
  pub locked_is : hand.view.actor.locked ≡ locked
  pub returned : HasBack hand locked

-- The hand rests, and has locked nothing.
abbrev pub IsAtRest : TableState → HandState → Type 0
IsAtRest heap hand = IsResting heap hand None

-- The hand holds a reference to the item, if there is one, and these others, which are few. One of them is to the row's
-- object.
pub record HoldsBeside (hand : HandState) (row : ℕ) (held : Option ℕ) (others : List ℕ) : Type 0 where
  pub references : hand.view.references ≡ with_item hand.view.layout (word_of held) others
  pub list : 1 ≤ count_by (λ y. y == row) others
  pub few : length others + 1 < most_references

-- the references beside the latest one, if that is to the item
abbrev pub beside : Option ℕ → List ℕ → List ℕ
beside None rows = rows
beside (Some x) rows = behind_first rows

-- The hand is at rest. It holds references to the counted object of the row, and to the item.
pub record IsAtPlace (heap : TableState) (hand : HandState) (row : ℕ) (item : Option ℕ) : Type 0 where
  pub rest : IsAtRest heap hand
  pub counted : IsCounted hand.view.layout row
  pub holds : HoldsBeside hand row item (beside item hand.view.references)

-- The hand runs, has nothing to do, and has locked the object of the row `locked`, or none. It knows that the counted
-- object of `row` is a list that has the cell. It holds a reference to the item, if there is one, and others, one of
-- them to the list.
pub record IsAtList (heap : TableState) (hand : HandState) (row cell : ℕ) (held locked : Option ℕ) : Type 0 where
  pub table : IsOf heap hand
  pub running : IsRunning hand.view
  pub rests : open_work hand.view ≡ []
  pub locked_is : hand.view.actor.locked ≡ locked
  pub returned : HasBack hand locked
  pub counted : IsCounted hand.view.layout row
  pub knows : KnowsCell hand.view row cell
  pub others : List ℕ
  pub references : hand.view.references ≡ with_item hand.view.layout (word_of held) others
  pub list : 1 ≤ count_by (λ y. y == row) others
  pub few : length others + 1 < most_references

-- The hand may lock the list, and swap the cell for the item that it holds, or for none.
abbrev pub IsReadyToSwap : TableState → HandState → ℕ → ℕ → Option ℕ → Type 0
IsReadyToSwap heap hand row cell held = IsAtList heap hand row cell held None

-- ---- a fact that a struct can keep

pub rest-prop : (heap : TableState) (hand : HandState) → IsProp (IsAtRest heap hand)
rest-prop heap hand = Prim.hlevel ready_props

pub beside-prop : (hand : HandState) (row : ℕ) (held : Option ℕ) (others : List ℕ)
    → IsProp (HoldsBeside hand row held others)
beside-prop hand row held others = Prim.hlevel ready_props

pub ruleset rest_props = (ready_props, rest-prop, beside-prop)

pub place-prop : (heap : TableState) (hand : HandState) (row : ℕ) (item : Option ℕ)
    → IsProp (IsAtPlace heap hand row item)
place-prop heap hand row item = Prim.hlevel rest_props
