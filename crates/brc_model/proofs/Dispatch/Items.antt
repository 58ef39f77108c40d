-- What the states and the rows of variables say of items: a variable that borrows from the locked list names an item of
-- it.
use Rattle.std.proofs.Common.{◌≡◌, ℕ, zero, suc, ◌<◌, true, false, List, [], inl, inr, length, Option, None, Some, sym, refl, ap, ◌∙◌, subst, arith}
use Rattle.std.specs.Prelude.{slice_get, slice_set}
use Rattle.std.proofs.lemmas.Bool.{false≢true}
use Rattle.std.proofs.lemmas.Bool.Decides.{eqb_tells}
use Rattle.brc_lang.specs.declared.kind.Kind.{Kind}
use Rattle.brc_lang.specs.declared.module.Instr.{Instr}
use Rattle.brc_lang.specs.declared.module.Instr.TheVariants.{Borrow, Fetch, Set, Put}
use Rattle.brc_model.specs.declared.actor.Place.{Place}
use Rattle.brc_model.specs.declared.actor.Place.TheVariants.{Idle, InCall, Inside, Stopping, Exiting}
use Rattle.brc_model.specs.declared.actor.Stage.{Stage}
use Rattle.brc_model.specs.declared.actor.Stage.TheVariants.{InRange, Found, Retained}
use Rattle.brc_model.specs.declared.address.Address.{Address}
use Rattle.brc_model.specs.declared.address.Address.TheVariants.{KindOf, Cell}
use Rattle.brc_model.specs.declared.state.Slot.{Slot}
use Rattle.brc_model.specs.declared.state.Slot.TheVariants.{Empty}
use Rattle.brc_model.specs.declared.state.State.{State}
use Rattle.brc_model.specs.SlotStates.{var_of, with_kind, put, without_item, without_items, entry_of}
use Rattle.brc_model.specs.Threads.{row_of, entry_variables, function_in}
use Rattle.brc_model.specs.Duties.{cells_of}
use Rattle.brc_model.specs.Items.{IsItem, borrows_item, HaveItems, HasCell, StageKnows, KnowsItems}
use Rattle.brc_model.proofs.Basics.Lists.{none_some, get_or-replicate_default}
use Rattle.brc_model.proofs.Dispatch.Grounded.{var_of-put_same, var_of-put_other, var_of-without, row_of-set_same, row_of-set_other}
use Rattle.brc_model.proofs.Frame.Kinds.{StoredStay}
use Rattle.brc_model.proofs.Dispatch.Programs.{Program, code_in}

-- ---- what a step leaves

-- What a step leaves of the words for a thread that has locked the row: kind words that a birth has stored, and the
-- cells of the locked list.
pub record ItemsStay (memory new : Address → ℕ) (locked : Option ℕ) : Type 0 where
  pub kinds : StoredStay (λ x. memory (KindOf x)) (λ x. new (KindOf x))
  pub cells : (x i : ℕ) → locked ≡ Some x → new (Cell x i) ≡ memory (Cell x i)

-- A silent step leaves all words.
pub all_stay : (memory : Address → ℕ) (locked : Option ℕ) → ItemsStay memory memory locked
all_stay memory locked = record { kinds = λ x. inr refl; cells = λ x i is. refl }

-- What the thread knows of items at its place: its innermost call alone may borrow any.
abbrev pub ItemsAt : Program → (Address → ℕ) → Option ℕ → Place → Type 0
ItemsAt program memory locked place =
    KnowsItems (function_in program.functions program.first place) memory locked place

module _ (memory new : Address → ℕ) (locked : Option ℕ) (stays : ItemsStay memory new locked) where
  pub item_stays : (x : ℕ) → IsItem memory locked x → IsItem new locked x
  item_stays x item = record {
    list = item.list;
    cell = item.cell;
    is_locked = item.is_locked;
    holds = stays.cells item.list item.cell item.is_locked ∙ item.holds;
  }

  pub items_stay : (s : State) (rows : List (Option ℕ)) → HaveItems memory locked s rows → HaveItems new locked s rows
  items_stay s rows items v x borrows is = item_stays x (items v x borrows is)

  -- A list that has the cell has its kind word stored.
  pub cell_stays : (rows : List (Option ℕ)) (list index : ℕ) → HasCell memory rows list index
      → HasCell new rows list index
  cell_stays rows list index has x is = elim (stays.kinds x) [
    | inl none ↦ absurd (omega (arith, has x is, ap cells_of none))
    | inr same ↦ subst (λ (w : ℕ). index < cells_of w) (sym same) (has x is)
  ]

  stage_stays : (rows : List (Option ℕ)) (stage : Stage) (i : Option Instr) → StageKnows memory locked rows stage i
      → StageKnows new locked rows stage i
  stage_stays rows InRange (Some (Borrow to list index otherwise)) knows = cell_stays rows list index knows
  stage_stays rows InRange (Some (Fetch to list index otherwise)) knows = cell_stays rows list index knows
  stage_stays rows InRange (Some (Set list index from otherwise)) knows = cell_stays rows list index knows
  stage_stays rows InRange (Some (Put list index from otherwise)) knows = cell_stays rows list index knows
  stage_stays rows Retained (Some (Put list index from otherwise)) knows = cell_stays rows list index knows
  stage_stays rows (Found item) i knows = item_stays item knows
  stage_stays rows stage i knows = tt

  pub knows_stay : (program : Program) (place : Place) → ItemsAt program memory locked place
      → ItemsAt program new locked place
  knows_stay program (Idle left) knows = tt
  knows_stay program (InCall context at variables) knows =
      λ exits s arrived. items_stay s variables (knows exits s arrived)
  knows_stay program (Inside context at variables stage) knows = record {
    items = λ exits s arrived. items_stay s variables (knows.items exits s arrived);
    cell = stage_stays variables stage (slice_get (code_in program context) at) knows.cell;
  }
  knows_stay program (Stopping lock calls) knows = tt
  knows_stay program Exiting knows = tt

-- ---- a variable changes

-- What the new state borrows has to be an item; the other variables are as they were.
pub items_put : (memory : Address → ℕ) (locked : Option ℕ) (s : State) (rows : List (Option ℕ)) (x : ℕ) (var : Slot)
    (row : Option ℕ) → x < length s.slots → x < length rows
    → ((y : ℕ) → borrows_item var ≡ true → row ≡ Some y → IsItem memory locked y) → HaveItems memory locked s rows
    → HaveItems memory locked (put s x var) (slice_set rows x row)
items_put memory locked s rows x var row in_slots in_rows new old v y borrows is =
    elim (eqb_tells v x) [
      | inl this ↦
          let var_is : var_of (put s x var) v ≡ var =
          ap (var_of (put s x var)) this.1 ∙ var_of-put_same s x var in_slots in
          let row_is : row_of (slice_set rows x row) v ≡ row =
          ap (row_of (slice_set rows x row)) this.1 ∙ row_of-set_same rows x row in_rows in
          new y (sym (ap borrows_item var_is) ∙ borrows) (sym row_is ∙ is)
      | inr other ↦
          old v y (sym (ap borrows_item (var_of-put_other s x v var other.1)) ∙ borrows)
          (sym (row_of-set_other rows x v row other.1) ∙ is)
    ]

-- A variable's state that doesn't borrow from the list needs no item.
pub needs_none : (memory : Address → ℕ) (locked : Option ℕ) (var : Slot) (row : Option ℕ)
    → borrows_item var ≡ false
    → (y : ℕ) → borrows_item var ≡ true → row ≡ Some y → IsItem memory locked y
needs_none memory locked var row free y borrows is = absurd (false≢true (sym free ∙ borrows))

kind_borrows : (var : Slot) (k : Kind) → borrows_item (with_kind var k) ≡ borrows_item var
kind_borrows Empty k = refl
kind_borrows _ k = cc

-- A variable's kind becomes known.
pub items_with_kind : (memory : Address → ℕ) (locked : Option ℕ) (s : State) (rows : List (Option ℕ)) (x : ℕ)
    (k : Kind) → x < length s.slots → HaveItems memory locked s rows
    → HaveItems memory locked (put s x (with_kind (var_of s x) k)) rows
items_with_kind memory locked s rows x k in_slots old v y borrows is =
    let var = with_kind (var_of s x) k in
    elim (eqb_tells v x) [
      | inl this ↦
          let same : borrows_item (var_of (put s x var) v) ≡ borrows_item (var_of s v) =
          ap (λ (w : ℕ). borrows_item (var_of (put s x var) w)) this.1
          ∙ ap borrows_item (var_of-put_same s x var in_slots) ∙ kind_borrows (var_of s x) k
          ∙ ap (λ (w : ℕ). borrows_item (var_of s w)) (sym this.1) in
          old v y (sym same ∙ borrows) is
      | inr other ↦ old v y (sym (ap borrows_item (var_of-put_other s x v var other.1)) ∙ borrows) is
    ]

-- ---- where nothing is borrowed

-- No variable borrows from a list.
abbrev pub BorrowsNone : State → Type 0
BorrowsNone s = (v : ℕ) → borrows_item (var_of s v) ≡ false

pub none_borrowed : (memory : Address → ℕ) (locked : Option ℕ) (s : State) (rows : List (Option ℕ)) → BorrowsNone s
    → HaveItems memory locked s rows
none_borrowed memory locked s rows none v x borrows is = absurd (false≢true (sym (none v) ∙ borrows))

without_item_free : (var : Slot) → borrows_item (without_item var) ≡ false
without_item_free Empty = refl
without_item_free _ = cc

-- Once the list is unlocked or changed, no variable borrows from it.
pub without_items_free : (s : State) → BorrowsNone (without_items s)
without_items_free s v = ap borrows_item (var_of-without s v) ∙ without_item_free (var_of s v)

-- A thread that has locked nothing borrows nothing, so it has the items of whatever it locks.
pub unlocked_items : (memory new : Address → ℕ) (before locked : Option ℕ) (s : State) (rows : List (Option ℕ))
    → before ≡ None → HaveItems memory before s rows → HaveItems new locked s rows
unlocked_items memory new before locked s rows none items v x borrows is =
    let item = items v x borrows is in absurd (none_some item.list (sym none ∙ item.is_locked))

-- At the beginning of a call no variable borrows from a list.
entry_borrows_none : BorrowsNone (entry_of [])
entry_borrows_none zero = refl
entry_borrows_none (suc v) = ap borrows_item (get_or-replicate_default 15 v Empty)

pub entry_items : (memory : Address → ℕ) (locked : Option ℕ) → HaveItems memory locked (entry_of []) entry_variables
entry_items memory locked = none_borrowed memory locked (entry_of []) entry_variables entry_borrows_none
