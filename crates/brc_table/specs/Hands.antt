-- What contracts see of a table and of a hand.
use Rattle.std.specs.Prelude.{◌≡◌, ℕ, suc, ◌<◌, ◌≤◌, ◌^◌, ◌⊎◌, true, Option, None, Some, List, [], ◌∷◌, slice_index_or, count_by}
use Rattle.atomic_table.specs.Seated.{TableId}
use Rattle.brc_model.specs.declared.actor.Status.TheVariants.{Running}
use Rattle.brc_model.specs.declared.duty.Duty.{Duty}
use Rattle.brc_model.specs.declared.layout.Layout.{Layout}
use Rattle.brc_model.specs.Layout.{row_count, block_of, index_of, is_immortal_row}
use Rattle.brc_model.specs.OpenWork.{may_wait}
use Rattle.brc_table.specs.Plan.{Plan}
use Rattle.brc_table.specs.declared.view.View.{View}
use Rattle.brc_model.specs.Knowledge.{is_retain}
use Rattle.brc_table.specs.Views.{holds, work_about, open_work}
use Rattle.brc_table.specs.KnownWords.{known_cell}

-- A table, as contracts see it: which one it is, its size, and the lines of its immortal lists.
pub record TableState : Type 0 where
  pub table : TableId
  pub layout : Layout
  pub lines : List (List ℕ)

-- the plan that the table was made by
abbrev pub plan_of : TableState → Plan
plan_of words = record { layout = words.layout; lines = words.lines }

-- A hand, as contracts see it: whose table it is of, and what it knows.
pub record HandState : Type 0 where
  pub table : TableId
  pub view : View
  -- of each begun merge of a row of the thread's own block, the local count that was swapped out, by the row's
  -- index in its block
  pub carried : List (Option ℕ)
  -- the rows whose fields the hand has taken, the last one first, and how many resources each field holds
  pub fields : List (ℕ × ℕ)

-- The hand is as before but for what it knows: it is of the same table, carries what it carried and has its fields.
pub record KeepsButView (h k : HandState) : Type 0 where
  pub table : k.table ≡ h.table
  pub carried : k.carried ≡ h.carried
  pub fields : k.fields ≡ h.fields

-- where a hand keeps what it carries from the row: two rows of one block have places of their own
abbrev pub carried_place : Layout → ℕ → ℕ
carried_place layout x = index_of layout (block_of layout x) x

-- the local count that the hand carries from the row, if it has begun a merge of it
abbrev pub carried_of : HandState → ℕ → Option ℕ
carried_of hand x = slice_index_or hand.carried (carried_place hand.view.layout x) None

-- The hand has begun no merge.
abbrev pub CarriesNothing : HandState → Type 0
CarriesNothing hand = (x : ℕ) → carried_of hand x ≡ None

-- The hand is of the table.
abbrev pub IsOf : TableState → HandState → Type 0
IsOf words hand = (hand.table ≡ words.table) × (hand.view.layout ≡ words.layout)

-- the most references that a hand may hold in all
abbrev pub most_references : ℕ
most_references = 2 ^ 32

-- The hand holds a reference to the object. Every hand counts as holding immortal objects.
abbrev pub HoldsOne : View → ℕ → Type 0
HoldsOne v x = (is_immortal_row v.layout x ≡ true) ⊎ (1 ≤ holds v x)

-- The hand borrows the object from the list that it has locked: since it locked the list, it has seen the object in a
-- cell. (Python/C API manual, List Objects: `PyList_GetItem` returns a borrowed reference.)
pub record Borrows (v : View) (x : ℕ) : Type 0 where
  pub list : ℕ
  pub cell : ℕ
  pub locked : v.actor.locked ≡ Some list
  pub seen : known_cell list cell v ≡ Some (suc x)
  pub there : x < row_count v.layout

-- The hand may use the object: it holds a reference to it, or it borrows it.
abbrev pub MayUse : View → ℕ → Type 0
MayUse v x = HoldsOne v x ⊎ Borrows v x

-- The object is the first one of the hand's dying chain: no reference to it is left, and the hand is to finalise it.
abbrev pub IsFirst : View → ℕ → Type 0
IsFirst v x = v.actor.head ≡ suc x

-- The hand may look at the object: it may use it, or is to finalise it.
abbrev pub MayRead : View → ℕ → Type 0
MayRead v x = MayUse v x ⊎ IsFirst v x

-- The hand may change the list's cells, and no other hand does: it has locked the list, or is to finalise it.
abbrev pub MayChange : View → ℕ → Type 0
MayChange v x = (v.actor.locked ≡ Some x) ⊎ IsFirst v x

-- The hand may load the list's cells: it has locked the list, to which it holds a reference, or is to finalise it.
abbrev pub MayLoad : View → ℕ → Type 0
MayLoad v x = ((v.actor.locked ≡ Some x) × HoldsOne v x) ⊎ IsFirst v x

-- The hand keeps a reference to the object if it has locked it: it holds a second one. Every hand counts as holding
-- immortal objects.
abbrev pub KeepsLock : View → ℕ → Type 0
KeepsLock v x = v.actor.locked ≡ Some x → (is_immortal_row v.layout x ≡ true) ⊎ (2 ≤ holds v x)

-- The hand has nothing to do about the row.
abbrev pub HasNoWork : View → ℕ → Type 0
HasNoWork v x = work_about x v ≡ []

-- The hand retains nothing. A cell of the list that it has locked may be what keeps a retained object alive, so a hand
-- ends its retains before it unlocks the list.
abbrev pub HasNoRetain : View → Type 0
HasNoRetain v = count_by is_retain (open_work v) ≡ 0

-- The hand's next duty may wait, so that the hand may turn to other work.
abbrev pub MayWait : List Duty → Type 0
MayWait [] = Unit {0}
MayWait (d ∷ []) = may_wait d ≡ true
MayWait _ = ⊥

-- The hand runs, and may turn to other work.
abbrev pub IsRunning : View → Type 0
IsRunning v = (v.actor.status ≡ Running) × MayWait v.actor.agenda
