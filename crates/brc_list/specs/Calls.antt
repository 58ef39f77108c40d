-- What each call on a list does to its hand's view, from the word that its step finds.
use Rattle.std.specs.Prelude.{◌≡◌, ◌≢◌, ◌⊎◌, ℕ, zero, suc, ◌≤◌, true, Option, None, Some, List, ◌∷◌}
use Rattle.brc_model.specs.declared.duty.Duty.{Duty}
use Rattle.brc_model.specs.declared.duty.Duty.TheVariants.{TakeField}
use Rattle.brc_model.specs.Layout.{row_count}
use Rattle.brc_table.specs.declared.view.View.{View}
use Rattle.brc_table.specs.Views.{view_after, open_work, loading_cell}
use Rattle.brc_table.specs.KnownWords.{knows_kind, known_cell}
use Rattle.brc_table.specs.Swaps.{swapped, with_item, without_item}
use Rattle.brc_table.specs.Hands.{MayWait}

-- The hand's thread, its references, what it knows of the field of the object that it has locked, its chain and its
-- other work are as before, and so are its used rows and the hands that it has given out. It still knows the kinds that
-- it has seen.
pub record KeepsWork (v u : View) : Type 0 where
  pub layout : u.layout ≡ v.layout
  pub thread : u.thread ≡ v.thread
  pub status : u.actor.status ≡ v.actor.status
  pub references : u.references ≡ v.references
  pub used : u.actor.used ≡ v.actor.used
  pub head : u.actor.head ≡ v.actor.head
  pub given : u.given ≡ v.given
  pub taken_field : u.in_field ≡ v.in_field
  pub waits : MayWait u.actor.agenda
  pub work : open_work u ≡ open_work v
  pub kinds : (y word : ℕ) → knows_kind y word v ≡ true → knows_kind y word u ≡ true

-- The first duty is to take the resource of the dying row's object out of its field.
abbrev pub TakesField : ℕ → List Duty → Type 0
TakesField x (TakeField y ∷ rest) = y ≡ x
TakesField x _ = ⊥

-- The hand uses the field of the file or socket alone: it has locked the object, or finalises it just now.
abbrev pub HasField : View → ℕ → Type 0
HasField v x = (v.actor.locked ≡ Some x) ⊎ TakesField x v.actor.agenda

-- the row that a cell's word names, if the cell isn't empty
abbrev pub row_in : ℕ → Option ℕ
row_in zero = None
row_in (suc row) = Some row

-- the word of a cell with this item
abbrev pub word_of : Option ℕ → ℕ
word_of None = 0
word_of (Some row) = suc row

-- Beside the hand's references everything is kept.
abbrev pub KeepsBesides : View → View → Type 0
KeepsBesides v u = KeepsWork (record v { references = u.references }) u

-- Beside what the locked object's field had everything is kept.
abbrev pub KeepsButField : View → View → Type 0
KeepsButField v u = KeepsWork (record v { in_field = u.in_field }) u

-- The hand has loaded the list's cell. It has what the hand last saw or stored there since it locked or chained the
-- list, if it did, and now the hand has seen it. What it has seen of the other cells is as before.
pub record SeesItem (x cell word : ℕ) (v u : View) : Type 0 where
  pub view_is : u ≡ view_after (loading_cell v x cell) word
  pub there : word ≤ row_count v.layout
  pub stays : (before : ℕ) → known_cell x cell v ≡ Some before → word ≡ before
  pub seen : known_cell x cell u ≡ Some word
  pub others : (i : ℕ) → i ≢ cell → known_cell x i u ≡ known_cell x i v

-- The hand has put the word into the list's cell. It finds what it last saw or stored there, and now it has seen the
-- new word. The reference to the item that was in the cell is its own, and that to the new item is the cell's. What it
-- has seen of the other cells is as before.
pub record SwapsItem (x cell word found : ℕ) (v u : View) : Type 0 where
  pub view_is : u ≡ swapped v x cell word found
  pub there : found ≤ row_count v.layout
  pub stays : (before : ℕ) → known_cell x cell v ≡ Some before → found ≡ before
  pub seen : known_cell x cell u ≡ Some word
  pub others : (i : ℕ) → i ≢ cell → known_cell x i u ≡ known_cell x i v
  pub references : u.references ≡ with_item v.layout found (without_item v.layout word v.references)
