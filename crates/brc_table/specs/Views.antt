-- A hand's view as a thread of the counting machine, and what its steps make of it.
use Rattle.std.specs.Prelude.{Bool, ◌≡◌, ℕ, ◌<◌, ◌≤◌, true, ◌==◌, not, if◌then◌else◌, Option, List, [], ◌∷◌, ◌++◌, Some, length, count_by, fold, Contains}
use Rattle.std.specs.List.{filter, list_any}
use Rattle.brc_model.specs.declared.duty.Holding.TheVariants.{AsCaller}
use Rattle.brc_model.specs.declared.duty.Duty.{Duty}
use Rattle.brc_model.specs.declared.duty.Duty.TheVariants.{RetainLoad, ReleaseLoad, BirthKind, BirthField, BirthLocal, KindLoad, LockGate, UnlockGate, CellLoad, Settle, TakeField, SettleEnd, ClaimMark, MarksLoad, Leave}
use Rattle.brc_model.specs.declared.layout.Layout.{Layout}
use Rattle.brc_model.specs.Layout.{row_count, block_size, root_row, row_at, is_immortal_row}
use Rattle.brc_model.specs.Duties.{address_of, new_word, cells_of}
use Rattle.brc_model.specs.Machine.{actor_by, idle_actor}
use Rattle.brc_model.specs.OpenWork.{is_about}
use Rattle.brc_model.specs.Counting.{working}
use Rattle.brc_model.specs.CountingLaws.{IsUnfinalised}
use Rattle.brc_model.specs.FieldLaws.{FieldUse, Stays, Takes, Gives, use_of}
use Rattle.brc_model.specs.Ranges.{cells_named}
use Rattle.brc_table.specs.declared.view.View.{View}
use Rattle.brc_model.specs.declared.event.WordEvent.{WordEvent}
use Rattle.brc_table.specs.declared.view.Joined.{Joined}
use Rattle.brc_table.specs.Places.{FewFirstRows}
use Rattle.brc_table.specs.Spares.{is_spent_for}
use Rattle.brc_table.specs.KnownWords.{knows_kind}

-- ---- references

-- how many references the hand holds to the object
abbrev pub holds : View → ℕ → ℕ
holds v x = count_by (λ y. y == x) v.references

-- the rows without the first that is x
abbrev pub without_one : ℕ → List ℕ → List ℕ
without_one x [] = []
without_one x (y ∷ rows) = if y == x then rows else y ∷ without_one x rows

-- a reference more: only those to counted objects are listed
abbrev pub with_reference : Layout → ℕ → List ℕ → List ℕ
with_reference layout x rows = if is_immortal_row layout x then rows else x ∷ rows

abbrev pub without_reference : Layout → ℕ → List ℕ → List ℕ
without_reference layout x rows = if is_immortal_row layout x then rows else without_one x rows

-- ---- steps

-- the hand's own event, if its first duty finds this word
abbrev pub event_of : View → Duty → ℕ → WordEvent
event_of v d found = record {
  address = address_of v.layout v.thread v.actor.head d;
  found = found;
  left = new_word v.layout v.thread v.actor.head d found;
}

-- the rows without the first
abbrev pub behind_first : List ℕ → List ℕ
behind_first [] = []
behind_first (x ∷ rows) = rows

-- the rows whose fields the hand has taken, after a duty of its own
abbrev pub taken_after : List ℕ → FieldUse → List ℕ
taken_after rows Stays = rows
taken_after rows (Takes x) = x ∷ rows
taken_after rows (Gives x) = behind_first rows

abbrev pub view_by : View → List Duty → ℕ → View
view_by v [] found = v
view_by v (d ∷ rest) found = record v {
  actor = actor_by v.layout v.thread v.actor d rest found;
  taken = taken_after v.taken (use_of d found);
  trace = v.trace ++ event_of v d found ∷ [];
}

-- the view after its first duty has found this word
abbrev pub view_after : View → ℕ → View
view_after v found = view_by v v.actor.agenda found

-- the view after several duties, each of which finds the next of these words
abbrev pub resumed : View → List ℕ → View
resumed v founds = fold view_after v founds

-- ---- open work

-- all duties that the hand has still to do
abbrev pub open_work : View → List Duty
open_work v = v.actor.agenda ++ v.actor.aside

-- those about the row: one at most
abbrev pub work_about : ℕ → View → List Duty
work_about x v = filter (is_about x) (open_work v)

-- ---- rows

-- The first duty names no more cells than a list may have.
abbrev pub NamesFewCells : Layout → List Duty → Type 0
NamesFewCells layout [] = Unit {0}
NamesFewCells layout (d ∷ rest) = cells_named d ≤ layout.cells

-- The hand's thread is main or a worker, and the objects to which the hand holds references, those of its duties, the
-- one that it has locked and the first one of its chain have rows. The hand doesn't deallocate the object that it has
-- locked. No kind word that it has seen names more cells than a list may have. Main's rows are few.
pub record RowsAreThere (v : View) : Type 0 where
  pub few : FewFirstRows v.layout
  pub thread : v.thread ≤ v.layout.workers
  pub used : v.actor.used ≤ block_size v.layout v.thread
  pub main : v.thread ≡ 0 → v.actor.used ≡ block_size v.layout v.thread
  pub held : (x : ℕ) → 1 ≤ count_by (λ y. y == x) v.references → x < row_count v.layout
  pub agenda : (x : ℕ) → list_any (is_about x) v.actor.agenda ≡ true → x < row_count v.layout
  pub aside : (x : ℕ) → list_any (is_about x) v.actor.aside ≡ true → x < row_count v.layout
  pub work : (x : ℕ) (d : Duty) (rest : List Duty) → work_about x v ≡ d ∷ rest → x < row_count v.layout
  pub head : v.actor.head ≤ row_count v.layout
  pub cells : NamesFewCells v.layout v.actor.agenda
  pub locked : (x : ℕ) → v.actor.locked ≡ Some x → x < row_count v.layout
  pub unfinalised : (x : ℕ) → v.actor.locked ≡ Some x → IsUnfinalised x v.actor.head v.actor.agenda
  pub kinds : (x word : ℕ) → knows_kind x word v ≡ true → cells_of word ≤ v.layout.cells

-- ---- work taken up and put aside

-- the hand with these duties next, and those put aside
abbrev pub with_work : View → List Duty → List Duty → View
with_work v agenda aside = record v { actor = working v.actor agenda aside }

-- the hand with these duties next
abbrev pub with_next : View → List Duty → View
with_next v agenda = with_work v agenda v.actor.aside

-- the hand with this duty next, and all its other work put aside
abbrev pub first_of_all : Duty → View → View
first_of_all d v = with_work v (d ∷ []) (open_work v)

-- the hand with all its work put aside
abbrev pub rested : View → View
rested v = with_work v [] (open_work v)

-- The hand turns to its work about the row and puts all other work aside.
abbrev pub turned : View → ℕ → View
turned v x = with_work v (work_about x v) (filter (λ d. not (is_about x d)) (open_work v))

-- the hand begins to retain the row's object
abbrev pub retaining : View → ℕ → View
retaining v x = record (first_of_all (RetainLoad x AsCaller) v) { references = with_reference v.layout x v.references }

-- the hand begins to give up a reference to the row's object
abbrev pub releasing : View → ℕ → View
releasing v x =
    record (first_of_all (ReleaseLoad x AsCaller) v) { references = without_reference v.layout x v.references }

-- the row of the hand's next birth
abbrev pub next_row : View → ℕ
next_row v = row_at v.layout v.thread v.actor.used

-- the hand begins the birth of an object with this kind word
abbrev pub bearing : View → ℕ → View
bearing v word =
    record (first_of_all (BirthKind (next_row v) AsCaller word) v) { references = next_row v ∷ v.references }

-- the hand begins to ask for the kind of the row's object
abbrev pub asking : View → ℕ → View
asking v x = first_of_all (KindLoad x) v

-- the hand begins to lock the row's object, whose field holds n resources
abbrev pub locking : View → ℕ → ℕ → View
locking v x n = record (first_of_all (LockGate x) v) { in_field = n }

-- the hand begins to unlock the row's object, or to load a cell of it

abbrev pub unlocking : View → ℕ → View
unlocking v x = first_of_all (UnlockGate x) v

abbrev pub loading_cell : View → ℕ → ℕ → View
loading_cell v x i = first_of_all (CellLoad x i) v

-- the agenda of a hand that settles its chain, or goes on to
abbrev pub settle_first : List Duty → List Duty
settle_first [] = Settle ∷ []
settle_first (d ∷ rest) = d ∷ rest

-- the hand begins to settle its chain, unless it does already
abbrev pub settling : View → View
settling v = with_next v (settle_first v.actor.agenda)

-- the hand begins to claim the mark of a row of its own block
abbrev pub claiming : View → ℕ → View
claiming v x = with_next v (ClaimMark x ∷ [])

-- the hand begins to load a mark word of its own block
abbrev pub loading_marks : View → ℕ → View
loading_marks v w = with_next v (MarksLoad w ∷ [])

-- the hand begins to leave
abbrev pub leaving : View → View
leaving v = with_next v (Leave 0 v.actor.used ∷ [])

-- ---- fields

-- The hand has put the resource into the field of the new object, if that has one: by this no word changes.
abbrev pub field_filled_by : List Duty → View → View
field_filled_by (BirthField x h ∷ rest) v = with_next v (BirthLocal x h ∷ rest)
field_filled_by _ v = v

abbrev pub field_filled : View → View
field_filled v = field_filled_by v.actor.agenda v

-- The hand has taken the resource out of the field of the dying object, if that has one, and the host has closed it.
abbrev pub field_emptied_by : List Duty → View → View
field_emptied_by (TakeField x ∷ rest) v = with_next v (SettleEnd x ∷ rest)
field_emptied_by _ v = v

abbrev pub field_emptied : View → View
field_emptied v = field_emptied_by v.actor.agenda v

-- ---- the hands that main has given out

-- Says whether main has given out the thread's hand.
abbrev pub is_given : ℕ → View → Bool
is_given thread main = list_any (λ t. t == thread) main.given

-- Main has a spare for each worker, or has spent it.
abbrev pub HasSpares : {A : Type 0} → List (Option A) → View → Type 0
HasSpares spares main = main.thread ≡ 0 → length spares ≡ main.layout.workers

-- A thread's spare is spent exactly if main has given out the thread's hand.
abbrev pub IsGivenBy : {A : Type 0} → List (Option A) → View → Type 0
IsGivenBy spares main = (t : ℕ) → is_spent_for spares t ≡ is_given t main

-- ---- the hands that a hand has joined

-- The hand has joined this one.
abbrev pub HasJoined : View → Joined → Type 0
HasJoined v hand = Contains v.joined hand

-- The hand has joined the thread's.
abbrev pub IsJoined : ℕ → View → Type 0
IsJoined thread v = (used : ℕ) × HasJoined v (record { thread = thread; used = used })

-- ---- the first hands

-- the hand of a running thread that has used these rows, and holds the root
abbrev pub fresh_view : Layout → ℕ → ℕ → View
fresh_view layout thread used = record {
  layout = layout;
  thread = thread;
  actor = idle_actor used;
  references = root_row ∷ [];
  taken = [];
  in_field = 0;
  given = [];
  joined = [];
  trace = [];
}

-- main's hand
abbrev pub main_view : Layout → View
main_view layout = fresh_view layout 0 (block_size layout 0)

-- main's hand after it has given out the thread's, with one of its references to the root
abbrev pub giving : View → ℕ → View
giving v thread = record v {
  references = without_one root_row v.references;
  given = thread ∷ v.given;
}

-- a worker's hand, just given out
abbrev pub worker_view : Layout → ℕ → View
worker_view layout thread = fresh_view layout thread 0
