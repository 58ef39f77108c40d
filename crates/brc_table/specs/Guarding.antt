-- What holds of a table between any two steps of its hands, beside the counts: marks that are set are watched, cells
-- change under their list's lock alone, a running thread alone changes the local words of its block, a hand whose
-- thread is gone holds nothing, and one hand at a time has taken a field that is out of the table.
use Rattle.std.specs.Prelude.{◌≡◌, ◌≢◌, ◌⊎◌, ℕ, ◌<◌, ◌≤◌, true, Option, List, [], ◌∷◌, None, Some, slice_index}
use Rattle.std.specs.List.{list_any}
use mathlib.Core.Option as home
use mathlib.Core.Option.{some}
use lib.ListN.{get_elem?}
use Rattle.brc_word.specs.declared.values.TheConstants.{UNSET}
use Rattle.brc_word.specs.Words.{locked_word}
use Rattle.brc_model.specs.declared.duty.Duty.{Duty}
use Rattle.brc_model.specs.declared.actor.Status.TheVariants.{Leaving, Gone}
use Rattle.brc_model.specs.declared.address.Address.{Address}
use Rattle.brc_model.specs.declared.address.Address.TheVariants.{Local, Cell}
use Rattle.brc_model.specs.declared.layout.Layout.{Layout}
use Rattle.brc_model.specs.Layout.{row_count, block_of, index_of, root_row, IsCounted}
use Rattle.brc_model.specs.Limits.{root_cells}
use Rattle.brc_model.specs.Actions.{list_word}
use Rattle.brc_model.specs.Duties.{address_of, new_word}
use Rattle.brc_model.specs.OpenWork.{is_finalising}
use Rattle.brc_model.specs.Watched.{looks_at, scans_over}
use Rattle.brc_model.specs.FieldLaws.{UsesField}
use Rattle.brc_table.specs.Plan.{Plan}
use Rattle.brc_table.specs.declared.view.View.{View}
use Rattle.brc_table.specs.Places.{place, HasWord}
use Rattle.brc_table.specs.Views.{holds, open_work}
use Rattle.brc_table.specs.Hands.{IsFirst}
use Rattle.brc_table.specs.Swaps.{MaySwap}
use Rattle.brc_table.specs.Rule.{thread_reading, Stands}
use Rattle.brc_table.specs.Homes.{times_taken, TableStands}
use Rattle.brc_table.specs.Threads.{thread_word}
use Rattle.brc_table.specs.Ending.{kind_at, gate_at}
use Rattle.brc_table.specs.Agreeing.{row_mark}

-- what the word of a thread says of it
abbrev pub thread_says : List ℕ → ℕ → ℕ
thread_says words t = thread_reading (thread_word words t)

-- The thread of the row's block runs or isn't started; or its hand is leaving, and still has to load the row's mark
-- word, or to take the mark, which it has found there; or some hand has the duty to look at the mark.
pub data IsWatched (layout : Layout) (words : List ℕ) (views : List View) (x : ℕ) : Type 0 where
  ByRunning : thread_says words (block_of layout x) ≡ 1 → IsWatched layout words views x
  ByExit : (id : ℕ) (v : View) → get_elem? views id ≡ some v → v.thread ≡ block_of layout x → v.actor.status ≡ Leaving
      → list_any (scans_over (index_of layout (block_of layout x) x)) v.actor.agenda ≡ true
      → IsWatched layout words views x
  ByLook : (id : ℕ) (v : View) → get_elem? views id ≡ some v → list_any (looks_at x) (open_work v) ≡ true
      → IsWatched layout words views x

-- Each mark that is set is watched.
abbrev pub SetMarksAreWatched : Type 0
SetMarksAreWatched = (plan : Plan) (words : List ℕ) (views : List View) (x : ℕ) → Stands plan words views
    → x < row_count plan.layout → row_mark plan.layout words x ≢ UNSET → IsWatched plan.layout words views x

-- The hand's first duty is about the word at the address, which the table has, and changes it.
pub record ChangesWord (plan : Plan) (words : List ℕ) (views : List View) (v : View) (d : Duty) (a : Address)
    : Type 0 where
  pub stands : Stands plan words views
  pub id : ℕ
  pub here : get_elem? views id ≡ some v
  pub rest : List Duty
  pub agenda : v.actor.agenda ≡ d ∷ rest
  pub alive : v.actor.status ≢ Gone
  pub there : HasWord plan.layout a
  pub at : address_of plan.layout v.thread v.actor.head d ≡ a
  pub other : new_word plan.layout v.thread v.actor.head d (slice_index words (place plan.layout a))
      ≢ slice_index words (place plan.layout a)

-- The hand has locked the row's object, and the object's gate names the hand's thread.
abbrev pub HoldsGate : List ℕ → View → ℕ → Type 0
HoldsGate words v x = (v.actor.locked ≡ Some x) × (gate_at words x ≡ locked_word v.thread)

-- A duty that changes a cell is of the hand that has locked the list, or it is a step of the list's deallocation.
abbrev pub OnlyHoldersChangeCells : Type 0
OnlyHoldersChangeCells = (plan : Plan) (words : List ℕ) (views : List View) (v : View) (d : Duty) (x i : ℕ)
    → ChangesWord plan words views v d (Cell x i) → HoldsGate words v x ⊎ (is_finalising d x ≡ true)

-- A hand that may swap a cell, which is a step of no duty, holds the list's gate, or deallocates the list: the list is
-- the first object of the hand's dying chain.
abbrev pub OnlyHoldersSwapCells : Type 0
OnlyHoldersSwapCells = (plan : Plan) (words : List ℕ) (views : List View) (id : ℕ) (v : View) (x i word : ℕ)
    → Stands plan words views → get_elem? views id ≡ some v → MaySwap v x i word
    → HoldsGate words v x ⊎ IsFirst v x

-- While the thread of a row's block runs, a step that changes the row's local word is of that thread's hand.
abbrev pub OnlyRunningOwnersCount : Type 0
OnlyRunningOwnersCount = (plan : Plan) (words : List ℕ) (views : List View) (v : View) (d : Duty) (x : ℕ)
    → ChangesWord plan words views v d (Local x) → thread_says words (block_of plan.layout x) ≡ 1
    → v.thread ≡ block_of plan.layout x

-- The hand has nothing to do, holds no reference to a counted object and no lock, has taken no row's field, and its
-- chain is empty.
pub record HoldsNothing (layout : Layout) (v : View) : Type 0 where
  pub none : (x : ℕ) → IsCounted layout x → holds v x ≡ 0
  pub agenda : v.actor.agenda ≡ []
  pub aside : v.actor.aside ≡ []
  pub settled : v.actor.head ≡ 0
  pub unlocked : v.actor.locked ≡ None
  pub none_taken : v.taken ≡ []

-- The thread has a hand, and is gone.
pub record HasGoneHand (views : List View) (t : ℕ) : Type 0 where
  pub id : ℕ
  pub view : View
  pub here : get_elem? views id ≡ some view
  pub thread : view.thread ≡ t
  pub status : view.actor.status ≡ Gone

-- A hand whose thread is gone holds nothing. `T` is the type of the table's resources.
abbrev pub GoneHandsHoldNothing : Type 0 → Type 0
GoneHandsHoldNothing T =
    (plan : Plan) (words : List ℕ) (homes : List (home.Option (Option T))) (views : List View) (id : ℕ) (v : View)
    → TableStands plan words homes views → get_elem? views id ≡ some v → v.actor.status ≡ Gone
    → HoldsNothing plan.layout v

-- A thread's word is 3 exactly where the thread has a hand and is gone.
pub record GoneWordsTell : Type 0 where
  pub told : (plan : Plan) (words : List ℕ) (views : List View) (id : ℕ) (v : View) → Stands plan words views
      → get_elem? views id ≡ some v → v.actor.status ≡ Gone → thread_word words v.thread ≡ 3
  pub gone : (plan : Plan) (words : List ℕ) (views : List View) (t : ℕ) → Stands plan words views
      → t ≤ plan.layout.workers → thread_word words t ≡ 3 → HasGoneHand views t

-- A thread that has a hand is started.
abbrev pub HandsAreStarted : Type 0
HandsAreStarted = (plan : Plan) (words : List ℕ) (views : List View) (id : ℕ) (v : View)
    → Stands plan words views → get_elem? views id ≡ some v → 0 < thread_word words v.thread

-- ---- sizes and fields

-- Each hand's view has the table's number of workers and rows, so it is the same in all views.
abbrev pub ViewsKeepTheLayout : Type 0
ViewsKeepTheLayout = (plan : Plan) (words : List ℕ) (views : List View) (id : ℕ) (v : View)
    → Stands plan words views → get_elem? views id ≡ some v → v.layout ≡ plan.layout

-- The root is a list of eight cells.
abbrev pub RootIsAList : Type 0
RootIsAList = (plan : Plan) (words : List ℕ) (views : List View) → Stands plan words views
    → kind_at words root_row ≡ list_word root_cells

-- One hand has taken the row's field, once, and uses it; no other hand has taken it.
pub record IsTakenAlone (views : List View) (x : ℕ) : Type 0 where
  pub id : ℕ
  pub view : View
  pub here : get_elem? views id ≡ some view
  pub once : times_taken x view ≡ 1
  pub used : UsesField view.actor x
  pub others : (other : ℕ) (w : View) → get_elem? views other ≡ some w → other ≢ id → times_taken x w ≡ 0

-- While a row's field isn't at home in the table, one hand has taken it. `T` is the type of the table's resources.
abbrev pub TakenFieldsAreAlone : Type 0 → Type 0
TakenFieldsAreAlone T =
    (plan : Plan) (words : List ℕ) (homes : List (home.Option (Option T))) (views : List View) (x : ℕ)
    → TableStands plan words homes views → x < row_count plan.layout → get_elem? homes x ≡ some home.none
    → IsTakenAlone views x
