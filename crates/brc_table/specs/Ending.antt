-- What is left when no thread shares a table any more.
use Rattle.std.specs.Prelude.{◌≡◌, ◌≢◌, ◌⊎◌, ℕ, ◌+◌, ◌<◌, ◌≤◌, true, ◌==◌, if◌then◌else◌, Option, List, map, slice_index}
use mathlib.Core.Option.{some}
use lib.ListN.{get_elem?}
use Rattle.atomic_table.specs.Seated.{TableId}
use Rattle.brc_word.specs.Words.{closed_word}
use Rattle.brc_model.specs.declared.address.Address.TheVariants.{Field}
use Rattle.brc_model.specs.declared.layout.Layout.{Layout}
use Rattle.brc_model.specs.Duties.{resources_of}
use Rattle.brc_model.specs.Layout.{row_count, IsCounted}
use Rattle.brc_model.specs.FieldLaws.{UsesField}
use Rattle.brc_model.specs.FirstRows.{first_kind_word}
use Rattle.brc_table.specs.Plan.{Plan}
use Rattle.brc_table.specs.declared.view.View.{View}
use Rattle.brc_table.specs.Homes.{resources, times_taken, IsHome}
use Rattle.brc_table.specs.Places.{gate_line, kind_line, in_tile, cell_place}
use Rattle.brc_table.specs.Rule.{Stands}
use Rattle.brc_table.specs.KnownWords.{knows_gone}
use Rattle.brc_table.specs.Threads.{thread_word}
use Rattle.brc_table.specs.Peeks.{NeverStarted}

-- A closed table, as contracts see it: which one it was, its size, the lines of its immortal lists, its last words, and
-- how many resources each row's field holds.
pub record EndState : Type 0 where
  pub table : TableId
  pub layout : Layout
  pub lines : List (List ℕ)
  pub words : List ℕ
  pub fields : List ℕ

-- A closed table whose fields hold resources of the type `T`: what it says, and what each row's field holds.
pub record ClosedTable (T : Type 0) : Type 0 where
  pub state : EndState
  pub fields : List (Option T)

-- how many resources each of these fields holds
abbrev pub resources_in : {T : Type 0} → List (Option T) → List ℕ
resources_in fields = map resources fields

-- how many the row's field holds
abbrev pub field_at : List ℕ → ℕ → ℕ
field_at fields x = slice_index fields x

-- the plan that the closed table was made by
abbrev pub plan_at : EndState → Plan
plan_at end = record { layout = end.layout; lines = end.lines }

-- The table was closed with this hand: its last words meet the rule, beside this view and those of the other hands.
pub record EndsWith (v : View) (end : EndState) : Type 0 where
  pub views : List View
  pub id : ℕ
  pub here : get_elem? views id ≡ some v
  pub stands : Stands (plan_at end) end.words views
  -- a field that no hand has taken holds as many resources as the counting machine says
  pub homes : (x : ℕ) → x < row_count end.layout → IsHome views x
      → field_at end.fields x ≡ stands.machine.memory (Field x)
  -- a hand that has taken a field uses it
  pub used : (other x : ℕ) (w : View) → get_elem? views other ≡ some w → 1 ≤ times_taken x w → UsesField w.actor x

-- ---- threads

-- The hand has seen that the thread is gone; or it is main's, and has never started the thread.
abbrev pub SeesEnd : View → ℕ → Type 0
SeesEnd v t = (knows_gone t v ≡ true) ⊎ NeverStarted v t

-- Each thread is gone, or was never started.
abbrev pub HaveEnded : Layout → List ℕ → Type 0
HaveEnded layout words =
    (t : ℕ) → t ≤ layout.workers → (thread_word words t ≡ 3) ⊎ (thread_word words t ≡ 0)

-- What main's hand has seen of the ends of threads is so when the table is closed.
abbrev pub SeenEndsAreSo : Type 0
SeenEndsAreSo = (v : View) (end : EndState) → EndsWith v end → v.thread ≡ 0
    → ((t : ℕ) → t ≤ end.layout.workers → SeesEnd v t) → HaveEnded end.layout end.words

-- ---- rows

abbrev pub kind_at : List ℕ → ℕ → ℕ
kind_at words x = slice_index words (in_tile kind_line x)

abbrev pub gate_at : List ℕ → ℕ → ℕ
gate_at words x = slice_index words (in_tile gate_line x)

abbrev pub cell_at : Layout → List ℕ → ℕ → ℕ → ℕ
cell_at layout words x i = slice_index words (cell_place layout x i)

-- What a cell has is 0, or the number of a row plus 1.
abbrev pub CellsNameRows : Layout → List ℕ → Type 0
CellsNameRows layout words =
    (y i : ℕ) → y < row_count layout → i < layout.cells → cell_at layout words y i ≤ row_count layout

-- A cell of a list that isn't closed names the row.
pub record IsNamed (layout : Layout) (words : List ℕ) (x : ℕ) : Type 0 where
  pub list : ℕ
  pub cell : ℕ
  pub there : list < row_count layout
  pub low : cell < layout.cells
  pub names : cell_at layout words list cell ≡ x + 1
  pub not_closed : gate_at words list ≢ closed_word

-- What the words say of a row. Its kind word isn't 0 exactly if it was born, and its gate says whether it is closed.
-- Exactly the born rows that no cell of an open list names are closed, and the cells of a closed one are empty.
pub record RowEnds (layout : Layout) (words : List ℕ) (x : ℕ) : Type 0 where
  pub left : 0 < kind_at words x → gate_at words x ≢ closed_word → IsNamed layout words x
  pub closed_born : gate_at words x ≡ closed_word → 0 < kind_at words x
  pub closed_unnamed : gate_at words x ≡ closed_word → (y i : ℕ) → y < row_count layout → i < layout.cells
      → cell_at layout words y i ≢ x + 1
  pub closed_empty : gate_at words x ≡ closed_word → (i : ℕ) → i < layout.cells → cell_at layout words x i ≡ 0

-- The kind word of a row that was there from the start is the row's first one.
abbrev pub FirstKindsStay : Type 0
FirstKindsStay = (v : View) (end : EndState) (x : ℕ) → EndsWith v end → 0 < first_kind_word end.lines end.layout x
    → x < row_count end.layout → kind_at end.words x ≡ first_kind_word end.lines end.layout x

-- Once each thread is gone or was never started, this holds of each counted row.
abbrev pub RowsEnd : Type 0
RowsEnd = (plan : Plan) (words : List ℕ) (views : List View) (x : ℕ) → Stands plan words views
    → HaveEnded plan.layout words → IsCounted plan.layout x → x < row_count plan.layout → RowEnds plan.layout words x

-- ---- fields

-- The row's field is empty if the row is closed, and else it has the resource of the row's object, if the kind has one.
abbrev pub FieldEnds : EndState → ℕ → Type 0
FieldEnds end x =
    field_at end.fields x ≡ (if gate_at end.words x == closed_word then 0 else resources_of (kind_at end.words x))

-- Once each thread is gone or was never started, this holds of each counted row.
abbrev pub FieldsEnd : Type 0
FieldsEnd = (v : View) (end : EndState) (x : ℕ) → EndsWith v end → HaveEnded end.layout end.words
    → IsCounted end.layout x → x < row_count end.layout → FieldEnds end x
