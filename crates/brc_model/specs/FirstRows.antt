-- The rows that are there from the start: none's, the root's, those of the immortal lists, and those of the numbers in
-- the lists' cells. Each line of values is an immortal list, as long as the line, whose cells name new numbers with the
-- line's values. Main owns the numbers, and they are counted. (PEP 683: an immortal object is never deallocated.)
use Rattle.std.specs.Prelude.{◌≡◌, ℕ, zero, suc, ◌+◌, ◌-◌, ◌*◌, ◌<◌, ◌≤◌, if◌then◌else◌, nat_lt, List, [], ◌∷◌, ◌++◌, length, get_or}
use Rattle.std.specs.List.{AllByRecursion, sum_by}
use Rattle.brc_word.specs.declared.values.TheConstants.{EMPTY, NONE, NUM, LIST}
use Rattle.brc_word.specs.Words.{half, immortal_local, local_word}
use Rattle.brc_lang.specs.declared.kind.Kind.{Kind}
use Rattle.brc_lang.specs.declared.kind.Kind.TheVariants as kinds
use Rattle.brc_model.specs.declared.layout.Layout.{Layout}
use Rattle.brc_model.specs.Limits.{root_cells, immortal_limit}
use Rattle.brc_model.specs.Layout.{row_count, by_row, first_immortal_list, first_number}
use Rattle.brc_model.specs.AbstractState.{Reference}
use Rattle.brc_model.specs.References.{cell_reference}
use Rattle.brc_model.specs.Machine.{Life, Unborn, Live}

-- ---- lines

-- the line with this number
abbrev pub line_at : List (List ℕ) → ℕ → List ℕ
line_at lines s = get_or lines s []

-- the number of values of the lines before line s
abbrev pub start : List (List ℕ) → ℕ → ℕ
start lines zero = 0
start [] (suc s) = 0
start (line ∷ lines) (suc s) = length line + start lines s

-- the number of all values
abbrev pub value_count : List (List ℕ) → ℕ
value_count lines = sum_by length lines

-- the value with this number, counted over all lines
abbrev pub value_of : List (List ℕ) → ℕ → ℕ
value_of [] k = 0
value_of (line ∷ lines) k = if nat_lt k (length line) then get_or line k 0 else value_of lines (k - length line)

-- a line has at most this number of values, each of half a word
abbrev pub IsLine : ℕ → List ℕ → Type 0
IsLine most line = (length line ≤ most) × AllByRecursion (λ value. value < half) line

-- The layout has the rows of the lines, and no list is longer than lists of the layout are.
pub record HasLines (lines : List (List ℕ)) (layout : Layout) : Type 0 where
  pub few : length lines ≤ immortal_limit
  pub lists : layout.immortal_lists ≡ length lines
  pub numbers : layout.numbers ≡ value_count lines
  pub each : AllByRecursion (IsLine layout.cells) lines

-- ---- rows

-- what a row has at the start
pub data FirstRow : Type 0 where
  NoneRow : FirstRow
  RootRow : FirstRow
  -- the immortal list with this number
  ImmortalList : ℕ → FirstRow
  -- the number with this number, counted over all lines
  Number : ℕ → FirstRow
  -- no object yet
  UnbornRow : FirstRow

-- what a row after none's and the root's has
abbrev pub later_row : Layout → ℕ → FirstRow
later_row layout x =
    if nat_lt x (first_immortal_list layout) then UnbornRow
    else if nat_lt x (first_number layout) then ImmortalList (x - first_immortal_list layout)
    else if nat_lt x (row_count layout) then Number (x - first_number layout)
    else UnbornRow

abbrev pub first_row : Layout → ℕ → FirstRow
first_row layout x = by_row NoneRow RootRow (later_row layout x) x

-- ---- the first words

-- None and the lists are immortal. The root's local count is the number of threads that hold it, and the local count of
-- a number is 1, for the cell that names it.
abbrev pub local_of_first : ℕ → FirstRow → ℕ
local_of_first callers NoneRow = local_word 0 immortal_local
local_of_first callers RootRow = local_word 0 callers
local_of_first callers (ImmortalList s) = local_word 0 immortal_local
local_of_first callers (Number k) = local_word 0 1
local_of_first callers UnbornRow = 0

abbrev pub kind_word_of_first : List (List ℕ) → FirstRow → ℕ
kind_word_of_first lines NoneRow = NONE * half
kind_word_of_first lines RootRow = LIST * half + root_cells
kind_word_of_first lines (ImmortalList s) = LIST * half + length (line_at lines s)
kind_word_of_first lines (Number k) = NUM * half + value_of lines k
kind_word_of_first lines UnbornRow = 0

-- the row's first kind word
abbrev pub first_kind_word : List (List ℕ) → Layout → ℕ → ℕ
first_kind_word lines layout x = kind_word_of_first lines (first_row layout x)

-- The word of a list's cell names the number in the cell, where the numbers begin with this row.
abbrev pub word_in_list : List (List ℕ) → ℕ → ℕ → ℕ → ℕ
word_in_list lines first s i = if nat_lt i (length (line_at lines s)) then first + start lines s + i + 1 else EMPTY

abbrev pub cell_of_first : List (List ℕ) → Layout → ℕ → FirstRow → ℕ
cell_of_first lines layout i (ImmortalList s) = word_in_list lines (first_number layout) s i
cell_of_first lines layout i _ = EMPTY

-- ---- the first lives, kinds and references

abbrev pub life_of_first : FirstRow → Life
life_of_first UnbornRow = Unborn
life_of_first _ = Live

-- the row's first life
abbrev pub first_life : Layout → ℕ → Life
first_life layout x = life_of_first (first_row layout x)

-- A row that isn't born has no kind yet.
abbrev pub kind_of_first : FirstRow → Kind
kind_of_first NoneRow = kinds.None
kind_of_first RootRow = kinds.List
kind_of_first (ImmortalList s) = kinds.List
kind_of_first (Number k) = kinds.Num
kind_of_first UnbornRow = kinds.Any

-- the row's first kind
abbrev pub first_kinds : Layout → ℕ → Kind
first_kinds layout x = kind_of_first (first_row layout x)

-- this number of rows, from this one on
abbrev pub rows_from : ℕ → ℕ → List ℕ
rows_from first zero = []
rows_from first (suc n) = first ∷ rows_from (suc first) n

-- the references of the list's first cells, of which the first names this row and each other the next one
abbrev pub line_references : ℕ → ℕ → ℕ → List Reference
line_references list first zero = []
line_references list first (suc i) = cell_reference list i (first + i) ∷ line_references list first i

-- the references of the cells of the lists, of which the first one has this row, where the numbers begin with a row
abbrev pub list_references : ℕ → ℕ → List (List ℕ) → List Reference
list_references list first [] = []
list_references list first (line ∷ lines) =
    line_references list first (length line) ++ list_references (suc list) (first + length line) lines
