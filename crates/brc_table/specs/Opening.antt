-- The first words of a table: those of none and the root, of each line's immortal list and of the numbers in its cells.
use Rattle.std.specs.Prelude.{◌≡◌, ℕ, ◌+◌, ◌-◌, ◌*◌, ◌/◌, ◌%◌, ◌<◌, ◌≤◌, ◌==◌, if◌then◌else◌, nat_lt, List, length, slice_index}
use Rattle.brc_word.specs.declared.values.TheConstants.{NONE, LIST}
use Rattle.brc_word.specs.Words.{half, immortal_local, local_word, fresh_word, free_word}
use Rattle.brc_model.specs.declared.address.Address.{Address}
use Rattle.brc_model.specs.declared.address.Address.TheVariants.{Local, Shared, Gate, KindOf, Marks, Cell, Field, Resource, ThreadWord}
use Rattle.brc_model.specs.declared.layout.Layout.{Layout}
use Rattle.brc_model.specs.Layout.{none_row, root_row, by_row}
use Rattle.brc_model.specs.Limits.{root_cells}
use Rattle.brc_model.specs.StepMachine.{rooted_memory}
use Rattle.brc_table.specs.Places.{line, local_line, shared_line, gate_line, kind_line, front, tile, in_tile, cells_front, word_count, place, HasWord}
use Rattle.brc_table.specs.Rule.{reading}
use Rattle.brc_table.specs.Threads.{thread_word}

-- ---- without immortal lists

-- the first value of each word in the line of a tile: a row has a shared count of 0, and its gate is free
abbrev pub blank_line : ℕ → ℕ
blank_line number = if number == shared_line then fresh_word else if number == gate_line then free_word else 0

-- The first value of the word at the place, unless it is a cell, or none's or the root's local word or kind word: main
-- runs, the workers aren't started, and no row is born.
abbrev pub blank_word : ℕ → ℕ
blank_word index =
    if nat_lt index front then if index == 0 then 1 else 0 else blank_line ((index - front) % tile / line)

-- The first value of the word at the place, unless it is a cell. None is immortal, and the root is a list to which main
-- holds the only reference.
abbrev pub first_word : ℕ → ℕ
first_word index =
    if index == in_tile local_line none_row then local_word 0 immortal_local
    else if index == in_tile local_line root_row then local_word 0 1
    else if index == in_tile kind_line none_row then half
    else if index == in_tile kind_line root_row then 3 * half + root_cells
    else blank_word index

-- The words are the first words of a table with this layout, but for those of immortal lists and of their numbers.
pub record ArePlain (layout : Layout) (words : List ℕ) : Type 0 where
  pub length_is : length words ≡ word_count layout
  pub each : (index : ℕ) → index < cells_front layout → slice_index words index ≡ first_word index
  -- all cells are empty
  pub cells : (index : ℕ) → cells_front layout ≤ index → index < word_count layout → slice_index words index ≡ 0

-- the same by address: main runs, the workers aren't started, no row but none's and the root's is born, and all cells
-- are empty
abbrev pub plain_memory : Address → ℕ
plain_memory (Local x) = by_row (local_word 0 immortal_local) (local_word 0 1) 0 x
plain_memory (Shared x) = fresh_word
plain_memory (Gate x) = free_word
plain_memory (KindOf x) = by_row (NONE * half) (LIST * half + root_cells) 0 x
plain_memory (Marks t w) = 0
plain_memory (Cell x i) = 0
plain_memory (Field x) = 0
plain_memory (Resource x) = 0
plain_memory (ThreadWord t) = if t == 0 then 1 else 0

-- ---- with immortal lists

-- The words of a table with this layout are those of the memory.
abbrev pub AreWordsOf : Layout → List ℕ → (Address → ℕ) → Type 0
AreWordsOf layout words memory = (a : Address) → HasWord layout a → slice_index words (place layout a) ≡ memory a

-- The words are the first words of a table with this layout and these lines. Main runs, and holds the only reference to
-- the root. The workers aren't started.
pub record AreFirst (lines : List (List ℕ)) (layout : Layout) (words : List ℕ) : Type 0 where
  pub length_is : length words ≡ word_count layout
  pub each : (a : Address) → HasWord layout a
      → reading a (slice_index words (place layout a)) ≡ rooted_memory lines layout 1 a
  pub main_runs : thread_word words 0 ≡ 1
  pub workers_wait : (t : ℕ) → 0 < t → t ≤ layout.workers → thread_word words t ≡ 0
