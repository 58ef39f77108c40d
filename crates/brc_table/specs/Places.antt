-- Where each word of the table is. The thread words come first, and then the mark words. Those of a thread's block have
-- cache lines of their own, so that two threads that look through their queues share no line. Then come the tiles.
-- Eight rows share a tile, and in a tile a cache line of eight words has their local words, the next one their shared
-- words, and so on, so that an owner and another thread don't write to one line. Behind the tiles are the cells of each
-- row, as many as the layout says.
use Rattle.std.specs.Prelude.{ℕ, ◌+◌, ◌-◌, ◌*◌, ◌/◌, ◌%◌, ◌<◌, ◌≤◌}
use Rattle.brc_model.specs.declared.address.Address.{Address}
use Rattle.brc_model.specs.declared.address.Address.TheVariants.{Local, Shared, Gate, KindOf, Marks, Cell, Field, Resource, ThreadWord}
use Rattle.brc_model.specs.declared.layout.Layout.{Layout}
use Rattle.brc_model.specs.Layout.{rear_rows, row_count, mark_words_of}
use Rattle.brc_model.specs.Limits.{thread_limit, immortal_limit, number_limit}

-- the words of a cache line
abbrev pub line : ℕ
line = 8

-- the words in front of the mark words: five lines of thread words
abbrev pub marks_front : ℕ
marks_front = 40

-- the words kept for the mark words of a block: three lines
abbrev pub mark_room : ℕ
mark_room = 24

-- the words in front of the tiles
abbrev pub front : ℕ
front = marks_front + mark_room * thread_limit

-- the lines of a tile: of local words, of shared words, of gates and of kind words
abbrev pub tile_lines : ℕ
tile_lines = 4

-- the words of a tile
abbrev pub tile : ℕ
tile = line * tile_lines

abbrev pub local_line : ℕ
local_line = 0

abbrev pub shared_line : ℕ
shared_line = 1

abbrev pub gate_line : ℕ
gate_line = 2

abbrev pub kind_line : ℕ
kind_line = 3

-- the place of a row's word, in the line of the tile with this number
abbrev pub in_tile : ℕ → ℕ → ℕ
in_tile number row = front + tile * (row / line) + line * number + row % line

-- the number of tiles, the last of which may have fewer rows
abbrev pub tiles : Layout → ℕ
tiles layout = (row_count layout + (line - 1)) / line

-- the words in front of the cells
abbrev pub cells_front : Layout → ℕ
cells_front layout = front + tile * tiles layout

-- the place of a row's cell
abbrev pub cell_place : Layout → ℕ → ℕ → ℕ
cell_place layout row cell = cells_front layout + layout.cells * row + cell

-- the place of the word at the address. A field and a resource have no word.
abbrev pub place : Layout → Address → ℕ
place layout (Local x) = in_tile local_line x
place layout (Shared x) = in_tile shared_line x
place layout (Gate x) = in_tile gate_line x
place layout (KindOf x) = in_tile kind_line x
place layout (Marks t w) = marks_front + mark_room * t + w
place layout (Cell x i) = cell_place layout x i
place layout (Field x) = 0
place layout (Resource x) = 0
place layout (ThreadWord t) = t

-- The address has a word in a table with this layout.
abbrev pub HasWord : Layout → Address → Type 0
HasWord layout (Local x) = x < row_count layout
HasWord layout (Shared x) = x < row_count layout
HasWord layout (Gate x) = x < row_count layout
HasWord layout (KindOf x) = x < row_count layout
HasWord layout (Marks t w) = (t < 1 + layout.workers) × (w < mark_words_of layout t)
HasWord layout (Cell x i) = (x < row_count layout) × (i < layout.cells)
HasWord layout (Field x) = ⊥
HasWord layout (Resource x) = ⊥
HasWord layout (ThreadWord t) = t < 1 + layout.workers

-- The word belongs to objects, and isn't a thread's.
abbrev pub IsObjectWord : Address → Type 0
IsObjectWord (Field x) = ⊥
IsObjectWord (Resource x) = ⊥
IsObjectWord (ThreadWord t) = ⊥
IsObjectWord _ = Unit {0}

-- The address has a word of the table, of objects or of a thread.
abbrev pub IsTableWord : Address → Type 0
IsTableWord (Field x) = ⊥
IsTableWord (Resource x) = ⊥
IsTableWord _ = Unit {0}

-- the number of words of the table
abbrev pub word_count : Layout → ℕ
word_count layout = cells_front layout + layout.cells * row_count layout

-- The immortal lists, and the numbers in them, are few. So the mark words of main's block have room too.
abbrev pub FewFirstRows : Layout → Type 0
FewFirstRows layout = rear_rows layout ≤ immortal_limit + number_limit
