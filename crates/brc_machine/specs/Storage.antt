-- The words of a world in columns, and the word at each address.
use Rattle.std.specs.Prelude.{◌≡◌, ℕ, ◌+◌, ◌*◌, ◌<◌, ◌≤◌, nat_lt, if◌then◌else◌, List, length}
use Rattle.std.specs.List.{slice_index_or}
use Rattle.brc_word.specs.Words.{fresh_word}
use Rattle.brc_model.specs.Limits.{cell_limit, row_limit, immortal_limit, number_limit}
use Rattle.brc_model.specs.Machine.{written}
use Rattle.brc_model.specs.declared.address.Address.{Address}
use Rattle.brc_model.specs.declared.address.Address.TheVariants.{Local, Shared, Gate, KindOf, Marks, Cell, Field, Resource, ThreadWord}
use Rattle.brc_model.specs.declared.layout.Layout.{Layout}
use Rattle.brc_model.specs.Layout.{row_count}

-- the number of mark words of each thread: no block has more rows than they have marks
abbrev pub mark_room : ℕ
mark_room = 17

-- one list for each sort of word; the cells of a row are side by side, and so are the mark words of a thread
pub record Columns : Type 0 where
  pub local : List ℕ
  pub shared : List ℕ
  pub gate : List ℕ
  pub kind : List ℕ
  pub mark : List ℕ
  pub cell : List ℕ
  pub field : List ℕ
  pub resource : List ℕ
  pub thread : List ℕ
  -- the number of cells of each row
  pub width : ℕ

-- the word at the address; an address without a word has the value that such a word has at first
abbrev pub word_in : Columns → Address → ℕ
word_in c (Local x) = slice_index_or c.local x 0
word_in c (Shared x) = slice_index_or c.shared x fresh_word
word_in c (Gate x) = slice_index_or c.gate x 1
word_in c (KindOf x) = slice_index_or c.kind x 0
word_in c (Marks t w) = if nat_lt w mark_room then slice_index_or c.mark (mark_room * t + w) 0 else 0
word_in c (Cell x i) = if nat_lt i c.width then slice_index_or c.cell (c.width * x + i) 0 else 0
word_in c (Field x) = slice_index_or c.field x 0
word_in c (Resource x) = slice_index_or c.resource x 0
word_in c (ThreadWord t) = slice_index_or c.thread t 0

-- each row has its words of each sort, and each thread its mark words
pub record AreColumns (c : Columns) : Type 0 where
  pub shared : length c.shared ≡ length c.local
  pub gate : length c.gate ≡ length c.local
  pub kind : length c.kind ≡ length c.local
  pub mark : length c.mark ≡ mark_room * length c.thread
  pub cell : length c.cell ≡ c.width * length c.local
  pub field : length c.field ≡ length c.local
  pub resource : length c.resource ≡ length c.local

-- the columns have a word at the address
abbrev pub HasWord : Columns → Address → Type 0
HasWord c (Local x) = x < length c.local
HasWord c (Shared x) = x < length c.local
HasWord c (Gate x) = x < length c.local
HasWord c (KindOf x) = x < length c.local
HasWord c (Marks t w) = (t < length c.thread) × (w < mark_room)
HasWord c (Cell x i) = (x < length c.local) × (i < c.width)
HasWord c (Field x) = x < length c.local
HasWord c (Resource x) = x < length c.local
HasWord c (ThreadWord t) = t < length c.thread

-- the columns are those of a world with the layout, which is within the limits
pub record AreOf (layout : Layout) (c : Columns) : Type 0 where
  pub rows : length c.local ≡ row_count layout
  pub threads : length c.thread ≡ 1 + layout.workers
  pub cells : c.width ≡ layout.cells
  pub few_rows : layout.rows ≤ row_limit
  pub few_cells : layout.cells ≤ cell_limit
  pub few_lists : layout.immortal_lists ≤ immortal_limit
  pub few_numbers : layout.numbers ≤ number_limit

-- the columns after one word is written; the numbers of rows, of threads and of each row's cells stay
pub record IsStored (old : Columns) (address : Address) (word : ℕ) (new : Columns) : Type 0 where
  pub rows : length new.local ≡ length old.local
  pub threads : length new.thread ≡ length old.thread
  pub width : new.width ≡ old.width
  pub words : word_in new ≡ written (word_in old) address word
