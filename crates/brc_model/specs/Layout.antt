-- Which rows a machine has, and whose they are. None and the root are main's. Then comes a block of rows for each
-- worker. The rows after those are main's again. A thread counts the rows of its block from 0, wherever they are.
use Rattle.std.specs.Prelude.{◌≡◌, ℕ, zero, suc, ◌+◌, ◌-◌, ◌*◌, ◌/◌, ◌%◌, Bool, false, ◌&&◌, ◌||◌, ◌==◌, nat_le, nat_lt, if◌then◌else◌}
use Rattle.brc_word.specs.Words.{marks_of_word}
use Rattle.brc_model.specs.declared.layout.Layout.{Layout}

-- none, which is immortal: no count has its references, and it is never closed
abbrev pub none_row : ℕ
none_row = 0

-- the root, a list that main owns and that each call borrows
abbrev pub root_row : ℕ
root_row = 1

-- one value for none's row, one for the root's, and one for each other row
abbrev pub by_row : {A : Type 0} → A → A → A → ℕ → A
by_row of_none of_root otherwise zero = of_none
by_row of_none of_root otherwise (suc zero) = of_root
by_row of_none of_root otherwise (suc (suc x)) = otherwise

-- main's rows before the workers': none's and the root's
abbrev pub front_rows : ℕ
front_rows = 2

-- main's rows after the workers': the immortal lists, and after them the numbers in their cells
abbrev pub rear_rows : Layout → ℕ
rear_rows layout = layout.immortal_lists + layout.numbers

-- the number of rows of all workers
abbrev pub worker_rows : Layout → ℕ
worker_rows layout = layout.workers * layout.rows

-- the number of all rows
abbrev pub row_count : Layout → ℕ
row_count layout = front_rows + worker_rows layout + rear_rows layout

-- Says whether the row is a worker's.
abbrev pub is_worker_row : Layout → ℕ → Bool
is_worker_row layout x = nat_le front_rows x && nat_lt x (front_rows + worker_rows layout)

-- the thread whose block has the row
abbrev pub block_of : Layout → ℕ → ℕ
block_of layout x = if is_worker_row layout x then (x - front_rows) / layout.rows + 1 else 0

-- the number of rows of the thread's block
abbrev pub block_size : Layout → ℕ → ℕ
block_size layout zero = front_rows + rear_rows layout
block_size layout (suc t) = layout.rows

-- the row with the index in the thread's block
abbrev pub row_at : Layout → ℕ → ℕ → ℕ
row_at layout zero i = if nat_lt i front_rows then i else worker_rows layout + i
row_at layout (suc t) i = front_rows + t * layout.rows + i

-- the index of the row in the thread's block
abbrev pub index_of : Layout → ℕ → ℕ → ℕ
index_of layout zero x = if nat_lt x front_rows then x else x - worker_rows layout
index_of layout (suc t) x = x - (front_rows + t * layout.rows)

-- the number of mark words of the thread's block
abbrev pub mark_words_of : Layout → ℕ → ℕ
mark_words_of layout t = (block_size layout t + (marks_of_word - 1)) / marks_of_word

-- the number of all mark words
abbrev pub mark_words : Layout → ℕ
mark_words layout = mark_words_of layout 0 + layout.workers * mark_words_of layout 1

-- which mark word of its block has the row's mark
abbrev pub mark_word : Layout → ℕ → ℕ
mark_word layout x = index_of layout (block_of layout x) x / marks_of_word

-- which bit of that word is the row's mark
abbrev pub mark_bit : Layout → ℕ → ℕ
mark_bit layout x = index_of layout (block_of layout x) x % marks_of_word

-- the first row of an immortal list
abbrev pub first_immortal_list : Layout → ℕ
first_immortal_list layout = front_rows + worker_rows layout

-- the first row of a number in a cell of an immortal list
abbrev pub first_number : Layout → ℕ
first_number layout = first_immortal_list layout + layout.immortal_lists

-- Says whether the row is an immortal object's: none's, or an immortal list's.
abbrev pub is_immortal_row : Layout → ℕ → Bool
is_immortal_row layout x =
    (x == none_row) || (nat_le (first_immortal_list layout) x && nat_lt x (first_number layout))

-- The row's object is counted: it isn't immortal.
abbrev pub IsCounted : Layout → ℕ → Type 0
IsCounted layout x = is_immortal_row layout x ≡ false
