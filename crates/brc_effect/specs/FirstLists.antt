-- The first words of immortal lists and of the numbers in their cells, in the order in which they are put in: line by
-- line, those of the line's list and of its numbers.
use Rattle.std.specs.Prelude.{ℕ, zero, suc, ◌+◌, ◌*◌, List, length, get_or}
use Rattle.brc_word.specs.declared.values.TheConstants.{NUM, LIST}
use Rattle.brc_word.specs.Words.{half, immortal_local, local_word}
use Rattle.brc_model.specs.declared.address.Address.{Address}
use Rattle.brc_model.specs.declared.address.Address.TheVariants.{Local, KindOf, Cell}
use Rattle.brc_model.specs.declared.layout.Layout.{Layout}
use Rattle.brc_model.specs.FirstRows.{line_at, start}
use Rattle.brc_model.specs.Layout.{first_immortal_list, first_number}
use Rattle.brc_model.specs.Machine.{written}

-- the memory once the row is a number of this value, which main owns and the list's cell names
abbrev pub with_number : (Address → ℕ) → ℕ → ℕ → ℕ → ℕ → Address → ℕ
with_number memory list cell row value =
    written (written (written memory (Local row) (local_word 0 1)) (KindOf row) (NUM * half + value)) (Cell list cell)
    (row + 1)

-- the memory once this many of the list's cells name numbers with these values, of which the first has this row
abbrev pub with_numbers : (Address → ℕ) → ℕ → ℕ → List ℕ → ℕ → Address → ℕ
with_numbers memory list first values zero = memory
with_numbers memory list first values (suc i) =
    with_number (with_numbers memory list first values i) list i (first + i) (get_or values i 0)

-- the memory once the row is an immortal list with this number of cells
abbrev pub with_empty_list : (Address → ℕ) → ℕ → ℕ → Address → ℕ
with_empty_list memory list cells =
    written (written memory (Local list) (local_word 0 immortal_local)) (KindOf list) (LIST * half + cells)

-- the memory once the row is an immortal list whose cells name numbers with the line's values, of which the first has
-- this row
abbrev pub with_list : (Address → ℕ) → ℕ → ℕ → List ℕ → Address → ℕ
with_list memory list first values =
    with_numbers (with_empty_list memory list (length values)) list first values (length values)

-- the memory once this many of the lines are immortal lists
abbrev pub with_lists : (Address → ℕ) → List (List ℕ) → Layout → ℕ → Address → ℕ
with_lists memory lines layout zero = memory
with_lists memory lines layout (suc s) =
    with_list (with_lists memory lines layout s) (first_immortal_list layout + s) (first_number layout + start lines s)
    (line_at lines s)
