-- The words before any step, if no static line is an immortal list: none and the root are there.
use Rattle.std.specs.Prelude.{ℕ, ◌+◌, ◌*◌, if◌then◌else◌, nat_le}
use Rattle.brc_word.specs.declared.values.TheConstants.{NOT_STARTED, RUNNING, EMPTY, FREE, NONE, LIST}
use Rattle.brc_word.specs.Words.{half, immortal_local, local_word, fresh_word}
use Rattle.brc_model.specs.declared.address.Address.{Address}
use Rattle.brc_model.specs.declared.address.Address.TheVariants.{Local, Shared, Gate, KindOf, Marks, Cell, Field, Resource, ThreadWord}
use Rattle.brc_model.specs.Layout.{by_row}
use Rattle.brc_model.specs.Limits.{root_cells}

-- the words before any step of a machine with this number of workers, if no line is an immortal list
abbrev pub plain_words : ℕ → Address → ℕ
plain_words workers (Local x) = by_row (local_word 0 immortal_local) (local_word 0 (1 + workers)) 0 x
plain_words workers (Shared x) = fresh_word
plain_words workers (Gate x) = FREE
plain_words workers (KindOf x) = by_row (NONE * half) (LIST * half + root_cells) 0 x
plain_words workers (Marks t w) = 0
plain_words workers (Cell x i) = EMPTY
plain_words workers (Field x) = EMPTY
plain_words workers (Resource x) = 0
plain_words workers (ThreadWord t) = if nat_le t workers then RUNNING else NOT_STARTED
