-- What a hand has seen of kind words, of the cells of its locked list and of threads. Its trace has each step that it
-- made with the value that the step left.
use Rattle.std.specs.Prelude.{◌≡◌, ℕ, ◌<◌, Bool, true, ◌==◌, ◌&&◌, if◌then◌else◌, Option, None, Some, fold}
use Rattle.std.specs.List.{list_any}
use Rattle.brc_model.specs.declared.address.Address.TheVariants.{Gate, KindOf, Cell, ThreadWord}
use Rattle.brc_model.specs.Duties.{cells_of}
use Rattle.brc_model.specs.Machine.{same_address}
use Rattle.brc_table.specs.declared.view.View.{View}
use Rattle.brc_model.specs.declared.event.WordEvent.{WordEvent}

-- ---- kinds

-- Says whether the step left this kind word: a load leaves what it found, and a birth what it stored.
abbrev pub shows_kind : ℕ → ℕ → WordEvent → Bool
shows_kind x word e = same_address e.address (KindOf x) && (e.left == word)

-- Says whether the hand has loaded or stored this kind word of the row.
abbrev pub knows_kind : ℕ → ℕ → View → Bool
knows_kind x word v = list_any (shows_kind x word) v.trace

-- The hand has seen that the row's object is a list which has the cell.
pub record KnowsCell (v : View) (x cell : ℕ) : Type 0 where
  pub word : ℕ
  pub seen : knows_kind x word v ≡ true
  pub low : cell < cells_of word

-- ---- cells

-- what the hand knows of the cell after a step of its own: a step on the cell shows what it left there, and a step on
-- the row's gate begins or ends a lock
abbrev pub cell_known : ℕ → ℕ → Option ℕ → WordEvent → Option ℕ
cell_known x i known e =
    if same_address e.address (Cell x i) then Some e.left
    else if same_address e.address (Gate x) then None
    else known

-- the word that the hand last saw or stored in the cell since it locked the list
abbrev pub known_cell : ℕ → ℕ → View → Option ℕ
known_cell x i v = fold (cell_known x i) None v.trace

-- ---- threads

-- Says whether the step started the thread: its word said that it isn't started, and then that it runs.
abbrev pub starts : ℕ → WordEvent → Bool
starts t e = same_address e.address (ThreadWord t) && ((e.found == 0) && (e.left == 1))

-- Says whether the hand has started the thread.
abbrev pub has_started : ℕ → View → Bool
has_started t v = list_any (starts t) v.trace

-- the word of a thread whose hand isn't given out: 1 if main has started the thread
abbrev pub started_word : ℕ → View → ℕ
started_word t v = if has_started t v then 1 else 0

-- Says whether the step left the word of a thread that is gone.
abbrev pub shows_gone : ℕ → WordEvent → Bool
shows_gone t e = same_address e.address (ThreadWord t) && (e.left == 3)

-- Says whether the hand has seen that the thread is gone.
abbrev pub knows_gone : ℕ → View → Bool
knows_gone t v = list_any (shows_gone t) v.trace
