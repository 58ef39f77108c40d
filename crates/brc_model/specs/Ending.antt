-- The end: every thread is gone, or was never started. Then exactly the counted objects that no cell of an open list
-- names are closed.
use Rattle.std.specs.Prelude.{◌≡◌, ◌≢◌, ◌⊎◌, ℕ, ◌+◌, ◌<◌, Some, slice_get}
use Rattle.brc_word.specs.declared.values.TheConstants.{EMPTY}
use Rattle.brc_word.specs.Words.{closed_word}
use Rattle.brc_model.specs.declared.actor.Status.TheVariants.{Gone}
use Rattle.brc_model.specs.declared.address.Address.TheVariants.{Gate, KindOf, Cell}
use Rattle.brc_model.specs.Layout.{row_count, IsCounted}
use Rattle.brc_model.specs.declared.actor.Actor.{Actor}
use Rattle.brc_model.specs.Machine.{Machine, idle_actor}
use Rattle.brc_model.specs.Accounts.{Accounts, HoldsNone}
use Rattle.brc_model.specs.Counting.{Counts}

-- Each thread is gone, or it has done nothing and holds nothing.
abbrev pub HaveEnded : Accounts → Machine → Type 0
HaveEnded p m =
    (t : ℕ) (a : Actor) → slice_get m.actors t ≡ Some a → (a.status ≡ Gone) ⊎ ((a ≡ idle_actor 0) × HoldsNone (p t))

-- A cell of a list that isn't closed names the row.
pub record IsNamed (m : Machine) (x : ℕ) : Type 0 where
  pub list : ℕ
  pub cell : ℕ
  pub there : list < row_count m.layout
  pub low : cell < m.layout.cells
  pub names : m.memory (Cell list cell) ≡ x + 1
  pub not_closed : m.memory (Gate list) ≢ closed_word

-- What is known of a row at the end. Its kind word isn't 0 exactly if it was born, and its gate says whether it is
-- closed.
pub record Ends (m : Machine) (x : ℕ) : Type 0 where
  pub left : 0 < m.memory (KindOf x) → m.memory (Gate x) ≢ closed_word → IsNamed m x
  pub closed_born : m.memory (Gate x) ≡ closed_word → 0 < m.memory (KindOf x)
  pub closed_unnamed : m.memory (Gate x) ≡ closed_word → (y i : ℕ) → m.memory (Cell y i) ≢ x + 1
  pub closed_empty : m.memory (Gate x) ≡ closed_word → (i : ℕ) → m.memory (Cell x i) ≡ EMPTY

-- At the end this is known of each counted row.
abbrev pub RowsEnd : Type 0
RowsEnd = (p : Accounts) (n : ℕ) (m : Machine) (x : ℕ) → Counts p n m → HaveEnded p m → IsCounted m.layout x
    → x < row_count m.layout → Ends m x
