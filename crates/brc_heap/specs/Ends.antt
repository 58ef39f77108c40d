-- What a heap's end says, and when it comes.
use Rattle.std.specs.Prelude.{◌≡◌, ◌⊎◌, ℕ, zero, suc, ◌+◌, ◌<◌, Bool, ◌==◌, nat_lt, if◌then◌else◌, Option, None, Some, List, [], ◌∷◌, ◌++◌, length, All}
use Rattle.brc_word.specs.declared.values.TheConstants.{NOT_STARTED, RUNNING, LEAVING, GONE}
use Rattle.brc_word.specs.Words.{closed_word}
use Rattle.brc_model.specs.declared.address.Address.TheVariants.{ThreadWord}
use Rattle.brc_model.specs.FirstRows.{first_kind_word}
use Rattle.brc_model.specs.Layout.{row_count, IsCounted}
use Rattle.brc_table.specs.declared.view.View.{View}
use Rattle.brc_model.specs.declared.event.WordEvent.{WordEvent}
use Rattle.brc_table.specs.Views.{IsJoined}
use Rattle.brc_table.specs.Ending.{EndState, EndsWith, HaveEnded, RowEnds, FieldEnds, kind_at, gate_at, cell_at}

-- Says whether an object was born in the row.
abbrev pub was_born : EndState → ℕ → Bool
was_born end x = nat_lt 0 (kind_at end.words x)

-- Says whether the row's object is closed.
abbrev pub is_closed : EndState → ℕ → Bool
is_closed end x = gate_at end.words x == closed_word

-- the row that a cell's word names, if the cell isn't empty
abbrev pub named_row : ℕ → Option ℕ
named_row zero = None
named_row (suc row) = Some row

-- the row that the row's cell names, if there is such a cell and it isn't empty
abbrev pub item_at : EndState → ℕ → ℕ → Option ℕ
item_at end x i = if nat_lt i end.layout.cells then named_row (cell_at end.layout end.words x i) else None

-- Each thread is gone, or was never started. Exactly the born counted objects that no cell of an open list names are
-- closed, and the cells of closed lists are empty. The fields of closed objects are empty too, and the other counted
-- objects have their resources. An object that was there from the start has its first kind word: none, the root, an
-- immortal list, or a number in the cell of one.
pub record HasEnded (end : EndState) : Type 0 where
  pub threads : HaveEnded end.layout end.words
  pub rows : (x : ℕ) → IsCounted end.layout x → x < row_count end.layout → RowEnds end.layout end.words x
  pub fields : (x : ℕ) → IsCounted end.layout x → x < row_count end.layout → FieldEnds end x
  pub first : (x : ℕ) → 0 < first_kind_word end.lines end.layout x → x < row_count end.layout
      → kind_at end.words x ≡ first_kind_word end.lines end.layout x

-- the step of a hand that loads a thread's word, and finds this there
abbrev pub look_at : ℕ → ℕ → WordEvent
look_at thread word = record { address = ThreadWord thread; found = word; left = word }

-- the steps of a hand that loads the words of this thread and of those after it, by rising number
abbrev pub looks_from : ℕ → List ℕ → List WordEvent
looks_from thread [] = []
looks_from thread (word ∷ words) = look_at thread word ∷ looks_from (suc thread) words

-- the hand after it has looked at the words of the threads 0, 1, .. and done nothing else: it is as it was, with these
-- steps more in its trace
abbrev pub having_looked : View → List ℕ → View
having_looked v words = record v { trace = v.trace ++ looks_from 0 words }

-- These are words of threads that are gone or were never started.
abbrev pub AllEnded : List ℕ → Type 0
AllEnded words = All (λ word. (word ≡ NOT_STARTED) ⊎ (word ≡ GONE)) words

-- The hand has looked at the words of threads by rising number, up to the first that runs or is leaving: one whose hand
-- it hasn't joined.
pub record FoundRunning (v u : View) : Type 0 where
  pub before : List ℕ
  pub ended : AllEnded before
  pub word : ℕ
  pub runs : (word ≡ RUNNING) ⊎ (word ≡ LEAVING)
  pub apart : IsJoined (length before) v → ⊥
  pub view_is : u ≡ having_looked v (before ++ word ∷ [])

-- The table was closed with the hand, after that had looked at the word of each thread by rising number. None ran.
pub record ClosedBy (v : View) (end : EndState) : Type 0 where
  pub words : List ℕ
  pub each : length words ≡ 1 + end.layout.workers
  pub ended : AllEnded words
  pub ends : EndsWith (having_looked v words) end
