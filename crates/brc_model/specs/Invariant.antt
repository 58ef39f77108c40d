-- The invariant holds of each reachable machine, whatever code its threads run. It takes each thread's account of
-- references, and never asks where a thread is in its code: status and agenda say whether its exit is under way.
use Rattle.std.specs.Prelude.{◌≡◌, ◌≢◌, ◌⊎◌, ℕ, ◌+◌, ◌<◌, ◌≤◌, Bool, true, false, ◌==◌, List, [], ◌∷◌, length, Some, slice_get, count_by, AllPairs}
use Rattle.brc_word.specs.declared.values.TheConstants.{RUNNING, SET, UNSET, EMPTY}
use Rattle.brc_model.specs.declared.duty.Holding.{Holding}
use Rattle.brc_model.specs.AbstractState.{is_among, references_to}
use Rattle.brc_word.specs.Words.{immortal_local, local_word, kind_part}
use Rattle.brc_lang.specs.declared.kind.Kind.TheVariants as kinds
use Rattle.brc_model.specs.Kinds.{kind_number, kind_of_word}
use Rattle.brc_model.specs.declared.duty.Duty.{Duty}
use Rattle.brc_model.specs.declared.duty.Duty.TheVariants.{Look, TakeMark, BirthField, BirthLocal}
use Rattle.brc_model.specs.declared.address.Address.{Address}
use Rattle.brc_model.specs.declared.address.Address.TheVariants.{Local, Shared, Gate, KindOf, Cell, Field, ThreadWord}
use Rattle.brc_model.specs.declared.actor.Actor.{Actor}
use Rattle.brc_model.specs.Machine.{Life, Unborn, Live, Closed, Machine, mark_of}
use Rattle.brc_model.specs.References.{held, one_if, reference_of, word_holds, cell_reference}
use Rattle.brc_model.specs.RowInvariant.{waits, carries, merges, decides, weight, Numbers, RowInvariant}
use Rattle.brc_model.specs.Duties.{cells_of}
use Rattle.brc_model.specs.Accounts.{Account, Accounts, HoldsAt, IsBounded, HoldsNone}
use Rattle.brc_model.specs.Knowledge.{status_word, HeadOf, BehindOf}
use Rattle.brc_model.specs.OpenWork.{exits, scans, AgendaFits, IsSettled, dies_by, ChainFits, AsideFits}
use Rattle.brc_model.specs.Gates.{LocksFit, GateFits}
use Rattle.brc_model.specs.Resources.{ResourcesFit, resources_at}
use Rattle.brc_model.specs.Limits.{row_limit, immortal_limit, number_limit, thread_limit, cell_limit}
use Rattle.brc_model.specs.declared.layout.Layout.{Layout}
use Rattle.brc_model.specs.Layout.{block_of, block_size, index_of, is_immortal_row, IsCounted}

-- ---- rows

-- a row's words, references and duties as numbers
abbrev pub numbers_of : Machine → ℕ → Numbers
numbers_of m x = record {
  local = m.memory (Local x);
  shared = m.memory (Shared x);
  mark = mark_of m.layout m.memory x;
  references = references_to x m.abstract.references;
  waiting = weight (waits x) m.actors;
  carried = weight (carries x) m.actors;
  merging = weight (merges x) m.actors;
  deciding = weight (decides x) m.actors;
}

-- ---- one thread

-- The thread word says the thread's status, the bag has what the account says, the thread's duties know what they need,
-- its dying rows are its chain and those that its duties finalise, and it holds the list that it has locked. A thread
-- whose exit is under way holds nothing, so it has locked nothing, and has put nothing aside. A resource is lent to the
-- thread that has locked its object.
pub record ActorFits (account : Account) (m : Machine) (t : ℕ) (a : Actor) : Type 0 where
  pub word : m.memory (ThreadWord t) ≡ status_word a.status
  pub holds : HoldsAt m.abstract.references t account a.agenda a.aside
  pub bounded : IsBounded m.layout account
  pub exited : exits a.status a.agenda ≡ true → HoldsNone account × (a.aside ≡ [])
  pub head_fits : HeadOf m t a a.agenda
  pub behind : BehindOf m t a.agenda
  pub chain : ChainFits m t a.head a.agenda
  pub locks : LocksFit account m t a
  pub lent : (x : ℕ) → a.lent ≡ Some x → a.locked ≡ Some x

-- what holds of each thread
abbrev pub Fits : Account → Machine → ℕ → Actor → Type 0
Fits account m t a = ActorFits account m t a × AgendaFits a a.status × AsideFits m t a

-- ---- marks that are set are watched

-- 1 if the duty looks at the row's mark, else 0.
abbrev pub looks : ℕ → Duty → ℕ
looks x (Look y) = one_if (y == x)
looks x (TakeMark y) = one_if (y == x)
looks x _ = 0

-- Some thread will look at the mark: the running owner, the owner's exit, or the thread that set it.
pub data IsWatched (m : Machine) (x : ℕ) : Type 0 where
  ByRunning : m.memory (ThreadWord (block_of m.layout x)) ≡ RUNNING → IsWatched m x
  ByExit : (a : Actor) → slice_get m.actors (block_of m.layout x) ≡ Some a
      → scans (index_of m.layout (block_of m.layout x) x) a.agenda ≡ true → IsWatched m x
  ByLook : 0 < weight (looks x) m.actors → IsWatched m x

-- ---- cells

-- A cell is empty while its row has no object.
abbrev pub CellFits : Life → ℕ → Type 0
CellFits Unborn word = word ≡ EMPTY
CellFits Closed word = word ≡ EMPTY
CellFits _ word = Unit {0}

-- ---- immortal rows

-- The kind word names the kind of immortal objects: none, or a list.
abbrev pub IsImmortalKind : ℕ → Type 0
IsImmortalKind word = (kind_of_word word ≡ kinds.None) ⊎ (kind_of_word word ≡ kinds.List)

-- ---- births

-- The rows of a thread's block that it has used are born, and the others aren't.
pub record UsesFit (layout : Layout) (life : ℕ → Life) (t used : ℕ) : Type 0 where
  -- main's rows are used from the start
  pub main : t ≡ 0 → used ≡ block_size layout t
  pub few : used ≤ block_size layout t
  pub born : (x : ℕ) → block_of layout x ≡ t → index_of layout t x < used → life x ≢ Unborn
  pub unborn : (x : ℕ) → block_of layout x ≡ t → used ≤ index_of layout t x → life x ≡ Unborn

-- Says whether the thread's birth of the row has stored the kind word.
abbrev pub kind_stored : List Duty → ℕ → Bool
kind_stored (BirthField y h ∷ rest) x = y == x
kind_stored (BirthLocal y h ∷ rest) x = y == x
kind_stored _ x = false

-- Says whether the birth has put the resource into its field.
abbrev pub field_stored : List Duty → ℕ → Bool
field_stored (BirthLocal y h ∷ rest) x = y == x
field_stored _ x = false

-- The unused rows of a thread's block are blank, but for what the birth under way has stored.
pub record BlankFits (layout : Layout) (memory : Address → ℕ) (t used : ℕ) (agenda : List Duty) : Type 0 where
  pub kinds : (x : ℕ) → block_of layout x ≡ t → used ≤ index_of layout t x → kind_stored agenda x ≡ false
      → memory (KindOf x) ≡ 0
  pub fields : (x : ℕ) → block_of layout x ≡ t → used ≤ index_of layout t x → field_stored agenda x ≡ false
      → memory (Field x) ≡ EMPTY

-- ---- the whole

-- The invariant of `n` threads with these accounts, without what `Invariant` adds about dying chains.
pub record CoreInvariant (p : Accounts) (n : ℕ) (m : Machine) : Type 0 where
  -- the size of the machine
  pub threads : length m.actors ≡ n
  pub workers : n ≡ 1 + m.layout.workers
  pub some_rows : 0 < m.layout.rows
  pub few_threads : n ≤ thread_limit
  pub few_rows : m.layout.rows ≤ row_limit
  pub few_cells : m.layout.cells ≤ cell_limit
  pub few_immortals : m.layout.immortal_lists ≤ immortal_limit
  pub few_numbers : m.layout.numbers ≤ number_limit
  -- each row's counts, state and life fit together
  pub rows : (x : ℕ) → IsCounted m.layout x → RowInvariant (block_of m.layout x) (m.life x) (numbers_of m x)
  -- a mark is set or not, and a mark that is set is watched
  pub marks : (x : ℕ) → mark_of m.layout m.memory x ≡ UNSET
      ⊎ ((mark_of m.layout m.memory x ≡ SET) × (IsCounted m.layout x) × IsWatched m x)
  pub each : (t : ℕ) (a : Actor) → slice_get m.actors t ≡ Some a → Fits (p t) m t a
  -- no other thread holds a reference
  pub beyond : (t : ℕ) → n ≤ t → (k : Holding) (object : ℕ) → held (reference_of t k object) m.abstract.references ≡ 0
  -- a gate is free or locked while its row isn't dying, and says at the end that it is closed
  pub gates : (x : ℕ) → GateFits m.actors x (m.life x) (m.memory (Gate x))
  -- no other thread finalises a row
  pub dying : (x t : ℕ) → n ≤ t → dies_by (m.life x) t ≡ false
  -- a cell holds what its word says
  pub cells_hold : (x i object : ℕ)
      → held (cell_reference x i object) m.abstract.references ≡ word_holds (m.memory (Cell x i)) object
  -- only the cells of an object hold references, and no more of them than its kind word says
  pub cells : (x i : ℕ) → CellFits (m.life x) (m.memory (Cell x i))
  pub cells_end : (x i : ℕ) → cells_of (m.memory (KindOf x)) ≤ i → m.memory (Cell x i) ≡ EMPTY
  -- the rows that a thread has used are born; the others of its block are unborn and blank
  pub uses : (t : ℕ) (a : Actor) → slice_get m.actors t ≡ Some a → UsesFit m.layout m.life t a.used
  pub blanks : (t : ℕ) (a : Actor) → slice_get m.actors t ≡ Some a → BlankFits m.layout m.memory t a.used a.agenda
  -- immortal objects live
  pub immortals_live : (x : ℕ) → is_immortal_row m.layout x ≡ true → m.life x ≡ Live
  -- the lists of the born and the closed have exactly the rows whose lives say so, each once
  pub born_is : (x : ℕ) → is_among x m.abstract.born ≡ true → (IsCounted m.layout x) × (m.life x ≢ Unborn)
  pub born_has : (x : ℕ) → IsCounted m.layout x → m.life x ≢ Unborn → is_among x m.abstract.born ≡ true
  pub born_once : (x : ℕ) → count_by (λ y. y == x) m.abstract.born ≤ 1
  pub closed_is : (x : ℕ) → is_among x m.abstract.closed ≡ true → m.life x ≡ Closed
  pub closed_has : (x : ℕ) → m.life x ≡ Closed → is_among x m.abstract.closed ≡ true
  pub once : AllPairs (λ x y. x ≢ y) m.abstract.closed
  -- the kind word of a row that was born names its kind
  pub kinds : (x : ℕ) → m.life x ≢ Unborn → kind_part (m.memory (KindOf x)) ≡ kind_number (m.abstract.kinds x)
  -- it isn't 0
  pub kind_words : (x : ℕ) → m.life x ≢ Unborn → 0 < m.memory (KindOf x)
  -- the local word of an immortal row stays the immortal one, and its kind is none or a list, which has no resource
  pub immortal_words : (x : ℕ) → is_immortal_row m.layout x ≡ true → m.memory (Local x) ≡ local_word 0 immortal_local
  pub immortal_kinds : (x : ℕ) → is_immortal_row m.layout x ≡ true → IsImmortalKind (m.memory (KindOf x))
  -- the resource of each file or socket is in one place
  pub resources : (x : ℕ) → ResourcesFit (m.life x) (resources_at m x)

-- The whole invariant: besides, the dying chain of a thread that leaves, scans or is gone is empty.
pub record Invariant (p : Accounts) (n : ℕ) (m : Machine) : Type 0 where
  pub core : CoreInvariant p n m
  pub settled : (t : ℕ) (a : Actor) → slice_get m.actors t ≡ Some a → IsSettled a.head a.agenda

-- The premise of each lemma about one duty: the core invariant holds, and the duty comes next in the thread's agenda.
pub record AtDuty (p : Accounts) (n : ℕ) (m : Machine) (t : ℕ) (a : Actor) (d : Duty) (rest : List Duty) : Type 0 where
  pub core : CoreInvariant p n m
  pub found : slice_get m.actors t ≡ Some a
  pub agenda : a.agenda ≡ d ∷ rest
