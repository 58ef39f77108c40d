-- The laws of the counting machine on which running threads rely.
use Rattle.std.specs.Prelude.{◌≡◌, ◌≢◌, ◌⊎◌, ℕ, zero, suc, ◌+◌, ◌<◌, ◌≤◌, Bool, true, false, ◌&&◌, ◌==◌, count_by, List, [], ◌∷◌, ◌++◌, None, Some, slice_get}
use Rattle.brc_model.specs.declared.duty.Holding.{Holding}
use Rattle.brc_model.specs.declared.duty.Holding.TheVariants.{ByVariable, AsCaller, InFlight}
use Rattle.brc_word.specs.Words.{dead_word, merged_word}
use Rattle.brc_model.specs.declared.duty.Reason.TheVariants.{Handed}
use Rattle.brc_model.specs.declared.duty.Duty.{Duty}
use Rattle.brc_model.specs.declared.duty.Duty.TheVariants.{RetainLoad, ReleaseLoad, MergeExchange, BirthKind, KindLoad, LockGate, UnlockGate, CellLoad, Settle, ClaimMark, MarksLoad, Leave}
use Rattle.brc_model.specs.declared.actor.Status.TheVariants.{Gone}
use Rattle.brc_model.specs.declared.address.Address.TheVariants.{Shared, KindOf, Cell}
use Rattle.brc_model.specs.declared.layout.Layout.{Layout}
use Rattle.brc_model.specs.Kinds.{kind_of_word, is_counted_kind}
use Rattle.brc_model.specs.AbstractState.{PassOn, Holder, ByThread, ByCell, Reference, references_to}
use Rattle.brc_model.specs.References.{held, reference_of, word_holds}
use Rattle.brc_model.specs.Duties.{address_of, cells_of}
use Rattle.brc_model.specs.Moves.{gain}
use Rattle.brc_model.specs.Layout.{row_count, row_at, block_of, mark_words_of, is_immortal_row, IsCounted}
use Rattle.brc_model.specs.declared.actor.Actor.{Actor}
use Rattle.brc_model.specs.Machine.{Machine, Unborn, has_room, is_running, used_by, with_actor, with_moves, machine_by_duty}
use Rattle.brc_model.specs.BadDuties.{is_bad_duty}
use Rattle.brc_model.specs.Accounts.{Accounts, HoldsNone, most_lent}
use Rattle.brc_model.specs.OpenWork.{exits, finalised, may_wait}
use Rattle.brc_model.specs.Knowledge.{HasNoRetainAside, HasChained}
use Rattle.brc_model.specs.Within.{IsThere, Suits, FindsOwner}
use Rattle.brc_model.specs.Stores.{Overwrites}
use Rattle.brc_model.specs.Agreement.{AgreesAt}
use Rattle.brc_model.specs.FirstRows.{HasLines}
use Rattle.brc_model.specs.Counting.{Counts, with_account, with_one_more, with_one_less, working, IsReady, HasNoneAbout, IsPlainLayout, hands_machine, hands_accounts, MayGiveUp, IsAtHand}

-- ---- duties

-- The thread isn't gone, and the duty comes next.
pub record ComesNext (m : Machine) (t : ℕ) (a : Actor) (d : Duty) (rest : List Duty) : Type 0 where
  pub found : slice_get m.actors t ≡ Some a
  pub agenda : a.agenda ≡ d ∷ rest
  pub alive : a.status ≢ Gone

-- Doing a thread's next duty isn't bad, and keeps the invariant.
abbrev pub DutiesAreKept : Type 0
DutiesAreKept = (p : Accounts) (n : ℕ) (m : Machine) (t : ℕ) (a : Actor) (d : Duty) (rest : List Duty) → Counts p n m
    → ComesNext m t a d rest → (is_bad_duty m t a d ≡ false) × Counts p n (machine_by_duty m t a d rest)

-- What a thread can rely on at its next duty: the word is there, the value found suits the duty, and a store knows the
-- value that it overwrites.
pub record DutyWithin (m : Machine) (t : ℕ) (a : Actor) (d : Duty) : Type 0 where
  pub there : IsThere m.layout (address_of m.layout t a.head d)
  pub head : a.head ≤ row_count m.layout
  pub used : used_by a.used d ≤ row_count m.layout
  pub suits : Suits t (is_running a.status) (row_count m.layout) d (m.memory (address_of m.layout t a.head d))
  pub overwrites : Overwrites t d (m.memory (address_of m.layout t a.head d))
  pub owner : FindsOwner m.layout d (m.memory (address_of m.layout t a.head d))

abbrev pub DutiesAreWithin : Type 0
DutiesAreWithin = (p : Accounts) (n : ℕ) (m : Machine) (t : ℕ) (a : Actor) (d : Duty) (rest : List Duty) → Counts p n m
    → ComesNext m t a d rest → DutyWithin m t a d

-- The object of each reference in a thread's account has a row.
abbrev pub AccountsAreThere : Type 0
AccountsAreThere =
    (p : Accounts) (n : ℕ) (m : Machine) (t : ℕ) (a : Actor) (h : Holding) (x : ℕ) → Counts p n m
    → slice_get m.actors t ≡ Some a → 1 ≤ p t h x → x < row_count m.layout

-- A thread with this dying chain and this agenda doesn't deallocate the row's object: the object isn't the first one
-- of the chain, and no duty finalises it.
pub record IsUnfinalised (x head : ℕ) (agenda : List Duty) : Type 0 where
  pub later : head ≢ x + 1
  pub duties : finalised agenda x ≡ 0

-- The object is the first one of the thread's dying chain.
abbrev pub IsFirstOfChain : Actor → ℕ → Type 0
IsFirstOfChain a x = a.head ≡ x + 1

-- The head of a thread's dying chain is 0, or the number of a row plus 1, and the thread has chained that row. The
-- thread doesn't deallocate the object that it has locked.
pub record ChainIsThere (m : Machine) (t : ℕ) (a : Actor) : Type 0 where
  pub head : a.head ≤ row_count m.layout
  pub first : (x : ℕ) → IsFirstOfChain a x → HasChained m t x
  pub locked : (x : ℕ) → a.locked ≡ Some x → IsUnfinalised x a.head a.agenda

abbrev pub ChainsAreThere : Type 0
ChainsAreThere = (p : Accounts) (n : ℕ) (m : Machine) (t : ℕ) (a : Actor) → Counts p n m
    → slice_get m.actors t ≡ Some a → ChainIsThere m t a

-- A merge for a handed reference leaves that reference counted, so the object doesn't die by it.
abbrev pub HandedMergesLive : Type 0
HandedMergesLive =
    (p : Accounts) (n : ℕ) (m : Machine) (t : ℕ) (a : Actor) (x c w : ℕ) (rest : List Duty) → Counts p n m
    → ComesNext m t a (MergeExchange x c w Handed) rest → m.memory (Shared x) ≡ w → merged_word w c ≢ dead_word

-- ---- work between two duties

-- A thread puts its only duty aside, if the duty may wait.
abbrev pub WorkIsPutAside : Type 0
WorkIsPutAside = (p : Accounts) (n : ℕ) (m : Machine) (t : ℕ) (a : Actor) (d : Duty) → Counts p n m
    → slice_get m.actors t ≡ Some a → a.agenda ≡ d ∷ [] → may_wait d ≡ true
    → Counts p n (with_actor m t (working a [] (d ∷ a.aside)))

-- A ready thread takes back a duty that it has put aside.
abbrev pub WorkIsTakenBack : Type 0
WorkIsTakenBack =
    (p : Accounts) (n : ℕ) (m : Machine) (t : ℕ) (a : Actor) (before after : List Duty) (d : Duty) → Counts p n m
    → slice_get m.actors t ≡ Some a → a.agenda ≡ [] → a.aside ≡ before ++ d ∷ after
    → Counts p n (with_actor m t (working a (d ∷ []) (before ++ after)))

-- A ready thread begins to retain an object to which it holds a reference, or which is an item of the list that it has
-- locked.
abbrev pub RetainsBegin : Type 0
RetainsBegin = (p : Accounts) (n : ℕ) (m : Machine) (t : ℕ) (a : Actor) (x : ℕ) → Counts p n m → IsReady m t a
    → HasNoneAbout a x → IsAtHand (p t) m a x → (IsCounted m.layout x → p t AsCaller x < most_lent)
    → Counts (with_account p t (with_one_more (p t) AsCaller x)) n
    (with_actor m t (working a (RetainLoad x AsCaller ∷ []) a.aside))

-- A ready thread begins to give up a reference that it holds. It keeps one to the list that it has locked.
abbrev pub ReleasesBegin : Type 0
ReleasesBegin = (p : Accounts) (n : ℕ) (m : Machine) (t : ℕ) (a : Actor) (x : ℕ) → Counts p n m → IsReady m t a
    → HasNoneAbout a x → 1 ≤ p t AsCaller x → MayGiveUp (p t) a x
    → Counts (with_account p t (with_one_less (p t) AsCaller x)) n
    (with_actor m t (working a (ReleaseLoad x AsCaller ∷ []) a.aside))

-- A ready worker with a row left begins a birth. It will hold the new object's first reference.
abbrev pub BirthsBegin : Type 0
BirthsBegin = (p : Accounts) (n : ℕ) (m : Machine) (t : ℕ) (a : Actor) (word : ℕ) → Counts p n m → IsReady m t a
    → 0 < t → has_room m.layout t a.used ≡ true → is_counted_kind (kind_of_word word) ≡ true
    → cells_of word ≤ m.layout.cells
    → Counts (with_account p t (with_one_more (p t) AsCaller (row_at m.layout t a.used))) n
    (with_actor m t (working a (BirthKind (row_at m.layout t a.used) AsCaller word ∷ []) a.aside))

-- A ready thread begins to ask for the kind of an object to which it holds a reference, which is an item of the list
-- that it has locked, or which is the first one of its dying chain.
abbrev pub KindsAreAsked : Type 0
KindsAreAsked = (p : Accounts) (n : ℕ) (m : Machine) (t : ℕ) (a : Actor) (x : ℕ) → Counts p n m → IsReady m t a
    → HasNoneAbout a x → IsAtHand (p t) m a x ⊎ IsFirstOfChain a x
    → Counts p n (with_actor m t (working a (KindLoad x ∷ []) a.aside))

-- A ready thread that has locked nothing begins to lock an object to which it holds a reference.
abbrev pub LocksBegin : Type 0
LocksBegin = (p : Accounts) (n : ℕ) (m : Machine) (t : ℕ) (a : Actor) (x : ℕ) → Counts p n m → IsReady m t a
    → HasNoneAbout a x → 1 ≤ p t AsCaller x → a.locked ≡ None
    → Counts p n (with_actor m t (working a (LockGate x ∷ []) a.aside))

-- A ready thread that has put no retain aside and has lent nothing begins to unlock the object that it has locked.
abbrev pub UnlocksBegin : Type 0
UnlocksBegin = (p : Accounts) (n : ℕ) (m : Machine) (t : ℕ) (a : Actor) (x : ℕ) → Counts p n m → IsReady m t a
    → HasNoneAbout a x → 1 ≤ p t AsCaller x → a.locked ≡ Some x → HasNoRetainAside a → a.lent ≡ None
    → Counts p n (with_actor m t (working a (UnlockGate x ∷ []) a.aside))

-- A ready thread begins to load a cell of the list that it has locked, or of the first object of its dying chain.
abbrev pub CellLoadsBegin : Type 0
CellLoadsBegin = (p : Accounts) (n : ℕ) (m : Machine) (t : ℕ) (a : Actor) (x i : ℕ) → Counts p n m → IsReady m t a
    → HasNoneAbout a x → ((1 ≤ p t AsCaller x) × (a.locked ≡ Some x)) ⊎ IsFirstOfChain a x
    → i < cells_of (m.memory (KindOf x))
    → Counts p n (with_actor m t (working a (CellLoad x i ∷ []) a.aside))

-- A ready thread that has put nothing aside begins to settle its dying chain.
abbrev pub SettlesBegin : Type 0
SettlesBegin = (p : Accounts) (n : ℕ) (m : Machine) (t : ℕ) (a : Actor) → Counts p n m → IsReady m t a
    → a.aside ≡ [] → 0 < a.head → Counts p n (with_actor m t (working a (Settle ∷ []) a.aside))

-- A ready thread that has put nothing aside begins to claim the mark of a row of its own block.
abbrev pub ClaimsBegin : Type 0
ClaimsBegin = (p : Accounts) (n : ℕ) (m : Machine) (t : ℕ) (a : Actor) (x : ℕ) → Counts p n m → IsReady m t a
    → a.aside ≡ [] → block_of m.layout x ≡ t → x < row_count m.layout
    → Counts p n (with_actor m t (working a (ClaimMark x ∷ []) a.aside))

-- A ready thread that has put nothing aside begins to load a mark word of its own block.
abbrev pub MarkLoadsBegin : Type 0
MarkLoadsBegin = (p : Accounts) (n : ℕ) (m : Machine) (t : ℕ) (a : Actor) (w : ℕ) → Counts p n m → IsReady m t a
    → a.aside ≡ [] → w < mark_words_of m.layout t
    → Counts p n (with_actor m t (working a (MarksLoad w ∷ []) a.aside))

-- A ready thread that holds nothing, has put nothing aside and has an empty chain begins to leave.
abbrev pub ExitsBegin : Type 0
ExitsBegin = (p : Accounts) (n : ℕ) (m : Machine) (t : ℕ) (a : Actor) → Counts p n m → IsReady m t a
    → a.aside ≡ [] → a.head ≡ 0 → HoldsNone (p t)
    → Counts p n (with_actor m t (working a (Leave 0 a.used ∷ []) a.aside))

-- References to immortal objects aren't counted, so a thread may have one more at any time.
abbrev pub ImmortalsAreFree : Type 0
ImmortalsAreFree = (p : Accounts) (n : ℕ) (m : Machine) (t : ℕ) (a : Actor) (x : ℕ) → Counts p n m → IsReady m t a
    → HasNoneAbout a x → is_immortal_row m.layout x ≡ true
    → Counts (with_account p t (with_one_more (p t) AsCaller x)) n (with_moves m (gain t AsCaller x))

-- A thread hands a reference over to another thread that runs and isn't exiting. It keeps one to the list that it has
-- locked.
abbrev pub ReferencesAreHandedOver : Type 0
ReferencesAreHandedOver =
    (p : Accounts) (n : ℕ) (m : Machine) (t u : ℕ) (a b : Actor) (x : ℕ) → Counts p n m → slice_get m.actors t ≡ Some a
    → slice_get m.actors u ≡ Some b → t ≢ u → HasNoneAbout a x → HasNoneAbout b x
    → exits b.status b.agenda ≡ false → IsCounted m.layout x → 1 ≤ p t AsCaller x → MayGiveUp (p t) a x
    → p u AsCaller x < most_lent
    → Counts (with_account (with_account p t (with_one_less (p t) AsCaller x)) u (with_one_more (p u) AsCaller x)) n
    (with_moves m (PassOn (reference_of t AsCaller x) (ByThread u AsCaller) ∷ []))

-- ---- the beginning, and what the counts say

-- The first machine of hands has the invariant.
abbrev pub HandsBegin : Type 0
HandsBegin = (lines : List (List ℕ)) (layout : Layout) → IsPlainLayout layout → HasLines lines layout
    → Counts hands_accounts (1 + layout.workers) (hands_machine lines layout)

-- The counts of each counted object that was born add up.
abbrev pub CountsAgree : Type 0
CountsAgree = (p : Accounts) (n : ℕ) (m : Machine) (x : ℕ) → Counts p n m → IsCounted m.layout x → m.life x ≢ Unborn
    → AgreesAt m x

-- The sum of a number over the threads below `n`.
abbrev pub over_threads : (ℕ → ℕ) → ℕ → ℕ
over_threads f zero = 0
over_threads f (suc t) = over_threads f t + f t

-- how many references to the object the bag has of the thread: those that it holds as the caller, and those in flight
abbrev pub thread_references : Machine → ℕ → ℕ → ℕ
thread_references m x t =
    held (reference_of t AsCaller x) m.abstract.references + held (reference_of t InFlight x) m.abstract.references

-- No thread holds the object by a variable, as in running threads.
abbrev pub HasNoVariables : Machine → ℕ → Type 0
HasNoVariables m x =
    (t depth v : ℕ) → held (reference_of t (ByVariable depth v) x) m.abstract.references ≡ 0

-- The sum of a number over the cells that lists may have: over all rows, and over the cells of each.
abbrev pub over_cells : (ℕ → ℕ → ℕ) → Layout → ℕ
over_cells f layout = over_threads (λ y. over_threads (f y) layout.cells) (row_count layout)

-- how many references to the object the machine's cells hold
abbrev pub cell_references : Machine → ℕ → ℕ
cell_references m x = over_cells (λ y i. word_holds (m.memory (Cell y i)) x) m.layout

-- The references to an object are those of the threads, and those that cells hold.
abbrev pub SharesOfThreads : Type 0
SharesOfThreads = (p : Accounts) (n : ℕ) (m : Machine) (x : ℕ) → Counts p n m → HasNoVariables m x
    → references_to x m.abstract.references ≡ over_threads (thread_references m x) n + cell_references m x

-- Says whether a cell holds the reference.
abbrev pub is_in_cell : Holder → Bool
is_in_cell (ByCell x i) = true
is_in_cell (ByThread t k) = false

-- how many of the bag's references to the object cells hold
abbrev pub in_cells : ℕ → List Reference → ℕ
in_cells x bag = count_by (λ r. is_in_cell r.holder && (r.object == x)) bag

-- The references that cells hold are those that their words name.
abbrev pub CellsHold : Type 0
CellsHold = (p : Accounts) (n : ℕ) (m : Machine) (x : ℕ) → Counts p n m
    → in_cells x m.abstract.references ≡ cell_references m x
