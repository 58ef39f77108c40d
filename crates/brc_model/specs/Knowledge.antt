-- What a thread's duty knows of memory, of its thread and of its row, until its step.
use Rattle.std.specs.Prelude.{◌≡◌, ◌≢◌, ◌⊎◌, ℕ, ◌+◌, ◌-◌, ◌*◌, ◌^◌, min, ◌<◌, ◌≤◌, Bool, true, false, List, [], ◌∷◌, None, Some, count_by}
use Rattle.brc_word.specs.declared.values.TheConstants.{RUNNING, LEAVING, GONE, MERGED, EMPTY}
use Rattle.brc_model.specs.declared.duty.Holding.{Holding}
use Rattle.brc_word.specs.Words.{half, immortal_local, most_local, owner_part, local_part, phase_part, free_word, dying_word, marks_of_word}
use Rattle.brc_model.specs.Kinds.{kind_of_word, is_counted_kind}
use Rattle.brc_model.specs.declared.duty.Reason.{Reason}
use Rattle.brc_model.specs.declared.duty.Reason.TheVariants.{Own, Handed}
use Rattle.brc_model.specs.declared.duty.Duty.{Duty}
use Rattle.brc_model.specs.declared.duty.Duty.TheVariants.{RetainLoad, RetainStore, RetainAdd, ReleaseLoad, ReleaseStore, DecideAtZero, SharedLoad, SharedExchange, SetMark, Look, TakeMark, MergeSwap, MergeLoad, MergeExchange, Die, Settle, SettleKind, SettleCell, TakeField, CloseResource, SettleEnd, Leave, Scan, TakeFound, Finish, ClaimMark, MarksLoad, BirthKind, BirthField, BirthLocal, KindLoad, LockGate, UnlockGate, CellLoad, CellSwap, LendField, ReturnField}
use Rattle.brc_model.specs.declared.address.Address.{Address}
use Rattle.brc_model.specs.declared.address.Address.TheVariants.{Local, Shared, Gate, KindOf, Cell, Field, ThreadWord}
use Rattle.brc_model.specs.declared.actor.Status.{Status}
use Rattle.brc_model.specs.declared.actor.Status.TheVariants.{Running, Leaving, Gone}
use Rattle.brc_model.specs.Duties.{cells_of, has_resource, resources_of}
use Rattle.brc_model.specs.declared.actor.Actor.{Actor}
use Rattle.brc_model.specs.Machine.{Unborn, Dying, Machine}
use Rattle.brc_model.specs.References.{held, reference_of}
use Rattle.brc_model.specs.Layout.{block_of, block_size, row_at, mark_words_of, IsCounted}

-- the thread word of a status
abbrev pub status_word : Status → ℕ
status_word Running = RUNNING
status_word Leaving = LEAVING
status_word Gone = GONE

-- The thread is running and owns the row. (PEP 703: only then may it change the local count without an atomic step.)
pub record OwnsLocally (m : Machine) (t : ℕ) (a : Actor) (x : ℕ) : Type 0 where
  pub running : a.status ≡ Running
  pub owner : owner_part (m.memory (Local x)) ≡ t + 1
  pub low : local_part (m.memory (Local x)) < immortal_local

-- What keeps the object alive while the thread does a duty about it: the thread holds a reference to it, or a cell of
-- the list that the thread has locked does. (Python/C API manual, List Objects: `PyList_GetItem` borrows the list's own
-- reference. While a thread has locked the list, no other thread changes its cells.)
pub data IsBacked (m : Machine) (t : ℕ) (a : Actor) (x : ℕ) : Type 0 where
  ByReference : (by : Holding) → 0 < held (reference_of t by x) m.abstract.references → IsBacked m t a x
  ByItem : (list cell : ℕ) → a.locked ≡ Some list → m.memory (Cell list cell) ≡ x + 1 → IsBacked m t a x

-- Says whether the duty is one of a retain.
abbrev pub is_retain : Duty → Bool
is_retain (RetainLoad x h) = true
is_retain (RetainStore x h w) = true
is_retain (RetainAdd x h) = true
is_retain _ = false

-- The thread has put no retain aside. A cell of the locked list may be what keeps the retained object alive, so the
-- thread ends its retains before it unlocks the list.
abbrev pub HasNoRetainAside : Actor → Type 0
HasNoRetainAside a = count_by is_retain a.aside ≡ 0

-- A thread merges an object that was queued if it is the owner, or if the owner no longer runs.
abbrev pub MayMerge : Machine → ℕ → ℕ → Type 0
MayMerge m t x = (block_of m.layout x ≡ t) ⊎ (m.memory (ThreadWord (block_of m.layout x)) ≢ RUNNING)

-- Only the running owner merges for its own release. Any thread that may merge does so for a claimed mark.
abbrev pub MayCarry : Machine → ℕ → Actor → ℕ → Reason → Type 0
MayCarry m t a x Own = (a.status ≡ Running) × (block_of m.layout x ≡ t)
MayCarry m t a x Handed = Unit {0}

-- The row is the next unused one of a running worker's block.
pub record IsNext (m : Machine) (t : ℕ) (a : Actor) (x : ℕ) : Type 0 where
  pub running : a.status ≡ Running
  pub worker : 0 < t
  pub there : t ≤ m.layout.workers
  pub row : x ≡ row_at m.layout t a.used
  pub room : a.used < block_size m.layout t

-- The kind word names a kind whose objects are counted.
abbrev pub HasCountedKind : (Address → ℕ) → ℕ → Type 0
HasCountedKind memory x = is_counted_kind (kind_of_word (memory (KindOf x))) ≡ true

-- the gate word of a row that the thread has chained: it names the thread and the next row of the chain
abbrev pub IsDyingWord : ℕ → ℕ → Type 0
IsDyingWord t word = (next : ℕ) × (word ≡ dying_word t next) × (next < half)

-- The thread has chained the row's object, which has no reference left, and hasn't closed it yet.
abbrev pub HasChained : Machine → ℕ → ℕ → Type 0
HasChained m t x = (m.life x ≡ Dying t) × IsDyingWord t (m.memory (Gate x))

-- The thread may look at the object: something keeps the object alive for it, or it has chained the object.
abbrev pub MayRead : Machine → ℕ → Actor → ℕ → Type 0
MayRead m t a x = IsBacked m t a x ⊎ HasChained m t x

-- No other thread changes the row's cells: the thread has locked the list, or has chained it.
abbrev pub GuardsCells : Machine → ℕ → Actor → ℕ → Type 0
GuardsCells m t a x = (a.locked ≡ Some x) ⊎ HasChained m t x

-- The row's cells are empty, but perhaps those from `i` on below `n`.
abbrev pub IsEmptyBut : (Address → ℕ) → ℕ → ℕ → ℕ → Type 0
IsEmptyBut memory x i n = (j : ℕ) → (j < i) ⊎ (n ≤ j) → memory (Cell x j) ≡ EMPTY

-- All cells of the row are empty.
abbrev pub IsEmpty : (Address → ℕ) → ℕ → Type 0
IsEmpty memory x = (j : ℕ) → memory (Cell x j) ≡ EMPTY

-- What a thread knows of a row whose cells it empties, and which it then closes, even while another duty comes before
-- these: the thread may release what it found in a cell first. Only lists have cells, so such a row has no resource.
abbrev pub BehindFits : Machine → ℕ → Duty → Type 0
BehindFits m t (SettleCell x i n) =
    (IsCounted m.layout x) × (m.life x ≡ Dying t) × (i < n) × IsDyingWord t (m.memory (Gate x))
    × IsEmptyBut m.memory x i n × (resources_of (m.memory (KindOf x)) ≡ 0)
BehindFits m t (SettleEnd x) =
    (IsCounted m.layout x) × (m.life x ≡ Dying t) × IsDyingWord t (m.memory (Gate x)) × IsEmpty m.memory x
    × (resources_of (m.memory (KindOf x)) ≡ 0)
BehindFits m t d = Unit {0}

-- The marks are those of rows of the word that the thread has used.
abbrev pub AreUsedMarks : ℕ → ℕ → ℕ → Type 0
AreUsedMarks used w marks = marks < 2 ^ min (used - marks_of_word * w) marks_of_word

-- What the duty knows when it comes next. `rest` are the duties after it. A swap of a cell needs to know no more: the
-- thread's account has the reference that keeps the locked list alive, and no longer the one that goes into the cell.
abbrev pub HeadFits : Machine → ℕ → Actor → Duty → List Duty → Type 0
HeadFits m t a (RetainLoad x h) rest = IsBacked m t a x
HeadFits m t a (RetainStore x h w) rest =
    (IsCounted m.layout x) × IsBacked m t a x × OwnsLocally m t a x × (m.memory (Local x) ≡ w) × (1 ≤ local_part w)
    × (local_part w < most_local)
HeadFits m t a (RetainAdd x h) rest = (IsCounted m.layout x) × IsBacked m t a x
HeadFits m t a (ReleaseLoad x h) rest = Unit {0}
HeadFits m t a (ReleaseStore x w) rest =
    (IsCounted m.layout x) × OwnsLocally m t a x × (m.memory (Local x) ≡ w) × (1 ≤ local_part w)
HeadFits m t a (DecideAtZero x) rest =
    (IsCounted m.layout x) × OwnsLocally m t a x × (local_part (m.memory (Local x)) ≡ 0)
HeadFits m t a (SharedLoad x Own) rest = IsCounted m.layout x
HeadFits m t a (SharedLoad x Handed) rest = (IsCounted m.layout x) × (phase_part (m.memory (Shared x)) ≡ MERGED)
HeadFits m t a (SharedExchange x Own w) rest = IsCounted m.layout x
HeadFits m t a (SharedExchange x Handed w) rest = (IsCounted m.layout x) × (phase_part (m.memory (Shared x)) ≡ MERGED)
HeadFits m t a (SetMark x) rest = IsCounted m.layout x
HeadFits m t a (Look x) rest = (IsCounted m.layout x) × (m.life x ≢ Unborn)
HeadFits m t a (TakeMark x) rest =
    (IsCounted m.layout x) × (m.memory (ThreadWord (block_of m.layout x)) ≢ RUNNING) × (m.life x ≢ Unborn)
HeadFits m t a (MergeSwap x Own) rest =
    (IsCounted m.layout x) × OwnsLocally m t a x × (local_part (m.memory (Local x)) ≡ 0)
HeadFits m t a (MergeSwap x Handed) rest = (IsCounted m.layout x) × MayMerge m t x
HeadFits m t a (MergeLoad x c r) rest = (IsCounted m.layout x) × (c < half) × MayCarry m t a x r
HeadFits m t a (MergeExchange x c w r) rest = (IsCounted m.layout x) × (c < half) × MayCarry m t a x r
HeadFits m t a (Die x) rest = (IsCounted m.layout x) × (m.life x ≡ Dying t) × (m.memory (Gate x) ≡ free_word)
HeadFits m t a Settle rest = 0 < a.head
HeadFits m t a (SettleKind x) rest = (IsCounted m.layout x) × (m.life x ≡ Dying t) × IsDyingWord t (m.memory (Gate x))
HeadFits m t a (SettleCell x i n) rest = BehindFits m t (SettleCell x i n)
HeadFits m t a (TakeField x) rest =
    (IsCounted m.layout x) × (m.life x ≡ Dying t) × IsDyingWord t (m.memory (Gate x)) × IsEmpty m.memory x
    × (resources_of (m.memory (KindOf x)) ≡ 1)
HeadFits m t a (CloseResource x) rest =
    (IsCounted m.layout x) × (m.life x ≡ Dying t) × IsDyingWord t (m.memory (Gate x)) × IsEmpty m.memory x
HeadFits m t a (SettleEnd x) rest =
    (IsCounted m.layout x) × (m.life x ≡ Dying t) × IsDyingWord t (m.memory (Gate x)) × IsEmpty m.memory x
HeadFits m t a (Leave w n) rest = Unit {0}
HeadFits m t a (Scan w n) rest = 0 < n
HeadFits m t a (TakeFound w marks) rest = 0 < marks
HeadFits m t a Finish rest = Unit {0}
HeadFits m t a (ClaimMark x) rest = block_of m.layout x ≡ t
HeadFits m t a (MarksLoad w) rest = w < mark_words_of m.layout t
HeadFits m t a (BirthKind x h w) rest = IsNext m t a x × (rest ≡ []) × (is_counted_kind (kind_of_word w) ≡ true)
HeadFits m t a (BirthField x h) rest =
    IsNext m t a x × (rest ≡ []) × HasCountedKind m.memory x × (resources_of (m.memory (KindOf x)) ≡ 1)
HeadFits m t a (BirthLocal x h) rest =
    IsNext m t a x × (rest ≡ []) × HasCountedKind m.memory x
    × (m.memory (Field x) ≡ resources_of (m.memory (KindOf x)))
HeadFits m t a (KindLoad x) rest = MayRead m t a x
HeadFits m t a (LockGate x) rest = IsBacked m t a x × (a.locked ≡ None)
HeadFits m t a (UnlockGate x) rest =
    IsBacked m t a x × (a.locked ≡ Some x) × HasNoRetainAside a × (a.lent ≡ None)
HeadFits m t a (CellLoad x i) rest = MayRead m t a x × GuardsCells m t a x × (i < cells_of (m.memory (KindOf x)))
HeadFits m t a (CellSwap x i y h) rest = (a.locked ≡ Some x) × (i < cells_of (m.memory (KindOf x)))
HeadFits m t a (LendField x) rest =
    (IsCounted m.layout x) × (a.locked ≡ Some x) × (a.lent ≡ None) × (has_resource (m.memory (KindOf x)) ≡ true)
HeadFits m t a (ReturnField x) rest = a.lent ≡ Some x

abbrev pub HeadOf : Machine → ℕ → Actor → List Duty → Type 0
HeadOf m t a [] = Unit {0}
HeadOf m t a (d ∷ rest) = HeadFits m t a d rest

-- Each of the duties knows what it has to know while another one comes first.
abbrev pub AllBehind : Machine → ℕ → List Duty → Type 0
AllBehind m t [] = Unit {0}
AllBehind m t (d ∷ rest) = BehindFits m t d × AllBehind m t rest

-- the same of the duties after an agenda's first one
abbrev pub BehindOf : Machine → ℕ → List Duty → Type 0
BehindOf m t [] = Unit {0}
BehindOf m t (d ∷ rest) = AllBehind m t rest
