-- A thread's open work: the order of its agenda, the rows that it finalises, and the duties that it has put aside.
use Rattle.std.specs.Prelude.{◌≡◌, ◌⊎◌, ℕ, ◌+◌, ◌-◌, ◌*◌, ◌/◌, ◌%◌, ◌<◌, ◌≤◌, Bool, true, false, ◌&&◌, ◌||◌, ◌==◌, nat_le, List, [], ◌∷◌, Option, None, Some, count_by, if◌then◌else◌}
use Rattle.brc_word.specs.declared.values.TheConstants.{SET}
use Rattle.brc_word.specs.Words.{half, dying_word, marks_of_word, mark_at}
use Rattle.brc_model.specs.declared.duty.Duty.{Duty}
use Rattle.brc_model.specs.declared.duty.Duty.TheVariants.{RetainLoad, RetainStore, RetainAdd, ReleaseLoad, ReleaseStore, DecideAtZero, SharedLoad, SharedExchange, SetMark, Look, TakeMark, MergeSwap, MergeLoad, MergeExchange, Die, Settle, SettleKind, SettleCell, TakeField, CloseResource, SettleEnd, Leave, Scan, TakeFound, Finish, BirthKind, BirthField, BirthLocal, KindLoad, LockGate, UnlockGate, CellLoad, LendField, ReturnField}
use Rattle.brc_model.specs.declared.address.Address.{Address}
use Rattle.brc_model.specs.declared.address.Address.TheVariants.{Gate}
use Rattle.brc_model.specs.declared.actor.Status.{Status}
use Rattle.brc_model.specs.declared.actor.Status.TheVariants.{Running, Leaving, Gone}
use Rattle.brc_model.specs.declared.actor.Actor.{Actor}
use Rattle.brc_model.specs.Duties.{duty_row}
use Rattle.brc_model.specs.Machine.{Life, Dying, Machine}
use Rattle.brc_model.specs.References.{one_if}
use Rattle.brc_model.specs.Knowledge.{AreUsedMarks, HeadFits}

-- ---- what is for later

-- What may come after an agenda's first duty: the rest of a dying list, settling, and the end of the thread's exit. A
-- leaving thread still has to scan the marks of its used rows, from the mark word `w` on, and to take those that it has
-- found.
abbrev pub Later : ℕ → Status → List Duty → Type 0
Later used status [] = status ≡ Running
Later used status (Settle ∷ rest) = Later used status rest
Later used status (SettleCell x i n ∷ rest) = Later used status rest
Later used status (SettleEnd x ∷ rest) = Later used status rest
Later used status (Leave w n ∷ []) =
    (status ≡ Running) × (w ≡ 0) × (n ≡ used)
Later used status (Scan w n ∷ rest) =
    (status ≡ Leaving) × (n ≡ used - marks_of_word * w) × Later used status rest
Later used status (TakeFound w marks ∷ rest) =
    (status ≡ Leaving) × AreUsedMarks used w marks × Later used status rest
Later used status (Finish ∷ []) = status ≡ Leaving
Later used status _ = ⊥

-- A whole agenda: any duty first, and then what may come after it.
abbrev pub Agenda : ℕ → Status → List Duty → Type 0
Agenda used status [] = Later used status []
Agenda used status (Settle ∷ rest) = Later used status (Settle ∷ rest)
Agenda used status (Leave w n ∷ rest) = Later used status (Leave w n ∷ rest)
Agenda used status (Scan w n ∷ rest) = Later used status (Scan w n ∷ rest)
Agenda used status (TakeFound w marks ∷ rest) = Later used status (TakeFound w marks ∷ rest)
Agenda used status (Finish ∷ rest) = Later used status (Finish ∷ rest)
Agenda used status (d ∷ rest) = Later used status rest

-- Says whether the agenda ends with the duty to leave.
abbrev pub has_leave : List Duty → Bool
has_leave [] = false
has_leave (Leave x n ∷ rest) = true
has_leave (d ∷ rest) = has_leave rest

-- Says whether the thread's exit is under way or done: the thread has said that it leaves, or will by its agenda.
abbrev pub exits : Status → List Duty → Bool
exits Running agenda = has_leave agenda
exits Leaving agenda = true
exits Gone agenda = true

-- Says whether the mark of the row with the index is among those that were found in the word.
abbrev pub is_found : ℕ → ℕ → ℕ → Bool
is_found i w marks = (i / marks_of_word == w) && (mark_at marks (i % marks_of_word) == SET)

-- Says whether the thread's exit still has to look at the mark of its row with the index: it hasn't loaded the mark's
-- word yet, or it has found the mark there and hasn't taken it yet.
abbrev pub scans : ℕ → List Duty → Bool
scans i [] = false
scans i (Scan w n ∷ rest) = nat_le w (i / marks_of_word)
scans i (TakeFound w marks ∷ rest) = is_found i w marks || scans i rest
scans i (d ∷ rest) = scans i rest

-- a thread that is gone has nothing to do
abbrev pub AgendaFits : Actor → Status → Type 0
AgendaFits a Gone = (a.agenda ≡ []) × (a.head ≡ 0)
AgendaFits a Running = Agenda a.used Running a.agenda
AgendaFits a Leaving = Agenda a.used Leaving a.agenda

-- ---- when a chain is empty

-- Whenever a duty of the exit comes next, the chain is empty: settling empties it. Any other duty may fill it, so the
-- duties after one have to fit a chain that isn't empty.
abbrev pub IsSettled : ℕ → List Duty → Type 0
IsSettled head [] = Unit {0}
IsSettled head (Settle ∷ rest) = IsSettled 0 rest
IsSettled head (Leave x k ∷ rest) = (head ≡ 0) × IsSettled 0 rest
IsSettled head (Scan w n ∷ rest) = (head ≡ 0) × IsSettled 0 rest
IsSettled head (TakeFound w marks ∷ rest) = (head ≡ 0) × IsSettled 0 rest
IsSettled head (Finish ∷ rest) = (head ≡ 0) × IsSettled 0 rest
IsSettled head (d ∷ rest) = IsSettled 1 rest

-- ---- dying rows

-- The rows are the thread's dying chain from its head on: each gate word names the next row.
abbrev pub Linked : (Address → ℕ) → ℕ → ℕ → List ℕ → Type 0
Linked memory t head [] = head ≡ 0
Linked memory t head (x ∷ xs) =
    (head ≡ x + 1) × ((next : ℕ) × (memory (Gate x) ≡ dying_word t next) × (next < half)
    × Linked memory t next xs)

-- Says whether the duty finalises the row just now, or is about to chain it.
abbrev pub is_finalising : Duty → ℕ → Bool
is_finalising (Die y) x = y == x
is_finalising (SettleKind y) x = y == x
is_finalising (SettleCell y i n) x = y == x
is_finalising (TakeField y) x = y == x
is_finalising (CloseResource y) x = y == x
is_finalising (SettleEnd y) x = y == x
is_finalising _ x = false

-- how many duties of the agenda do so
abbrev pub finalised : List Duty → ℕ → ℕ
finalised [] x = 0
finalised (d ∷ rest) x = if is_finalising d x then 1 + finalised rest x else finalised rest x

-- Says whether the row is dying and the thread finalises it.
abbrev pub dies_by : Life → ℕ → Bool
dies_by (Dying u) t = u == t
dies_by _ t = false

-- The rows that the thread finalises are its dying chain, and the rows that its duties finalise.
pub record ChainFits (m : Machine) (t head : ℕ) (agenda : List Duty) : Type 0 where
  pub chained : List ℕ
  pub linked : Linked m.memory t head chained
  -- each of them is finalised by one duty, or chained once
  pub once : (x : ℕ) → finalised agenda x + count_by (λ y. y == x) chained ≡ one_if (dies_by (m.life x) t)

-- ---- work that is put aside

-- Says whether this row is named.
abbrev pub names_row : ℕ → Option ℕ → Bool
names_row x None = false
names_row x (Some y) = y == x

-- Says whether the duty is about the row.
abbrev pub is_about : ℕ → Duty → Bool
is_about x d = names_row x (duty_row d)

-- the same of an agenda's first duty
abbrev pub about_of : ℕ → List Duty → Bool
about_of x [] = false
about_of x (d ∷ rest) = is_about x d

-- Says whether a duty may be put aside: a retain, a release, a queueing or a merge may. A thread settles, claims,
-- exits, gives birth, asks for a kind, locks, unlocks, loads or swaps a cell, and lends or returns a resource in one
-- go.
abbrev pub may_wait : Duty → Bool
may_wait (RetainLoad x h) = true
may_wait (RetainStore x h w) = true
may_wait (RetainAdd x h) = true
may_wait (ReleaseLoad x h) = true
may_wait (ReleaseStore x w) = true
may_wait (DecideAtZero x) = true
may_wait (SharedLoad x r) = true
may_wait (SharedExchange x r w) = true
may_wait (SetMark x) = true
may_wait (Look x) = true
may_wait (TakeMark x) = true
may_wait (MergeSwap x r) = true
may_wait (MergeLoad x c r) = true
may_wait (MergeExchange x c w r) = true
may_wait _ = false

-- Says whether a duty may come next while others are aside: one that may wait, a death, a birth, a look at a kind or a
-- cell, or one that locks, unlocks, lends a resource or returns it.
abbrev pub is_piece : Duty → Bool
is_piece (Die x) = true
is_piece (BirthKind x h w) = true
is_piece (BirthField x h) = true
is_piece (BirthLocal x h) = true
is_piece (KindLoad x) = true
is_piece (LockGate x) = true
is_piece (UnlockGate x) = true
is_piece (CellLoad x i) = true
is_piece (LendField x) = true
is_piece (ReturnField x) = true
is_piece d = may_wait d

-- The agenda is empty, or one such duty.
abbrev pub IsPiece : List Duty → Type 0
IsPiece [] = Unit {0}
IsPiece (d ∷ []) = is_piece d ≡ true
IsPiece _ = ⊥

-- Each duty that is put aside knows what it knew when it came next.
abbrev pub AllWait : Machine → ℕ → Actor → List Duty → Type 0
AllWait m t a [] = Unit {0}
AllWait m t a (d ∷ rest) = (may_wait d ≡ true) × HeadFits m t a d [] × AllWait m t a rest

-- A thread may have several pieces of work open, each about another row.
pub record AsideFits (m : Machine) (t : ℕ) (a : Actor) : Type 0 where
  pub waits : AllWait m t a a.aside
  pub apart : (x : ℕ) → one_if (about_of x a.agenda) + count_by (is_about x) a.aside ≤ 1
  pub pieces : (a.aside ≡ []) ⊎ IsPiece a.agenda
