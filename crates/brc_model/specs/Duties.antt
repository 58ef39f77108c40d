-- Duties. A duty is one step on one word. What a thread still has to do inside an instruction or its exit is its
-- agenda, a list of duties. Which duties follow a duty depends on the value that its step finds.
use Rattle.std.specs.Prelude.{ℕ, zero, suc, ◌+◌, ◌-◌, ◌*◌, Bool, ◌&&◌, ◌||◌, ◌==◌, nat_lt, if◌then◌else◌, List, [], ◌∷◌, ◌++◌, Option, None, Some}
use Rattle.brc_word.specs.declared.values.TheConstants.{RUNNING, LEAVING, GONE, SET, NOBODY, ONE_REFERENCE, EMPTY, FULL, LIST, FILE, SOCK}
use Rattle.brc_model.specs.declared.duty.Holding.TheVariants.{InFlight}
use Rattle.brc_model.specs.declared.duty.Reason.{Reason}
use Rattle.brc_model.specs.declared.duty.Reason.TheVariants.{Own, Handed}
use Rattle.brc_model.specs.declared.duty.Duty.{Duty}
use Rattle.brc_model.specs.declared.duty.Duty.TheVariants.{RetainLoad, RetainStore, RetainAdd, ReleaseLoad, ReleaseStore, DecideAtZero, SharedLoad, SharedExchange, SetMark, Look, TakeMark, MergeSwap, MergeLoad, MergeExchange, Die, Settle, SettleKind, SettleCell, TakeField, CloseResource, SettleEnd, Leave, Scan, TakeFound, Finish, ClaimMark, MarksLoad, BirthKind, BirthField, BirthLocal, KindLoad, LockGate, UnlockGate, CellLoad, CellSwap, LendField, ReturnField}
use Rattle.brc_model.specs.declared.address.Address.{Address}
use Rattle.brc_model.specs.declared.layout.Layout.{Layout}
use Rattle.brc_model.specs.declared.address.Address.TheVariants.{Local, Shared, Gate, KindOf, Marks, Cell, Field, Resource, ThreadWord}
use Rattle.brc_word.specs.Words.{most_local, local_word, owner_part, local_part, is_immortal_word, fresh_word, dead_word, released_word, merged_word, free_word, locked_word, dying_word, next_part, closed_word, kind_part, argument_part, marks_of_word, mark_at, marked_word, unmarked_word, lowest_mark, first_marks}
use Rattle.brc_model.specs.Layout.{block_of, row_at, mark_word, mark_bit}

-- ---- the row that a duty names

-- Returns the row that the duty names. A duty that settles the head of a chain or belongs to an exit names none.
abbrev pub duty_row : Duty → Option ℕ
duty_row (RetainLoad x h) = Some x
duty_row (RetainStore x h w) = Some x
duty_row (RetainAdd x h) = Some x
duty_row (ReleaseLoad x h) = Some x
duty_row (ReleaseStore x w) = Some x
duty_row (DecideAtZero x) = Some x
duty_row (SharedLoad x r) = Some x
duty_row (SharedExchange x r w) = Some x
duty_row (SetMark x) = Some x
duty_row (Look x) = Some x
duty_row (TakeMark x) = Some x
duty_row (MergeSwap x r) = Some x
duty_row (MergeLoad x c r) = Some x
duty_row (MergeExchange x c w r) = Some x
duty_row (Die x) = Some x
duty_row (SettleKind x) = Some x
duty_row (SettleCell x i n) = Some x
duty_row (TakeField x) = Some x
duty_row (CloseResource x) = Some x
duty_row (SettleEnd x) = Some x
duty_row (ClaimMark x) = Some x
duty_row (BirthKind x h w) = Some x
duty_row (BirthField x h) = Some x
duty_row (BirthLocal x h) = Some x
duty_row (KindLoad x) = Some x
duty_row (LockGate x) = Some x
duty_row (UnlockGate x) = Some x
duty_row (CellLoad x i) = Some x
duty_row (CellSwap x i y h) = Some x
duty_row (LendField x) = Some x
duty_row (ReturnField x) = Some x
duty_row Settle = None
duty_row (Leave w n) = None
duty_row (Scan w n) = None
duty_row (TakeFound w marks) = None
duty_row (MarksLoad w) = None
duty_row Finish = None

-- the row of the lowest of the marks that thread t has found in a mark word of its block
abbrev pub found_row : Layout → ℕ → ℕ → ℕ → ℕ
found_row layout t w marks = row_at layout t (marks_of_word * w + lowest_mark marks)

-- ---- the word of a step

-- the place of the mark word in which the row's mark is
abbrev pub mark_place : Layout → ℕ → Address
mark_place layout x = Marks (block_of layout x) (mark_word layout x)

-- Returns the address of the word that the duty of thread t accesses. `head` is the head of the thread's dying chain.
abbrev pub address_of : Layout → ℕ → ℕ → Duty → Address
address_of layout t head (RetainLoad x h) = Local x
address_of layout t head (RetainStore x h w) = Local x
address_of layout t head (RetainAdd x h) = Shared x
address_of layout t head (ReleaseLoad x h) = Local x
address_of layout t head (ReleaseStore x w) = Local x
address_of layout t head (DecideAtZero x) = Shared x
address_of layout t head (SharedLoad x r) = Shared x
address_of layout t head (SharedExchange x r w) = Shared x
address_of layout t head (SetMark x) = mark_place layout x
address_of layout t head (Look x) = ThreadWord (block_of layout x)
address_of layout t head (TakeMark x) = mark_place layout x
address_of layout t head (MergeSwap x r) = Local x
address_of layout t head (MergeLoad x c r) = Shared x
address_of layout t head (MergeExchange x c w r) = Shared x
address_of layout t head (Die x) = Gate x
address_of layout t head Settle = Gate (head - 1)
address_of layout t head (SettleKind x) = KindOf x
address_of layout t head (SettleCell x i n) = Cell x i
address_of layout t head (TakeField x) = Field x
address_of layout t head (CloseResource x) = Resource x
address_of layout t head (SettleEnd x) = Gate x
address_of layout t head (Leave w n) = ThreadWord t
address_of layout t head (Scan w n) = Marks t w
address_of layout t head (TakeFound w marks) = mark_place layout (found_row layout t w marks)
address_of layout t head Finish = ThreadWord t
address_of layout t head (ClaimMark x) = mark_place layout x
address_of layout t head (MarksLoad w) = Marks t w
address_of layout t head (BirthKind x h w) = KindOf x
address_of layout t head (BirthField x h) = Field x
address_of layout t head (BirthLocal x h) = Local x
address_of layout t head (KindLoad x) = KindOf x
address_of layout t head (LockGate x) = Gate x
address_of layout t head (UnlockGate x) = Gate x
address_of layout t head (CellLoad x i) = Cell x i
address_of layout t head (CellSwap x i y h) = Cell x i
address_of layout t head (LendField x) = Field x
address_of layout t head (ReturnField x) = Field x

-- Returns the new value of the word that the step accesses.
abbrev pub new_word : Layout → ℕ → ℕ → Duty → ℕ → ℕ
new_word layout t head (RetainLoad x h) found = found
new_word layout t head (RetainStore x h w) found = w + 1
new_word layout t head (RetainAdd x h) found = found + ONE_REFERENCE
new_word layout t head (ReleaseLoad x h) found = found
new_word layout t head (ReleaseStore x w) found = w - 1
new_word layout t head (DecideAtZero x) found = found
new_word layout t head (SharedLoad x r) found = found
new_word layout t head (SharedExchange x r w) found = if found == w then released_word w else found
new_word layout t head (SetMark x) found = marked_word found (mark_bit layout x)
new_word layout t head (Look x) found = found
new_word layout t head (TakeMark x) found = unmarked_word found (mark_bit layout x)
new_word layout t head (MergeSwap x r) found = NOBODY
new_word layout t head (MergeLoad x c r) found = found
new_word layout t head (MergeExchange x c w r) found = if found == w then merged_word w c else found
new_word layout t head (Die x) found = dying_word t head
new_word layout t head Settle found = found
new_word layout t head (SettleKind x) found = found
new_word layout t head (SettleCell x i n) found = EMPTY
new_word layout t head (TakeField x) found = EMPTY
new_word layout t head (CloseResource x) found = found + 1
new_word layout t head (SettleEnd x) found = closed_word
new_word layout t head (Leave w n) found = LEAVING
new_word layout t head (Scan w n) found = found
new_word layout t head (TakeFound w marks) found =
    unmarked_word found (mark_bit layout (found_row layout t w marks))
new_word layout t head Finish found = GONE
new_word layout t head (ClaimMark x) found = unmarked_word found (mark_bit layout x)
new_word layout t head (MarksLoad w) found = found
new_word layout t head (BirthKind x h w) found = w
new_word layout t head (BirthField x h) found = FULL
new_word layout t head (BirthLocal x h) found = local_word t 1
new_word layout t head (KindLoad x) found = found
new_word layout t head (LockGate x) found = if found == free_word then locked_word t else found
new_word layout t head (UnlockGate x) found = free_word
new_word layout t head (CellLoad x i) found = found
new_word layout t head (CellSwap x i y h) found = y + 1
new_word layout t head (LendField x) found = EMPTY
new_word layout t head (ReturnField x) found = FULL

-- ---- what follows a step

-- Says whether the thread counts in the local word: it runs and owns the object.
abbrev pub counts_locally : ℕ → Bool → ℕ → Bool
counts_locally t running word = running && (owner_part word == t + 1)

-- after a mark was taken: if it was set, the object is merged, so that the handed reference can be given up
abbrev pub claimed : ℕ → ℕ → List Duty
claimed x mark = if mark == SET then MergeSwap x Handed ∷ [] else []

-- after a merge that is done: a handed reference is given up
abbrev pub once_merged : ℕ → Reason → List Duty
once_merged x Own = []
once_merged x Handed = SharedLoad x Handed ∷ []

-- after a merge that left this word: the object dies if no reference is counted any more; a handed reference is given
-- up
abbrev pub merge_result : ℕ → Reason → ℕ → List Duty
merge_result x Own word = if word == dead_word then Die x ∷ [] else []
merge_result x Handed word = once_merged x Handed

-- after a release that found the shared word w: a queued object is marked, and an object without a reference dies
abbrev pub shared_result : ℕ → ℕ → List Duty
shared_result x w = if w == fresh_word then SetMark x ∷ [] else if released_word w == dead_word then Die x ∷ [] else []

-- Says whether an object with this kind word has a resource of the host: a file or a socket does.
abbrev pub has_resource : ℕ → Bool
has_resource word = (kind_part word == FILE) || (kind_part word == SOCK)

-- how many resources of the host it has
abbrev pub resources_of : ℕ → ℕ
resources_of word = if has_resource word then 1 else 0

-- how many cells an object with this kind word has
abbrev pub cells_of : ℕ → ℕ
cells_of word = if kind_part word == LIST then argument_part word else 0

abbrev pub cells_from : ℕ → ℕ → ℕ → List Duty
cells_from x i n = if nat_lt i n then SettleCell x i n ∷ [] else SettleEnd x ∷ []

abbrev pub release_found : ℕ → List Duty
release_found zero = []
release_found (suc y) = ReleaseLoad y InFlight ∷ []

-- Returns the duties that take the place of the duty once its step has found this value.
abbrev pub continuation : Layout → ℕ → Bool → ℕ → Duty → ℕ → List Duty
continuation layout t running head (RetainLoad x h) found =
    if is_immortal_word found then []
    else if counts_locally t running found && nat_lt (local_part found) most_local then RetainStore x h found ∷ []
    else RetainAdd x h ∷ []
continuation layout t running head (RetainStore x h w) found = []
continuation layout t running head (RetainAdd x h) found = []
continuation layout t running head (ReleaseLoad x h) found =
    if is_immortal_word found then []
    else if counts_locally t running found then ReleaseStore x found ∷ []
    else SharedLoad x Own ∷ []
continuation layout t running head (ReleaseStore x w) found = if local_part w == 1 then DecideAtZero x ∷ [] else []
continuation layout t running head (DecideAtZero x) found =
    if found == fresh_word then Die x ∷ [] else MergeSwap x Own ∷ []
continuation layout t running head (SharedLoad x r) found = SharedExchange x r found ∷ []
continuation layout t running head (SharedExchange x r w) found =
    if found == w then shared_result x w else SharedLoad x r ∷ []
continuation layout t running head (SetMark x) found = Look x ∷ []
continuation layout t running head (Look x) found = if found == RUNNING then [] else TakeMark x ∷ []
continuation layout t running head (TakeMark x) found = claimed x (mark_at found (mark_bit layout x))
continuation layout t running head (MergeSwap x r) found =
    if found == NOBODY then once_merged x r else MergeLoad x (local_part found) r ∷ []
continuation layout t running head (MergeLoad x c r) found = MergeExchange x c found r ∷ []
continuation layout t running head (MergeExchange x c w r) found =
    if found == w then merge_result x r (merged_word w c) else MergeLoad x c r ∷ []
continuation layout t running head (Die x) found = []
continuation layout t running head Settle found = SettleKind (head - 1) ∷ Settle ∷ []
continuation layout t running head (SettleKind x) found =
    if has_resource found then TakeField x ∷ [] else cells_from x 0 (cells_of found)
continuation layout t running head (SettleCell x i n) found = release_found found ++ cells_from x (i + 1) n
continuation layout t running head (TakeField x) found = CloseResource x ∷ []
continuation layout t running head (CloseResource x) found = SettleEnd x ∷ []
continuation layout t running head (SettleEnd x) found = []
continuation layout t running head (Leave w n) found = Scan w n ∷ Finish ∷ []
continuation layout t running head (Scan w n) found =
    TakeFound w (first_marks found n) ∷ Scan (w + 1) (n - marks_of_word) ∷ []
continuation layout t running head (TakeFound w marks) found =
    claimed (found_row layout t w marks) (mark_at found (mark_bit layout (found_row layout t w marks)))
    ++ Settle ∷ TakeFound w (unmarked_word marks (lowest_mark marks)) ∷ []
continuation layout t running head Finish found = []
continuation layout t running head (ClaimMark x) found = claimed x (mark_at found (mark_bit layout x)) ++ Settle ∷ []
continuation layout t running head (MarksLoad w) found = []
continuation layout t running head (BirthKind x h w) found =
    if has_resource w then BirthField x h ∷ [] else BirthLocal x h ∷ []
continuation layout t running head (BirthField x h) found = BirthLocal x h ∷ []
continuation layout t running head (BirthLocal x h) found = []
continuation layout t running head (KindLoad x) found = []
continuation layout t running head (LockGate x) found = []
continuation layout t running head (UnlockGate x) found = []
continuation layout t running head (CellLoad x i) found = []
continuation layout t running head (CellSwap x i y h) found = release_found found
continuation layout t running head (LendField x) found = []
continuation layout t running head (ReturnField x) found = []

-- the head of the dying chain after the step: 0, or a row plus 1
abbrev pub new_head : ℕ → Duty → ℕ → ℕ
new_head head (Die x) found = x + 1
new_head head Settle found = next_part found
new_head head _ found = head

-- Skips the duties that need no step: settling an empty chain, scanning no rows, and taking no marks.
abbrev pub ready : ℕ → List Duty → List Duty
ready head [] = []
ready zero (Settle ∷ rest) = ready zero rest
ready head (Scan w zero ∷ rest) = ready head rest
ready head (TakeFound w zero ∷ rest) = ready head rest
ready head (d ∷ rest) = d ∷ rest
