-- The step relation: each way in which a step on a word can go is a rule with a name. A rule names the duty, the value
-- that the step finds, the value that it leaves, the duties that follow, and the moves of references. The rules are in
-- the order of an object's life. (PEP 703, Biased Reference Counting and Immortalization.)
use Rattle.std.specs.Prelude.{◌≡◌, ◌≢◌, ℕ, ◌+◌, ◌-◌, ◌<◌, ◌≤◌, Bool, true, false, List, [], ◌∷◌, ◌++◌}
use Rattle.brc_word.specs.declared.values.TheConstants.{RUNNING, LEAVING, GONE, SET, NOBODY, ONE_REFERENCE, QUEUED, EMPTY, FULL}
use Rattle.brc_model.specs.declared.duty.Holding.{Holding}
use Rattle.brc_model.specs.declared.duty.Reason.{Reason}
use Rattle.brc_model.specs.declared.duty.Reason.TheVariants.{Own, Handed}
use Rattle.brc_model.specs.declared.duty.Duty.{Duty}
use Rattle.brc_model.specs.declared.duty.Duty.TheVariants.{RetainLoad, RetainStore, RetainAdd, ReleaseLoad, ReleaseStore, DecideAtZero, SharedLoad, SharedExchange, SetMark, Look, TakeMark, MergeSwap, MergeLoad, MergeExchange, Die, Settle, SettleKind, SettleCell, TakeField, CloseResource, SettleEnd, Leave, Scan, TakeFound, Finish, ClaimMark, MarksLoad, BirthKind, BirthField, BirthLocal, KindLoad, LockGate, UnlockGate, CellLoad, CellSwap, LendField, ReturnField}
use Rattle.brc_model.specs.declared.address.Address.{Address}
use Rattle.brc_model.specs.declared.address.Address.TheVariants.{KindOf}
use Rattle.brc_word.specs.Words.{most_local, local_word, local_part, is_immortal_word, fresh_word, dead_word, merged_word, free_word, locked_word, dying_word, closed_word, marks_of_word, mark_at, marked_word, unmarked_word, lowest_mark, first_marks}
use Rattle.brc_model.specs.Kinds.{kind_of_word}
use Rattle.brc_model.specs.AbstractState.{Move, Finalise}
use Rattle.brc_model.specs.Duties.{found_row, new_word, continuation, counts_locally, once_merged, has_resource, cells_of, cells_from, release_found}
use Rattle.brc_model.specs.declared.layout.Layout.{Layout}
use Rattle.brc_model.specs.Layout.{mark_bit}
use Rattle.brc_model.specs.Moves.{reference_effects, gain, lose, put_in_flight, take_out, put_in, birth}

-- A release loses the thread's own reference. A reference that the queue held was lost when its object was queued.
abbrev pub given_up : ℕ → Reason → ℕ → List Move
given_up t Own x = lose t x
given_up t Handed x = []

-- Thread t takes the step. `running` says whether it runs, and `head` is the head of its dying chain. A birth reads the
-- object's kind from `memory`.
module _ (memory : Address → ℕ) (layout : Layout) (t : ℕ) (running : Bool) (head : ℕ) where
  pub data Goes : (duty : Duty) → (found left : ℕ) → (next : List Duty) → (moves : List Move) → Type 0 where
    -- ---- a birth: the kind first, and last the owner with one reference

    -- a file or a socket: its resource comes next
    KindOfResource : (x : ℕ) (h : Holding) (word found : ℕ) → has_resource word ≡ true
        → Goes (BirthKind x h word) found word (BirthField x h ∷ []) []
    -- any other object is owned next
    KindOfOther : (x : ℕ) (h : Holding) (word found : ℕ) → has_resource word ≡ false
        → Goes (BirthKind x h word) found word (BirthLocal x h ∷ []) []
    -- the resource is put into its field before the object is born
    FieldFilled : (x : ℕ) (h : Holding) (found : ℕ)
        → Goes (BirthField x h) found FULL (BirthLocal x h ∷ []) []
    -- the thread that makes the object owns it, with one local reference
    Born : (x : ℕ) (h : Holding) (found : ℕ)
        → Goes (BirthLocal x h) found (local_word t 1) [] (birth t h x (kind_of_word (memory (KindOf x))))
    -- ---- a look at an object's kind

    -- the kind word never changes, once the object is born
    KindRead : (x found : ℕ)
        → Goes (KindLoad x) found found [] []
    -- ---- locks

    -- the gate is free: the thread has locked the list from then on
    Locks : (x found : ℕ) → found ≡ free_word
        → Goes (LockGate x) found (locked_word t) [] []
    -- another thread has locked the list: the thread may try again
    LockHeld : (x found : ℕ) → found ≢ free_word
        → Goes (LockGate x) found found [] []
    -- the gate is free: any thread may lock the list
    Unlocks : (x found : ℕ)
        → Goes (UnlockGate x) found free_word [] []
    -- ---- cells

    -- the list keeps its reference, and the word stays while the thread has the list locked and changes no cell
    CellRead : (x cell found : ℕ)
        → Goes (CellLoad x cell) found found [] []
    -- ---- a cell of a locked list

    -- the list steals the thread's reference, and what the cell held is released next
    ItemStored : (x cell item : ℕ) (h : Holding) (found : ℕ)
        → Goes (CellSwap x cell item h) found (item + 1) (release_found found)
        (put_in t h item x cell ++ take_out t x cell found)
    -- ---- the resource of a locked file or socket

    -- the thread has it lent, for a call of the host
    ResourceLent : (x found : ℕ)
        → Goes (LendField x) found EMPTY [] []
    -- the host's call has ended, and the resource is back in its field
    ResourceReturned : (x found : ℕ)
        → Goes (ReturnField x) found FULL [] []
    -- ---- a new reference

    -- an immortal object is never counted
    RetainsImmortal : (x : ℕ) (h : Holding) (found : ℕ) → is_immortal_word found ≡ true
        → Goes (RetainLoad x h) found found [] (gain t h x)
    -- the running owner counts the reference in the local word next
    OwnerRetains : (x : ℕ) (h : Holding) (found : ℕ)
        → is_immortal_word found ≡ false → counts_locally t running found ≡ true → local_part found < most_local
        → Goes (RetainLoad x h) found found (RetainStore x h found ∷ []) []
    -- an owner at the greatest local count counts in the shared word next, so that no object becomes immortal by
    -- counting
    FullOwnerRetains : (x : ℕ) (h : Holding) (found : ℕ)
        → is_immortal_word found ≡ false → counts_locally t running found ≡ true → most_local ≤ local_part found
        → Goes (RetainLoad x h) found found (RetainAdd x h ∷ []) []
    -- any other thread, or an owner that no longer runs, counts in the shared word next
    OtherRetains : (x : ℕ) (h : Holding) (found : ℕ)
        → is_immortal_word found ≡ false → counts_locally t running found ≡ false
        → Goes (RetainLoad x h) found found (RetainAdd x h ∷ []) []
    -- the owner counts one reference more, by a plain store
    LocalRaised : (x : ℕ) (h : Holding) (word found : ℕ)
        → Goes (RetainStore x h word) found (word + 1) [] (gain t h x)
    -- one reference more is added to the shared count, by one atomic step
    SharedRaised : (x : ℕ) (h : Holding) (found : ℕ)
        → Goes (RetainAdd x h) found (found + ONE_REFERENCE) [] (gain t h x)
    -- ---- the start of a release: from here on the reference is in flight

    -- an immortal object isn't counted
    ReleasesImmortal : (x : ℕ) (h : Holding) (found : ℕ) → is_immortal_word found ≡ true
        → Goes (ReleaseLoad x h) found found [] (put_in_flight t h x ++ lose t x)
    -- the running owner counts in the local word next
    OwnerReleases : (x : ℕ) (h : Holding) (found : ℕ)
        → is_immortal_word found ≡ false → counts_locally t running found ≡ true
        → Goes (ReleaseLoad x h) found found (ReleaseStore x found ∷ []) (put_in_flight t h x)
    -- any other thread, or an owner that no longer runs, counts in the shared word next
    OtherReleases : (x : ℕ) (h : Holding) (found : ℕ)
        → is_immortal_word found ≡ false → counts_locally t running found ≡ false
        → Goes (ReleaseLoad x h) found found (SharedLoad x Own ∷ []) (put_in_flight t h x)
    -- ---- the owner's release

    -- the owner counts one reference less, and has others left
    LocalLowered : (x word found : ℕ) → local_part word ≢ 1
        → Goes (ReleaseStore x word) found (word - 1) [] (lose t x)
    -- the last local reference: the shared word decides what becomes of the object
    LocalReachesZero : (x word found : ℕ) → local_part word ≡ 1
        → Goes (ReleaseStore x word) found (word - 1) (DecideAtZero x ∷ []) (lose t x)
    -- (0, default): no other thread holds a reference, and the owner deallocates the object at once
    NothingShared : (x found : ℕ) → found ≡ fresh_word
        → Goes (DecideAtZero x) found found (Die x ∷ []) []
    -- in any other state the owner merges the counts first
    WasShared : (x found : ℕ) → found ≢ fresh_word
        → Goes (DecideAtZero x) found found (MergeSwap x Own ∷ []) []
    -- ---- another thread's release

    -- count and state together decide what the exchange stores, if the word is still the same
    SharedRead : (x : ℕ) (reason : Reason) (found : ℕ)
        → Goes (SharedLoad x reason) found found (SharedExchange x reason found ∷ []) []
    -- (0, default): the thread hands its reference to the owner's queue, and so asks the owner to merge
    Queues : (x : ℕ) (reason : Reason) (word : ℕ) → word ≡ fresh_word
        → Goes (SharedExchange x reason word) word (word + QUEUED) (SetMark x ∷ []) (given_up t reason x)
    -- the shared count loses one reference
    Decrements : (x : ℕ) (reason : Reason) (word : ℕ) → word ≢ fresh_word → word - ONE_REFERENCE ≢ dead_word
        → Goes (SharedExchange x reason word) word (word - ONE_REFERENCE) [] (given_up t reason x)
    -- merged, and the last reference of all: this thread deallocates the object
    DecrementsToZero : (x : ℕ) (reason : Reason) (word : ℕ) → word ≢ fresh_word → word - ONE_REFERENCE ≡ dead_word
        → Goes (SharedExchange x reason word) word (word - ONE_REFERENCE) (Die x ∷ []) (given_up t reason x)
    -- the compare-exchange fails, because another thread has changed the word: the thread retries
    ExchangeLost : (x : ℕ) (reason : Reason) (word found : ℕ) → found ≢ word
        → Goes (SharedExchange x reason word) found found (SharedLoad x reason ∷ []) []
    -- ---- the queue of objects to be merged

    -- the object is in its owner's queue: the thread looks next whether the owner still runs
    Marked : (x found : ℕ)
        → Goes (SetMark x) found (marked_word found (mark_bit layout x)) (Look x ∷ []) []
    -- the owner runs: it will find the mark
    OwnerRuns : (x found : ℕ) → found ≡ RUNNING
        → Goes (Look x) found found [] []
    -- the owner is exiting or has exited: the thread that queued the object takes the mark back
    OwnerExits : (x found : ℕ) → found ≢ RUNNING
        → Goes (Look x) found found (TakeMark x ∷ []) []
    -- the mark was set: the thread merges the object, and then releases the reference that the queue held
    MarkTakenBack : (x found : ℕ) → mark_at found (mark_bit layout x) ≡ SET
        → Goes (TakeMark x) found (unmarked_word found (mark_bit layout x)) (MergeSwap x Handed ∷ []) []
    -- the owner has taken the mark first
    MarkGone : (x found : ℕ) → mark_at found (mark_bit layout x) ≢ SET
        → Goes (TakeMark x) found (unmarked_word found (mark_bit layout x)) [] []
    -- a running owner, between two calls, looks which marks of a word are set
    MarksLooked : (word found : ℕ)
        → Goes (MarksLoad word) found found [] []
    -- a running owner, between two calls, finds the mark set, and merges the object
    MarkClaimed : (x found : ℕ) → mark_at found (mark_bit layout x) ≡ SET
        → Goes (ClaimMark x) found (unmarked_word found (mark_bit layout x)) (MergeSwap x Handed ∷ Settle ∷ []) []
    -- the mark was clear
    NothingToClaim : (x found : ℕ) → mark_at found (mark_bit layout x) ≢ SET
        → Goes (ClaimMark x) found (unmarked_word found (mark_bit layout x)) (Settle ∷ []) []
    -- ---- a merge: the local count moves into the shared word, and nobody owns the object any more

    -- the object is merged already: the thread does what it wanted the merge for
    NobodysCount : (x : ℕ) (reason : Reason) (found : ℕ) → found ≡ NOBODY
        → Goes (MergeSwap x reason) found NOBODY (once_merged x reason) []
    -- owner and count leave the local word in one step, and the thread carries the count
    LocalTakenOut : (x : ℕ) (reason : Reason) (found : ℕ) → found ≢ NOBODY
        → Goes (MergeSwap x reason) found NOBODY (MergeLoad x (local_part found) reason ∷ []) []
    -- the exchange adds the carried count, if the word is still the same
    MergeRead : (x carried : ℕ) (reason : Reason) (found : ℕ)
        → Goes (MergeLoad x carried reason) found found (MergeExchange x carried found reason ∷ []) []
    -- the shared count has all references from then on, and nobody owns the object
    Merges : (x carried word : ℕ) → merged_word word carried ≢ dead_word
        → Goes (MergeExchange x carried word Own) word (merged_word word carried) [] []
    -- no reference is left: the owner deallocates the object
    MergesToZero : (x carried word : ℕ) → merged_word word carried ≡ dead_word
        → Goes (MergeExchange x carried word Own) word (merged_word word carried) (Die x ∷ []) []
    -- the count still has the reference that the queue held: the thread releases it next
    MergesForHanded : (x carried word : ℕ)
        → Goes (MergeExchange x carried word Handed) word (merged_word word carried) (SharedLoad x Handed ∷ []) []
    -- the compare-exchange fails, because another thread has changed the word: the thread retries
    MergeLost : (x carried word : ℕ) (reason : Reason) (found : ℕ) → found ≢ word
        → Goes (MergeExchange x carried word reason) found found (MergeLoad x carried reason ∷ []) []
    -- ---- deallocation

    -- the dying object becomes the head of the thread's dying chain
    Chained : (x found : ℕ)
        → Goes (Die x) found (dying_word t head) [] []
    -- the head of the chain is deallocated next, and then the rest of the chain
    ChainRead : (found : ℕ)
        → Goes Settle found found (SettleKind (head - 1) ∷ Settle ∷ []) []
    -- a file or a socket has a resource to close
    DyingResource : (x found : ℕ) → has_resource found ≡ true
        → Goes (SettleKind x) found found (TakeField x ∷ []) []
    -- a list's cells are emptied first; an object without cells is closed next
    DyingCells : (x found : ℕ) → has_resource found ≡ false
        → Goes (SettleKind x) found found (cells_from x 0 (cells_of found)) []
    -- the cell's reference is released before the next cell is emptied
    CellEmptied : (x cell cells found : ℕ)
        → Goes (SettleCell x cell cells) found EMPTY (release_found found ++ cells_from x (cell + 1) cells)
        (take_out t x cell found)
    -- no other thread finds the resource while the host closes it
    FieldEmptied : (x found : ℕ)
        → Goes (TakeField x) found EMPTY (CloseResource x ∷ []) []
    -- the host has closed the resource, also if it reports a fault
    ResourceClosed : (x found : ℕ)
        → Goes (CloseResource x) found (found + 1) (SettleEnd x ∷ []) []
    -- the object is closed, and no duty follows: so it is closed once
    Closes : (x found : ℕ)
        → Goes (SettleEnd x) found closed_word [] (Finalise x ∷ [])
    -- ---- a thread's exit: it announces the exit, and only then scans its marks

    -- whoever sets a mark from then on finds that the owner no longer runs
    SaysLeaving : (word rows found : ℕ)
        → Goes (Leave word rows) found LEAVING (Scan word rows ∷ Finish ∷ []) []
    -- the marks of used rows that the load finds are taken next, one by one
    MarksRead : (word rows found : ℕ)
        → Goes (Scan word rows) found found
        (TakeFound word (first_marks found rows) ∷ Scan (word + 1) (rows - marks_of_word) ∷ []) []
    -- the object is merged, the reference that the queue held released, and what dies deallocated, before the next mark
    FoundMarkTaken : (word marks found : ℕ) → mark_at found (mark_bit layout (found_row layout t word marks)) ≡ SET
        → Goes (TakeFound word marks) found
        (unmarked_word found (mark_bit layout (found_row layout t word marks)))
        (MergeSwap (found_row layout t word marks) Handed ∷ Settle
        ∷ TakeFound word (unmarked_word marks (lowest_mark marks)) ∷ []) []
    -- the thread that queued the object has taken the mark back since the load
    FoundMarkGone : (word marks found : ℕ) → mark_at found (mark_bit layout (found_row layout t word marks)) ≢ SET
        → Goes (TakeFound word marks) found
        (unmarked_word found (mark_bit layout (found_row layout t word marks)))
        (Settle ∷ TakeFound word (unmarked_word marks (lowest_mark marks)) ∷ []) []
    -- the thread takes no further step
    SaysGone : (found : ℕ)
        → Goes Finish found GONE [] []

  -- the conclusion of a rule is what the step of the duty computes
  pub record IsComputed (d : Duty) (found left : ℕ) (next : List Duty) (moves : List Move) : Type 0 where
    pub left_is : left ≡ new_word layout t head d found
    pub next_is : next ≡ continuation layout t running head d found
    pub moves_are : moves ≡ reference_effects memory t d found
