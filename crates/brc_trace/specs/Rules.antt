-- The names of the rules of the step relation (`Rules` of the model), and the rule that a step goes by. A rule is found
-- from the duty, the word found and the word left alone. A mark was set if the step that takes it has changed the
-- word.
use Rattle.std.specs.Prelude.{ℕ, Bool, ◌==◌, nat_lt, if◌then◌else◌, List, codes}
use Rattle.brc_word.specs.declared.values.TheConstants.{RUNNING, NOBODY}
use Rattle.brc_word.specs.Words.{most_local, local_part, is_immortal_word, fresh_word, dead_word, free_word}
use Rattle.brc_model.specs.declared.duty.Reason.{Reason}
use Rattle.brc_model.specs.declared.duty.Reason.TheVariants.{Own, Handed}
use Rattle.brc_model.specs.declared.duty.Duty.{Duty}
use Rattle.brc_model.specs.declared.duty.Duty.TheVariants.{RetainLoad, RetainStore, RetainAdd, ReleaseLoad, ReleaseStore, DecideAtZero, SharedLoad, SharedExchange, SetMark, Look, TakeMark, MergeSwap, MergeLoad, MergeExchange, Die, Settle, SettleKind, SettleCell, TakeField, CloseResource, SettleEnd, Leave, Scan, TakeFound, Finish, ClaimMark, MarksLoad, BirthKind, BirthField, BirthLocal, KindLoad, LockGate, UnlockGate, CellLoad, CellSwap, LendField, ReturnField}
use Rattle.brc_model.specs.declared.state.Exit.TheVariants.{Success, Fault}
use Rattle.brc_model.specs.Duties.{counts_locally, has_resource}
use Rattle.brc_machine.specs.declared.sight.Event.{Event}
use Rattle.brc_machine.specs.declared.sight.Event.TheVariants as events
use Rattle.brc_trace.specs.declared.rule.Rule.{Rule}
use Rattle.brc_trace.specs.declared.rule.Rule.TheVariants.{KindOfResource, KindOfOther, FieldFilled, Born, KindRead, Locks, LockHeld, Unlocks}
use Rattle.brc_trace.specs.declared.rule.Rule.TheVariants.{CellRead, ItemStored, ResourceLent, ResourceReturned, RetainsImmortal, OwnerRetains, FullOwnerRetains, OtherRetains}
use Rattle.brc_trace.specs.declared.rule.Rule.TheVariants.{LocalRaised, SharedRaised, ReleasesImmortal, OwnerReleases, OtherReleases, LocalLowered, LocalReachesZero, NothingShared}
use Rattle.brc_trace.specs.declared.rule.Rule.TheVariants.{WasShared, SharedRead, Queues, Decrements, DecrementsToZero, ExchangeLost, Marked, OwnerRuns}
use Rattle.brc_trace.specs.declared.rule.Rule.TheVariants.{OwnerExits, MarkTakenBack, MarkGone, MarksLooked, MarkClaimed, NothingToClaim, NobodysCount, LocalTakenOut, MergeRead}
use Rattle.brc_trace.specs.declared.rule.Rule.TheVariants.{Merges, MergesToZero, MergesForHanded, MergeLost, Chained, ChainRead, DyingResource, DyingCells}
use Rattle.brc_trace.specs.declared.rule.Rule.TheVariants.{CellEmptied, FieldEmptied, ResourceClosed, Closes, SaysLeaving, MarksRead, FoundMarkTaken, FoundMarkGone, SaysGone}
use Rattle.brc_trace.specs.declared.rule.Rule.TheVariants.{Silent, HostAnswers, HostFaults}

-- ---- names

abbrev pub rule_name : Rule → List ℕ
rule_name KindOfResource = codes "KindOfResource"
rule_name KindOfOther = codes "KindOfOther"
rule_name FieldFilled = codes "FieldFilled"
rule_name Born = codes "Born"
rule_name KindRead = codes "KindRead"
rule_name Locks = codes "Locks"
rule_name LockHeld = codes "LockHeld"
rule_name Unlocks = codes "Unlocks"
rule_name CellRead = codes "CellRead"
rule_name ItemStored = codes "ItemStored"
rule_name ResourceLent = codes "ResourceLent"
rule_name ResourceReturned = codes "ResourceReturned"
rule_name RetainsImmortal = codes "RetainsImmortal"
rule_name OwnerRetains = codes "OwnerRetains"
rule_name FullOwnerRetains = codes "FullOwnerRetains"
rule_name OtherRetains = codes "OtherRetains"
rule_name LocalRaised = codes "LocalRaised"
rule_name SharedRaised = codes "SharedRaised"
rule_name ReleasesImmortal = codes "ReleasesImmortal"
rule_name OwnerReleases = codes "OwnerReleases"
rule_name OtherReleases = codes "OtherReleases"
rule_name LocalLowered = codes "LocalLowered"
rule_name LocalReachesZero = codes "LocalReachesZero"
rule_name NothingShared = codes "NothingShared"
rule_name WasShared = codes "WasShared"
rule_name SharedRead = codes "SharedRead"
rule_name Queues = codes "Queues"
rule_name Decrements = codes "Decrements"
rule_name DecrementsToZero = codes "DecrementsToZero"
rule_name ExchangeLost = codes "ExchangeLost"
rule_name Marked = codes "Marked"
rule_name OwnerRuns = codes "OwnerRuns"
rule_name OwnerExits = codes "OwnerExits"
rule_name MarkTakenBack = codes "MarkTakenBack"
rule_name MarkGone = codes "MarkGone"
rule_name MarksLooked = codes "MarksLooked"
rule_name MarkClaimed = codes "MarkClaimed"
rule_name NothingToClaim = codes "NothingToClaim"
rule_name NobodysCount = codes "NobodysCount"
rule_name LocalTakenOut = codes "LocalTakenOut"
rule_name MergeRead = codes "MergeRead"
rule_name Merges = codes "Merges"
rule_name MergesToZero = codes "MergesToZero"
rule_name MergesForHanded = codes "MergesForHanded"
rule_name MergeLost = codes "MergeLost"
rule_name Chained = codes "Chained"
rule_name ChainRead = codes "ChainRead"
rule_name DyingResource = codes "DyingResource"
rule_name DyingCells = codes "DyingCells"
rule_name CellEmptied = codes "CellEmptied"
rule_name FieldEmptied = codes "FieldEmptied"
rule_name ResourceClosed = codes "ResourceClosed"
rule_name Closes = codes "Closes"
rule_name SaysLeaving = codes "SaysLeaving"
rule_name MarksRead = codes "MarksRead"
rule_name FoundMarkTaken = codes "FoundMarkTaken"
rule_name FoundMarkGone = codes "FoundMarkGone"
rule_name SaysGone = codes "SaysGone"
rule_name Silent = codes "Silent"
rule_name HostAnswers = codes "HostAnswers"
rule_name HostFaults = codes "HostFaults"

-- ---- the rule of a duty

abbrev pub retain_rule : ℕ → Bool → ℕ → Rule
retain_rule t running found =
    if is_immortal_word found then RetainsImmortal
    else if counts_locally t running found then
    (if nat_lt (local_part found) most_local then OwnerRetains else FullOwnerRetains)
    else OtherRetains

abbrev pub release_rule : ℕ → Bool → ℕ → Rule
release_rule t running found =
    if is_immortal_word found then ReleasesImmortal
    else if counts_locally t running found then OwnerReleases
    else OtherReleases

abbrev pub shared_rule : ℕ → ℕ → ℕ → Rule
shared_rule word found left =
    if found == word then
    (if word == fresh_word then Queues else if left == dead_word then DecrementsToZero else Decrements)
    else ExchangeLost

abbrev pub merge_rule : Reason → ℕ → ℕ → ℕ → Rule
merge_rule Own word found left =
    if found == word then (if left == dead_word then MergesToZero else Merges) else MergeLost
merge_rule Handed word found left = if found == word then MergesForHanded else MergeLost

-- Returns the rule by which thread t does the duty.
abbrev pub rule_of : ℕ → Bool → Duty → ℕ → ℕ → Rule
rule_of t running (BirthKind x h w) found left = if has_resource w then KindOfResource else KindOfOther
rule_of t running (BirthField x h) found left = FieldFilled
rule_of t running (BirthLocal x h) found left = Born
rule_of t running (KindLoad x) found left = KindRead
rule_of t running (LockGate x) found left = if found == free_word then Locks else LockHeld
rule_of t running (UnlockGate x) found left = Unlocks
rule_of t running (CellLoad x i) found left = CellRead
rule_of t running (CellSwap x i y h) found left = ItemStored
rule_of t running (LendField x) found left = ResourceLent
rule_of t running (ReturnField x) found left = ResourceReturned
rule_of t running (RetainLoad x h) found left = retain_rule t running found
rule_of t running (RetainStore x h w) found left = LocalRaised
rule_of t running (RetainAdd x h) found left = SharedRaised
rule_of t running (ReleaseLoad x h) found left = release_rule t running found
rule_of t running (ReleaseStore x w) found left = if local_part w == 1 then LocalReachesZero else LocalLowered
rule_of t running (DecideAtZero x) found left = if found == fresh_word then NothingShared else WasShared
rule_of t running (SharedLoad x r) found left = SharedRead
rule_of t running (SharedExchange x r w) found left = shared_rule w found left
rule_of t running (SetMark x) found left = Marked
rule_of t running (Look x) found left = if found == RUNNING then OwnerRuns else OwnerExits
rule_of t running (TakeMark x) found left = if left == found then MarkGone else MarkTakenBack
rule_of t running (MarksLoad w) found left = MarksLooked
rule_of t running (ClaimMark x) found left = if left == found then NothingToClaim else MarkClaimed
rule_of t running (MergeSwap x r) found left = if found == NOBODY then NobodysCount else LocalTakenOut
rule_of t running (MergeLoad x c r) found left = MergeRead
rule_of t running (MergeExchange x c w r) found left = merge_rule r w found left
rule_of t running (Die x) found left = Chained
rule_of t running Settle found left = ChainRead
rule_of t running (SettleKind x) found left = if has_resource found then DyingResource else DyingCells
rule_of t running (SettleCell x i n) found left = CellEmptied
rule_of t running (TakeField x) found left = FieldEmptied
rule_of t running (CloseResource x) found left = ResourceClosed
rule_of t running (SettleEnd x) found left = Closes
rule_of t running (Leave w n) found left = SaysLeaving
rule_of t running (Scan w n) found left = MarksRead
rule_of t running (TakeFound w marks) found left = if left == found then FoundMarkGone else FoundMarkTaken
rule_of t running Finish found left = SaysGone

-- Returns the rule of a step with this event: a silent step and a host call have names of their own.
abbrev pub rule_at : ℕ → Bool → Event → Rule
rule_at t running events.Silent = Silent
rule_at t running (events.Calls Success) = HostAnswers
rule_at t running (events.Calls Fault) = HostFaults
rule_at t running (events.Does d address found left) = rule_of t running d found left
