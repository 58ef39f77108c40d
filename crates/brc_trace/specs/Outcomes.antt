-- What a step brings about, as a reader of a trace sees it: a reference of the thread, a state or a lock, a life.
use Rattle.std.specs.Prelude.{ℕ, ◌==◌, if◌then◌else◌, List, [], ◌++◌, Option, None, Some, codes}
use Rattle.brc_word.specs.declared.values.TheConstants.{QUEUED, MERGED}
use Rattle.brc_report.specs.declared.paint.Paint.{Paint}
use Rattle.brc_report.specs.declared.paint.Role.TheVariants.{Life}
use Rattle.brc_report.specs.Paint.{mark_text, reset_text}
use Rattle.brc_word.specs.Words.{is_immortal_word, phase_part, fresh_word, dead_word, free_word}
use Rattle.brc_model.specs.declared.address.Address.{Address}
use Rattle.brc_model.specs.declared.address.Address.TheVariants.{Shared}
use Rattle.brc_model.specs.declared.duty.Reason.TheVariants.{Own}
use Rattle.brc_model.specs.declared.duty.Duty.{Duty}
use Rattle.brc_model.specs.declared.duty.Duty.TheVariants.{RetainLoad, RetainStore, RetainAdd, ReleaseLoad, ReleaseStore, DecideAtZero, SharedExchange, MergeExchange, CloseResource, SettleEnd, BirthLocal, LockGate, UnlockGate}
use Rattle.brc_model.specs.declared.state.Exit.{Exit}
use Rattle.brc_model.specs.declared.state.Exit.TheVariants as exits
use Rattle.brc_trace.specs.declared.outcome.Fate.{Fate}
use Rattle.brc_trace.specs.declared.outcome.Fate.TheVariants.{Gained, GivenUp, Queued, Merged, Locked, Unlocked, Born, Dies, CloseFaults, Closed}
use Rattle.brc_trace.specs.declared.outcome.Outcome.{Outcome}
use Rattle.brc_trace.specs.WordTexts.{row_text}

-- ---- what happens to the row

abbrev pub happens : ℕ → Fate → Option Outcome
happens row fate = Some (record { row = row; fate = fate })

-- the thread gains a reference or gives one up
abbrev pub reference_outcome : Duty → ℕ → Option Outcome
reference_outcome (RetainLoad x h) found = if is_immortal_word found then happens x Gained else None
reference_outcome (RetainStore x h w) found = happens x Gained
reference_outcome (RetainAdd x h) found = happens x Gained
reference_outcome (ReleaseLoad x h) found = if is_immortal_word found then happens x GivenUp else None
reference_outcome (ReleaseStore x w) found = happens x GivenUp
reference_outcome (SharedExchange x Own w) found = if found == w then happens x GivenUp else None
reference_outcome _ found = None

-- a list is locked or unlocked
abbrev pub lock_outcome : Duty → ℕ → Option Outcome
lock_outcome (LockGate x) found = if found == free_word then happens x Locked else None
lock_outcome (UnlockGate x) found = happens x Unlocked
lock_outcome _ found = None

-- the shared word has another state than before: queued or merged
abbrev pub phase_outcome : Address → ℕ → ℕ → Option Outcome
phase_outcome (Shared x) found left =
    if phase_part left == phase_part found then None
    else if phase_part left == QUEUED then happens x Queued
    else if phase_part left == MERGED then happens x Merged
    else None
phase_outcome _ found left = None

-- the object is born, dies (no reference to it is left) or is closed; `exit` is that of a close of a resource
abbrev pub life_outcome : Exit → Duty → ℕ → ℕ → Option Outcome
life_outcome exit (BirthLocal x h) found left = happens x Born
life_outcome exit (DecideAtZero x) found left = if found == fresh_word then happens x Dies else None
life_outcome exit (SharedExchange x r w) found left =
    if found == w then (if left == dead_word then happens x Dies else None) else None
life_outcome exit (MergeExchange x c w Own) found left =
    if found == w then (if left == dead_word then happens x Dies else None) else None
life_outcome exits.Fault (CloseResource x) found left = happens x CloseFaults
life_outcome exit (SettleEnd x) found left = happens x Closed
life_outcome exit _ found left = None

-- ---- texts

abbrev pub fate_text : Fate → List ℕ
fate_text Gained = codes " gained"
fate_text GivenUp = codes " given up"
fate_text Queued = codes " queued"
fate_text Merged = codes " merged"
fate_text Locked = codes " locked"
fate_text Unlocked = codes " unlocked"
fate_text Born = codes " born"
fate_text Dies = codes " dies"
fate_text CloseFaults = codes " close faults"
fate_text Closed = codes " closed"

-- the outcome behind what separates it from the text before it
abbrev pub outcome_text : Paint → List ℕ → Option Outcome → List ℕ
outcome_text paint before None = []
outcome_text paint before (Some o) =
    before ++ mark_text paint Life ++ row_text o.row ++ fate_text o.fate ++ reset_text paint

-- what separates the next outcome from the text before it
abbrev pub before_next : List ℕ → Option Outcome → List ℕ
before_next before None = before
before_next before (Some o) = codes ", "
