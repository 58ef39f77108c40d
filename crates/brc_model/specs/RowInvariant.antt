-- The invariant of one row, whichever thread steps next. It relates the row's words, the references to it, and the
-- weights of the duties about it.
use Rattle.std.specs.Prelude.{◌≡◌, ℕ, ◌+◌, ◌<◌, ◌≤◌, ◌==◌, if◌then◌else◌, List, sum_by}
use Rattle.brc_word.specs.declared.values.TheConstants.{NOBODY, DEFAULT, QUEUED, MERGED}
use Rattle.brc_word.specs.Words.{half, immortal_local, owner_part, local_part, biased_part, phase_part, bias, fresh_word}
use Rattle.brc_model.specs.declared.duty.Reason.TheVariants.{Own, Handed}
use Rattle.brc_model.specs.declared.duty.Duty.{Duty}
use Rattle.brc_model.specs.declared.duty.Duty.TheVariants.{DecideAtZero, SharedLoad, SharedExchange, SetMark, MergeSwap, MergeLoad, MergeExchange}
use Rattle.brc_model.specs.declared.actor.Actor.{Actor}
use Rattle.brc_model.specs.Machine.{Life, Unborn, Live, Dying, Closed}
use Rattle.brc_model.specs.References.{one_if}

-- ---- weights of a duty at a row

-- a pending decrement: a mark that the thread is about to set, or a claimed mark whose reference the thread hasn't
-- given up yet, before the merge or after it
abbrev pub waits : ℕ → Duty → ℕ
waits x (SetMark y) = one_if (y == x)
waits x (SharedLoad y Handed) = one_if (y == x)
waits x (SharedExchange y Handed w) = one_if (y == x)
waits x (MergeSwap y Handed) = one_if (y == x)
waits x (MergeLoad y c Handed) = one_if (y == x)
waits x (MergeExchange y c w Handed) = one_if (y == x)
waits x _ = 0

-- a local count that a merge has swapped out and not yet added to the shared word
abbrev pub carries : ℕ → Duty → ℕ
carries x (MergeLoad y c r) = if y == x then c else 0
carries x (MergeExchange y c w r) = if y == x then c else 0
carries x _ = 0

-- a merge that has swapped the local count out
abbrev pub merges : ℕ → Duty → ℕ
merges x (MergeLoad y c r) = one_if (y == x)
merges x (MergeExchange y c w r) = one_if (y == x)
merges x _ = 0

-- a duty of an owner that has found its last local reference gone
abbrev pub decides : ℕ → Duty → ℕ
decides x (DecideAtZero y) = one_if (y == x)
decides x (MergeSwap y Own) = one_if (y == x)
decides x _ = 0

-- the sum of a weight over all duties of a thread
abbrev pub agenda_weight : (Duty → ℕ) → Actor → ℕ
agenda_weight f a = sum_by f a.agenda + sum_by f a.aside

-- the sum of a weight over all duties of all threads
abbrev pub weight : (Duty → ℕ) → List Actor → ℕ
weight f actors = sum_by (agenda_weight f) actors

-- ---- the numbers of a row

-- the row's three words, the number of references to it, and the weights of the duties about it
pub record Numbers : Type 0 where
  pub local : ℕ
  pub shared : ℕ
  pub mark : ℕ
  pub references : ℕ
  pub waiting : ℕ
  pub carried : ℕ
  pub merging : ℕ
  pub deciding : ℕ

-- ---- the invariant

-- default: no decrement is pending, and the shared count isn't below 0; queued: one decrement is pending
pub data Phased (n : Numbers) : Type 0 where
  IsDefault : phase_part n.shared ≡ DEFAULT → n.mark + n.waiting ≡ 0 → bias ≤ biased_part n.shared → Phased n
  IsQueued : phase_part n.shared ≡ QUEUED → n.mark + n.waiting ≡ 1 → Phased n

-- the owner decides about the row exactly if the local count is 0
pub data Decided (n : Numbers) : Type 0 where
  AtZero : local_part n.local ≡ 0 → n.deciding ≡ 1 → Decided n
  AboveZero : 1 ≤ local_part n.local → n.deciding ≡ 0 → Decided n

-- the owner's row, before a merge swaps the local count out
pub record IsOwned (owner : ℕ) (n : Numbers) : Type 0 where
  pub owned : owner_part n.local ≡ owner + 1
  pub low : local_part n.local < immortal_local
  pub merging : n.merging ≡ 0
  pub carried : n.carried ≡ 0
  pub decided : Decided n
  pub phased : Phased n

-- one thread has swapped the row's local count out, and not yet added it to the shared word
pub record IsSwapped (n : Numbers) : Type 0 where
  pub local : n.local ≡ NOBODY
  pub merging : n.merging ≡ 1
  pub carried : n.carried < half
  pub deciding : n.deciding ≡ 0
  pub phased : Phased n

-- nobody owns the row, and the shared word has its count
pub record IsMerged (n : Numbers) : Type 0 where
  pub local : n.local ≡ NOBODY
  pub merging : n.merging ≡ 0
  pub carried : n.carried ≡ 0
  pub deciding : n.deciding ≡ 0
  pub phase : phase_part n.shared ≡ MERGED
  pub counted : bias + 1 ≤ biased_part n.shared
  pub awaits : n.mark + n.waiting ≤ 1

pub data Mode (owner : ℕ) (n : Numbers) : Type 0 where
  InOwned : IsOwned owner n → Mode owner n
  InSwapped : IsSwapped n → Mode owner n
  InMerged : IsMerged n → Mode owner n

-- the row's counts add up to its references and its pending decrements
pub record IsLive (owner : ℕ) (n : Numbers) : Type 0 where
  pub sum : local_part n.local + biased_part n.shared + n.carried ≡ n.references + n.mark + n.waiting + bias
  pub mode : Mode owner n

-- a dying or closed row: its counts are zero, and no duty is about them
pub record IsDead (n : Numbers) : Type 0 where
  pub local : local_part n.local ≡ 0
  pub shared : biased_part n.shared ≡ bias
  pub mark : n.mark ≡ 0
  pub references : n.references ≡ 0
  pub waiting : n.waiting ≡ 0
  pub carried : n.carried ≡ 0
  pub merging : n.merging ≡ 0
  pub deciding : n.deciding ≡ 0

-- a row in which no object is born yet: its words are those of the first machine
pub record IsUnborn (n : Numbers) : Type 0 where
  pub local : n.local ≡ NOBODY
  pub shared : n.shared ≡ fresh_word
  pub mark : n.mark ≡ 0
  pub references : n.references ≡ 0
  pub waiting : n.waiting ≡ 0
  pub carried : n.carried ≡ 0
  pub merging : n.merging ≡ 0
  pub deciding : n.deciding ≡ 0

abbrev pub RowInvariant : ℕ → Life → Numbers → Type 0
RowInvariant owner Unborn n = IsUnborn n
RowInvariant owner Live n = IsLive owner n
RowInvariant owner (Dying t) n = IsDead n
RowInvariant owner Closed n = IsDead n
