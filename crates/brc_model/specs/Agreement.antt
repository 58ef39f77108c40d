-- What a row's counts add up to, and what each state of it implies. (PEP 703, Biased Reference Counting: an object has
-- as many references as its local and its shared count say together; it is freed only in the states default and
-- merged.)
use Rattle.std.specs.Prelude.{◌≡◌, ◌⊎◌, ℕ, ◌+◌, ◌<◌, ◌≤◌, Bool, true, false, ◌||◌, ◌==◌, if◌then◌else◌, Some, slice_get, sum_by}
use Rattle.brc_word.specs.declared.values.TheConstants.{NOBODY, DEFAULT, QUEUED, MERGED}
use Rattle.std.specs.List.{list_any}
use Rattle.brc_model.specs.AbstractState.{references_to}
use Rattle.brc_word.specs.Words.{owner_part, local_part, biased_part, phase_part, bias}
use Rattle.brc_model.specs.declared.duty.Reason.TheVariants.{Handed}
use Rattle.brc_model.specs.declared.duty.Duty.{Duty}
use Rattle.brc_model.specs.declared.duty.Duty.TheVariants.{DecideAtZero, SharedLoad, SharedExchange, SetMark, MergeSwap, MergeLoad, MergeExchange}
use Rattle.brc_model.specs.declared.address.Address.TheVariants.{Local, Shared}
use Rattle.brc_model.specs.declared.actor.Actor.{Actor}
use Rattle.brc_model.specs.Machine.{Live, Machine, mark_of}
use Rattle.brc_model.specs.Layout.{block_of}

-- ---- weights of a duty at a row

abbrev pub at_row : ℕ → ℕ → ℕ
at_row x y = if y == x then 1 else 0

-- a pending decrement: a mark that the thread is about to set, or a claimed mark whose reference the thread hasn't
-- given up yet, before the merge or after it
abbrev pub awaits : ℕ → Duty → ℕ
awaits x (SetMark y) = at_row x y
awaits x (SharedLoad y Handed) = at_row x y
awaits x (SharedExchange y Handed w) = at_row x y
awaits x (MergeSwap y Handed) = at_row x y
awaits x (MergeLoad y c Handed) = at_row x y
awaits x (MergeExchange y c w Handed) = at_row x y
awaits x _ = 0

-- a local count that a merge has swapped out and not yet added to the shared word
abbrev pub carries : ℕ → Duty → ℕ
carries x (MergeLoad y c r) = if y == x then c else 0
carries x (MergeExchange y c w r) = if y == x then c else 0
carries x _ = 0

-- the sum of a weight over the duties of all threads
abbrev pub weighed : (Duty → ℕ) → Machine → ℕ
weighed f m = sum_by (λ (a : Actor). sum_by f a.agenda + sum_by f a.aside) m.actors

-- ---- duties about a row

-- a duty to decide what becomes of the row, because its local count is zero
abbrev pub is_deciding : ℕ → Duty → Bool
is_deciding x (DecideAtZero y) = y == x
is_deciding x _ = false

-- a duty to add the local count to the shared word, once a merge has swapped it out
abbrev pub has_swapped : ℕ → Duty → Bool
has_swapped x (MergeLoad y c r) = y == x
has_swapped x (MergeExchange y c w r) = y == x
has_swapped x _ = false

-- a duty to swap the local count out, or to add it to the shared word
abbrev pub is_merging : ℕ → Duty → Bool
is_merging x (MergeSwap y r) = y == x
is_merging x d = has_swapped x d

abbrev pub decides_or_merges : ℕ → Duty → Bool
decides_or_merges x d = is_deciding x d || is_merging x d

-- the thread has such a duty, in its agenda or put aside
pub record HasDuty (m : Machine) (t : ℕ) (is_such : Duty → Bool) : Type 0 where
  pub actor : Actor
  pub found : slice_get m.actors t ≡ Some actor
  pub listed : (list_any is_such actor.agenda || list_any is_such actor.aside) ≡ true

abbrev pub SomeThreadHas : Machine → (Duty → Bool) → Type 0
SomeThreadHas m is_such = (t : ℕ) × HasDuty m t is_such

-- the thread that the row's local word names as its owner has such a duty
abbrev pub OwnerHas : Machine → ℕ → (Duty → Bool) → Type 0
OwnerHas m x is_such = (t : ℕ) × (owner_part (m.memory (Local x)) ≡ t + 1) × HasDuty m t is_such

-- the thread of the row's block owns the row, and its local count is at least 1
pub record IsCountedLocally (m : Machine) (x : ℕ) : Type 0 where
  pub owner : owner_part (m.memory (Local x)) ≡ block_of m.layout x + 1
  pub counted : 1 ≤ local_part (m.memory (Local x))

-- ---- agreement

-- the state is default, queued or merged
abbrev pub IsPhase : ℕ → Type 0
IsPhase phase = (phase ≡ DEFAULT) ⊎ (phase ≡ QUEUED) ⊎ (phase ≡ MERGED)

-- the row's local, shared and carried counts together, with the bias of its shared word
abbrev pub biased_total : Machine → ℕ → ℕ
biased_total m x = local_part (m.memory (Local x)) + biased_part (m.memory (Shared x)) + weighed (carries x) m

-- the number of the row's pending decrements: a set mark is one, and the threads' duties have the others
abbrev pub awaiting : Machine → ℕ → ℕ
awaiting m x = mark_of m.layout m.memory x + weighed (awaits x) m

-- the row's state, by its shared word
abbrev pub phase_of : Machine → ℕ → ℕ
phase_of m x = phase_part (m.memory (Shared x))

-- Default: no decrement is pending, and the shared count isn't negative. The owner counts the row locally, unless a
-- thread has found its last local reference gone, or merges it.
pub record DefaultAgrees (m : Machine) (x : ℕ) : Type 0 where
  pub awaiting_none : awaiting m x ≡ 0
  pub counts : bias ≤ biased_part (m.memory (Shared x))
  pub local : IsCountedLocally m x ⊎ SomeThreadHas m (decides_or_merges x)

-- Queued: one decrement is pending. The owner counts the row locally, unless the owner decides about it or merges it,
-- or a thread has swapped the local count out.
pub record QueuedAgrees (m : Machine) (x : ℕ) : Type 0 where
  pub awaiting_one : awaiting m x ≡ 1
  pub local : IsCountedLocally m x ⊎ OwnerHas m x (decides_or_merges x) ⊎ SomeThreadHas m (has_swapped x)

-- Merged: nobody owns the row, its local count is 0, and its shared count is above 0.
pub record MergedAgrees (m : Machine) (x : ℕ) : Type 0 where
  pub unowned : m.memory (Local x) ≡ NOBODY
  pub counts : bias < biased_part (m.memory (Shared x))

pub record AgreesAt (m : Machine) (x : ℕ) : Type 0 where
  -- the counts add up to the references that are held and the pending decrements
  pub total : biased_total m x ≡ references_to x m.abstract.references + awaiting m x + bias
  -- a live row is in one of the three states, and agrees as the state says
  pub phase : m.life x ≡ Live → IsPhase (phase_of m x)
  pub in_default : m.life x ≡ Live → phase_of m x ≡ DEFAULT → DefaultAgrees m x
  pub in_queued : m.life x ≡ Live → phase_of m x ≡ QUEUED → QueuedAgrees m x
  pub in_merged : m.life x ≡ Live → phase_of m x ≡ MERGED → MergedAgrees m x

-- the row has no reference and no pending decrement, as each dying or closed row
pub record IsFreeOf (m : Machine) (x : ℕ) : Type 0 where
  pub references : references_to x m.abstract.references ≡ 0
  pub awaiting_none : awaiting m x ≡ 0
