-- The header of a counted object: its owner and the local count in one word, the shared count and the phase in another.
use Rattle.std.specs.Prelude.{◌≡◌, ℕ, ◌+◌, ◌-◌, ◌*◌, ◌^◌, ◌<◌, ◌≤◌, ◌⊎◌, Bool, true, false, IsTrue, Option, None, Some}
use Rattle.std.specs.Prelude.{ℤ, pos, neg_ℤ, ◌+ℤ◌, ◌-ℤ◌, ◌*ℤ◌, ◌≤ℤ◌, ◌<ℤ◌}
use Rattle.brc_word.specs.declared.values.TheConstants.{NOBODY, ONE_REFERENCE, DEFAULT, QUEUED, MERGED}
use Rattle.brc_word.specs.declared.choice.LocalChoice.{LocalChoice}
use Rattle.brc_word.specs.declared.choice.LocalChoice.TheVariants.{Store}
use Rattle.brc_word.specs.declared.shared.Phase.{Phase}
use Rattle.brc_word.specs.declared.shared.Phase.TheVariants.{Default, Queued, Merged}
use Rattle.brc_word.specs.declared.shared.Shared.{Shared}
use Rattle.brc_word.specs.declared.shared.SharedChoice.{SharedChoice}
use Rattle.brc_word.specs.declared.shared.SharedChoice.TheVariants.{Subtract, Queue}

-- ---- the local word

-- an owner and a local count that a header may have: nobody counts nothing, and threads are 0 to 32
abbrev pub IsLocal : Option ℕ → ℕ → Type 0
IsLocal None local = local ≡ 0
IsLocal (Some thread) local = (thread ≤ 32) × (local < 2 ^ 32)

-- the number of a thread, plus 1, is above the local count
abbrev pub word_of : Option ℕ → ℕ → ℕ
word_of None local = NOBODY
word_of (Some thread) local = (thread + 1) * 2 ^ 32 + local

abbrev pub IsLocalWord : ℕ → Option ℕ → ℕ → Type 0
IsLocalWord word owner local = IsLocal owner local × (word ≡ word_of owner local)

-- 0, or the word of a thread from 0 to 32
abbrev pub IsHeaderWord : ℕ → Type 0
IsHeaderWord word = (word ≡ 0) ⊎ ((2 ^ 32 ≤ word) × (word < 34 * 2 ^ 32))

-- a fact about the owner and the local count of a word
abbrev pub OfHeader : ℕ → (Option ℕ → ℕ → Type 0) → Type 0
OfHeader word P = (owner : Option ℕ) (local : ℕ) → IsLocalWord word owner local → P owner local

-- an owner with the local count
abbrev pub owned : Option ℕ → ℕ → Option (ℕ × ℕ)
owned None local = None
owned (Some thread) local = Some (thread, local)

-- an immortal object
abbrev pub IsImmortal : ℕ → Type 0
IsImmortal local = local ≡ 2 ^ 32 - 1

-- the word of an object that isn't immortal
abbrev pub IsMortalWord : ℕ → Type 0
IsMortalWord word = OfHeader word (λ owner local. ¬ IsImmortal local)

-- ---- the shared field

-- the two lowest bits; 1 is unused
abbrev pub state_of : Phase → ℕ
state_of Default = DEFAULT
state_of Queued = QUEUED
state_of Merged = MERGED

-- the counts that the shared field can hold
abbrev pub IsCount : ℤ → Type 0
IsCount count = (neg_ℤ (pos (2 ^ 40)) ≤ℤ count) × (count <ℤ pos (2 ^ 40))

-- the count, raised so that it isn't negative, is above the state
abbrev pub IsSharedWord : ℕ → Shared → Type 0
IsSharedWord word shared = pos word ≡ (shared.count +ℤ pos (2 ^ 40)) *ℤ pos ONE_REFERENCE +ℤ pos (state_of shared.phase)

-- ---- both

-- the number of references that a header counts
abbrev pub total : ℕ → ℤ → ℤ
total local count = pos local +ℤ count

-- the second word is the first with the total moved by a step, at the same owner and whatever the shared count is
abbrev pub MovesTotal : ℕ → ℕ → ℤ → Type 0
MovesTotal word next step = OfHeader word (λ owner local. OfHeader next (λ owner' local'.
    (owner' ≡ owner) × ((count : ℤ) → total local' count ≡ total local count +ℤ step)))

-- ---- changes of a count

-- the thread is the owner and runs, so that it may change the local count
abbrev pub MayCount : Option ℕ → ℕ → Bool → Type 0
MayCount owner thread running = (owner ≡ Some thread) × IsTrue running

-- the owner counts up to 2 ^ 32 - 2 and then in the shared field, so that nothing becomes immortal by counting
abbrev pub HasRoom : ℕ → Type 0
HasRoom local = local < 2 ^ 32 - 2

abbrev pub is_store : LocalChoice → Bool
is_store (Store next) = true
is_store _ = false

-- a fact about the word that is stored, if one is
abbrev pub IfStored : LocalChoice → (ℕ → Type 0) → Type 0
IfStored (Store next) P = P next
IfStored _ P = Unit {0}

-- the shared count is 0, and nobody has queued the object
abbrev pub at_zero : Shared
at_zero = record { count = pos 0; phase = Default }

-- no reference is left, and nobody owns the object
abbrev pub at_end : Shared
at_end = record { count = pos 0; phase = Merged }

-- the shared field after a choice
abbrev pub after_choice : SharedChoice → Shared → Shared
after_choice Subtract shared = record { count = shared.count -ℤ pos 1; phase = shared.phase }
after_choice Queue shared = record { count = shared.count; phase = Queued }
