-- The words of a header. (PEP 703, Biased Reference Counting: an owning thread, a local count that only the owner
-- changes, and a shared field of a count and a state in its two lowest bits.)
use Rattle.std.specs.Prelude.{ℕ, ◌+◌, ◌-◌, ◌*◌, ◌/◌, ◌%◌, ◌^◌, Bool, ◌==◌, if◌then◌else◌, bit_and, bit_or, bit_xor, min}
use Rattle.std.specs.Int.{w64, trailing_zeros}
use Rattle.brc_word.specs.declared.values.TheConstants.{ONE_REFERENCE, QUEUED, MERGED, FREE}

-- the number of values of half a word
abbrev pub half : ℕ
half = 2 ^ 32

-- the local count of an immortal object, which is the greatest
abbrev pub immortal_local : ℕ
immortal_local = 2 ^ 32 - 1

-- below this the owner counts locally, so that no object becomes immortal by counting
abbrev pub most_local : ℕ
most_local = 2 ^ 32 - 2

-- 0 if nobody owns the object, and otherwise 1 more than the owner's number
abbrev pub owner_part : ℕ → ℕ
owner_part word = word / half

abbrev pub local_part : ℕ → ℕ
local_part word = word % half

abbrev pub local_word : ℕ → ℕ → ℕ
local_word owner local = (owner + 1) * half + local

-- an immortal object has the greatest local count, which no thread changes
abbrev pub is_immortal_word : ℕ → Bool
is_immortal_word word = local_part word == immortal_local

-- the shared count plus 2^40, so that it isn't negative
abbrev pub biased_part : ℕ → ℕ
biased_part word = word / ONE_REFERENCE

-- the state: default, queued or merged
abbrev pub phase_part : ℕ → ℕ
phase_part word = word % ONE_REFERENCE

-- the biased count of the shared count 0
abbrev pub bias : ℕ
bias = 2 ^ 40

-- count 0, default
abbrev pub fresh_word : ℕ
fresh_word = bias * ONE_REFERENCE

-- count 0, merged: no reference is left
abbrev pub dead_word : ℕ
dead_word = bias * ONE_REFERENCE + MERGED

-- a release by a thread that isn't the running owner: (0, default) is queued, and otherwise one is subtracted
abbrev pub released_word : ℕ → ℕ
released_word word = if word == fresh_word then word + QUEUED else word - ONE_REFERENCE

-- the carried local count is added, and the state is merged
abbrev pub merged_word : ℕ → ℕ → ℕ
merged_word word carried = (biased_part word + carried) * ONE_REFERENCE + MERGED

-- ---- marks: a mark word has those of 64 rows, each in a bit of its own

-- the number of marks of a mark word
abbrev pub marks_of_word : ℕ
marks_of_word = 64

-- the mark in the bit: 1 if it is set, else 0
abbrev pub mark_at : ℕ → ℕ → ℕ
mark_at word bit = word / 2 ^ bit % 2

-- the mask of one bit
abbrev pub mark_mask : ℕ → ℕ
mark_mask bit = 2 ^ bit

-- the mask of all other bits
abbrev pub other_marks : ℕ → ℕ
other_marks bit = 2 ^ 64 - 1 - 2 ^ bit

-- the mark is set: the other ones stay
abbrev pub marked_word : ℕ → ℕ → ℕ
marked_word word bit = bit_or word (mark_mask bit)

-- the mark is taken: the other ones stay
abbrev pub unmarked_word : ℕ → ℕ → ℕ
unmarked_word word bit = bit_xor word (bit_and word (mark_mask bit))

-- the lowest bit whose mark is set
abbrev pub lowest_mark : ℕ → ℕ
lowest_mark word = trailing_zeros w64 word

-- the marks of the first n rows of the word
abbrev pub first_marks : ℕ → ℕ → ℕ
first_marks word n = word % 2 ^ min n marks_of_word

-- ---- gates, kinds and thread words

-- the gate of an object that is neither locked nor dying nor closed
abbrev pub free_word : ℕ
free_word = FREE

-- the gate of a list that the thread has locked
abbrev pub locked_word : ℕ → ℕ
locked_word thread = thread + 2

abbrev pub dying_word : ℕ → ℕ → ℕ
dying_word thread next = (thread + 1) * half + next

-- the next object of the chain: 1 more than its row, or 0 at the end
abbrev pub next_part : ℕ → ℕ
next_part word = word % half

abbrev pub closed_word : ℕ
closed_word = 2 ^ 63

abbrev pub kind_part : ℕ → ℕ
kind_part word = word / half

abbrev pub argument_part : ℕ → ℕ
argument_part word = word % half
