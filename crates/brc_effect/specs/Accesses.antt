-- The one operation on a word by which a duty is done.
use Rattle.std.specs.Prelude.{ℕ, ◌+◌, ◌%◌, ◌^◌, ◌==◌, bit_and, bit_or}
use prog.Atomic.{either}
use Rattle.brc_word.specs.Words.{free_word, locked_word}
use Rattle.brc_model.specs.declared.actor.Status.TheVariants.{Running, Leaving}
use Rattle.brc_model.specs.declared.duty.Duty.{Duty}
use Rattle.brc_model.specs.declared.duty.Duty.TheVariants.{RetainStore, ReleaseStore, Die, Leave, Finish, UnlockGate}
use Rattle.brc_model.specs.Knowledge.{status_word}
use Rattle.brc_effect.specs.declared.access.Access.{Access}
use Rattle.brc_effect.specs.declared.access.Access.TheVariants.{Load, Store, Add, Swap, Exchange, Or, And}

-- the value that the operation leaves of the one that it finds
abbrev pub left_by : Access → ℕ → ℕ
left_by Load found = found
left_by (Store word before) found = word
left_by (Add more) found = (found + more) % 2 ^ 64
left_by (Swap word) found = word
left_by (Exchange old new) found = either (found == old) new found
left_by (Or bits) found = bit_or found bits
left_by (And bits) found = bit_and found bits

-- If the operation is a store, this holds of the value that it overwrites.
abbrev pub IfStored : Access → (ℕ → Type 0) → Type 0
IfStored (Store word before) P = P before
IfStored _ P = Unit {0}

-- the value that the thread's duty overwrites, if it is a store
abbrev pub known_before : ℕ → Duty → ℕ
known_before t (RetainStore x h w) = w
known_before t (ReleaseStore x w) = w
known_before t (Die x) = free_word
known_before t (Leave i n) = status_word Running
known_before t Finish = status_word Leaving
known_before t (UnlockGate x) = locked_word t
known_before t _ = 0
