-- The duties that store a word whatever they find, and the word that each of them overwrites.
use Rattle.std.specs.Prelude.{◌≡◌, ℕ, Bool, true, false}
use Rattle.brc_word.specs.declared.values.TheConstants.{NOBODY, EMPTY}
use Rattle.brc_word.specs.Words.{free_word, locked_word}
use Rattle.brc_model.specs.declared.duty.Duty.{Duty}
use Rattle.brc_model.specs.declared.duty.Duty.TheVariants.{RetainStore, ReleaseStore, Die, SettleEnd, Leave, Finish, BirthKind, BirthField, BirthLocal, UnlockGate, ReturnField}
use Rattle.brc_model.specs.declared.actor.Status.TheVariants.{Running, Leaving}
use Rattle.brc_model.specs.Knowledge.{status_word, IsDyingWord}

-- Says whether the duty stores a word whatever it finds.
abbrev pub is_store : Duty → Bool
is_store (RetainStore x h w) = true
is_store (ReleaseStore x w) = true
is_store (Die x) = true
is_store (SettleEnd x) = true
is_store (Leave x n) = true
is_store Finish = true
is_store (BirthKind x h w) = true
is_store (BirthField x h) = true
is_store (BirthLocal x h) = true
is_store (UnlockGate x) = true
is_store (ReturnField x) = true
is_store _ = false

-- The word that the thread's storing duty overwrites. Nothing is said of duties that don't store.
abbrev pub Overwrites : ℕ → Duty → ℕ → Type 0
Overwrites t (RetainStore x h w) found = found ≡ w
Overwrites t (ReleaseStore x w) found = found ≡ w
Overwrites t (Die x) found = found ≡ free_word
Overwrites t (SettleEnd x) found = IsDyingWord t found
Overwrites t (Leave x n) found = found ≡ status_word Running
Overwrites t Finish found = found ≡ status_word Leaving
Overwrites t (BirthKind x h w) found = found ≡ 0
Overwrites t (BirthField x h) found = found ≡ EMPTY
Overwrites t (BirthLocal x h) found = found ≡ NOBODY
Overwrites t (UnlockGate x) found = found ≡ locked_word t
Overwrites t (ReturnField x) found = found ≡ EMPTY
Overwrites t _ found = Unit {0}
