-- Each word is that of one header, and each header has a word.
use Rattle.std.proofs.Common.{◌≡◌, ◌≢◌, ℕ, zero, suc, ◌+◌, ◌-◌, ◌*◌, ◌/◌, ◌%◌, ◌^◌, ◌<◌, inl, inr, Option, None, Some}
use Rattle.std.proofs.Common.{refl, arith, ap, ◌∙◌, lit<}
use Rattle.std.specs.Prelude.{ℤ, pos, negsuc, ◌+ℤ◌, ◌-ℤ◌, ◌*ℤ◌}
use Rattle.std.proofs.lemmas.Int.{ints}
use Rattle.brc_word.specs.declared.shared.Phase.{Phase}
use Rattle.brc_word.specs.declared.shared.Phase.TheVariants.{Default, Queued, Merged}
use Rattle.brc_word.specs.declared.shared.Shared.{Shared}
use Rattle.brc_word.specs.Header.{IsLocalWord, IsHeaderWord, IsCount, IsSharedWord, state_of}

-- ---- the local word

pub spelled : (word : ℕ) → IsHeaderWord word → (owner : Option ℕ) × (local : ℕ) × IsLocalWord word owner local
spelled word (inl nobody) = (None, 0, (refl, nobody))
spelled word (inr thread) = (
  Some (word / 2 ^ 32 - 1),
  word % 2 ^ 32,
  ((omega (arith, thread.0, thread.1), omega arith), omega (arith, thread.0)),
)

-- ---- the shared field

raised_count : (count : ℤ) → IsCount count → (raised : ℕ) × (pos raised ≡ count +ℤ pos (2 ^ 40))
raised_count (pos n) fits = (n + 2 ^ 40, omega (arith, ints))
raised_count (negsuc n) fits = (2 ^ 40 - suc n, omega (arith, ints, fits.0))

pub packed : (shared : Shared) → IsCount shared.count → (word : ℕ) × IsSharedWord word shared
packed shared fits =
    let raised = raised_count shared.count fits in
    (raised.0 * 4 + state_of shared.phase, omega (arith, ints, raised.1))

phase_at : (state : ℕ) → state < 4 → state ≢ 1 → (phase : Phase) × (state_of phase ≡ state)
phase_at zero below used = (Default, refl)
phase_at (suc zero) below used = absurd (used refl)
phase_at (suc (suc zero)) below used = (Queued, refl)
phase_at (suc (suc (suc zero))) below used = (Merged, refl)
phase_at (suc (suc (suc (suc state)))) below used = absurd (omega (arith, below))

pub unpacked : (word : ℕ) → word < 2 ^ 43 → word % 4 ≢ 1
    → (shared : Shared) × IsCount shared.count × IsSharedWord word shared
unpacked word below used =
    let phase = phase_at (word % 4) (omega arith) used in (
      record { count = pos (word / 4) -ℤ pos (2 ^ 40); phase = phase.0 },
      (omega (arith, ints), omega (arith, ints)),
      omega (arith, ints, phase.1),
    )

state_below : (phase : Phase) → state_of phase < 4
state_below Default = lit< tt
state_below Queued = lit< tt
state_below Merged = lit< tt

phase_from_state : (phase other : Phase) → state_of phase ≡ state_of other → phase ≡ other
phase_from_state Default Default e = refl
phase_from_state Default Queued e = absurd cc
phase_from_state Default Merged e = absurd cc
phase_from_state Queued Default e = absurd cc
phase_from_state Queued Queued e = refl
phase_from_state Queued Merged e = absurd cc
phase_from_state Merged Default e = absurd cc
phase_from_state Merged Queued e = absurd cc
phase_from_state Merged Merged e = refl

parts : (count other : ℤ) (state state' word : ℕ) → state < 4 → state' < 4
    → pos word ≡ (count +ℤ pos (2 ^ 40)) *ℤ pos 4 +ℤ pos state
    → pos word ≡ (other +ℤ pos (2 ^ 40)) *ℤ pos 4 +ℤ pos state'
    → (count ≡ other) × (state ≡ state')
parts count other state state' word below below' e e' = (omega (arith, ints), omega (arith, ints))

pub one_shared : (word : ℕ) (shared other : Shared) → IsSharedWord word shared → IsSharedWord word other
    → shared ≡ other
one_shared word shared other e e' =
    let same = parts shared.count other.count (state_of shared.phase) (state_of other.phase) word
    (state_below shared.phase) (state_below other.phase) e e' in
    let same_phase = phase_from_state shared.phase other.phase same.1 in
    ap (λ (count : ℤ). record { count = count; phase = shared.phase }) same.0
    ∙ ap (λ (phase : Phase). record { count = other.count; phase = phase }) same_phase
