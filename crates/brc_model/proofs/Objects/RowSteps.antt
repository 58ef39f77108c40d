-- Each step that changes a row's counts keeps the row's invariant.
use Rattle.std.proofs.Common.{◌≡◌, ◌≢◌, ℕ, ◌+◌, ◌-◌, ◌<◌, ◌≤◌, Bool, true, false, cond, ap, ◌∙◌, arith}
use Rattle.std.specs.Prelude.{◌==◌}
use Rattle.brc_word.specs.declared.values.TheConstants.{ONE_REFERENCE, QUEUED, MERGED}
use Rattle.brc_word.specs.Words.{most_local, owner_part, local_part, biased_part, phase_part, bias, fresh_word, dead_word, released_word, merged_word}
use Rattle.brc_model.specs.RowInvariant.{Numbers, IsDefault, IsQueued, AtZero, AboveZero, InOwned, InSwapped, InMerged, IsLive, IsDead, IsOwned, IsMerged, Phased, Mode}

-- ---- words

pub owner_up : (w : ℕ) → local_part w < most_local
    → (owner_part (w + 1) ≡ owner_part w) × (local_part (w + 1) ≡ local_part w + 1)
owner_up w low = (omega arith, omega arith)

pub owner_down : (w : ℕ) → 1 ≤ local_part w
    → (owner_part (w - 1) ≡ owner_part w) × (local_part (w - 1) + 1 ≡ local_part w)
owner_down w some = (omega arith, omega arith)

pub shared_up : (w : ℕ)
    → (biased_part (w + ONE_REFERENCE) ≡ biased_part w + 1) × (phase_part (w + ONE_REFERENCE) ≡ phase_part w)
shared_up w = (omega arith, omega arith)

pub shared_down : (w : ℕ) → 1 ≤ biased_part w
    → (biased_part (w - ONE_REFERENCE) + 1 ≡ biased_part w) × (phase_part (w - ONE_REFERENCE) ≡ phase_part w)
shared_down w some = (omega arith, omega arith)

-- A release queues (0, default), and takes one reference from any other word.
pub released_queued : (w : ℕ) → (w == fresh_word) ≡ true → released_word w ≡ w + QUEUED
released_queued w fresh = ap (λ (b : Bool). cond b (w + QUEUED) (w - ONE_REFERENCE)) fresh

pub released_less : (w : ℕ) → (w == fresh_word) ≡ false → released_word w ≡ w - ONE_REFERENCE
released_less w other = ap (λ (b : Bool). cond b (w + QUEUED) (w - ONE_REFERENCE)) other

pub shared_merged : (w c : ℕ)
    → (biased_part (merged_word w c) ≡ biased_part w + c) × (phase_part (merged_word w c) ≡ MERGED)
shared_merged w c = (omega arith, omega arith)

-- ---- modes

-- A row with a local count is in its owner's hands.
owned_only : (owner : ℕ) (n : Numbers) → IsLive owner n → 1 ≤ local_part n.local → IsOwned owner n
owned_only owner n live some = elim live.mode [
  | InOwned m ↦ m
  | InSwapped m ↦ absurd (omega (arith, m.local, some))
  | InMerged m ↦ absurd (omega (arith, m.local, some))
]

not_merged : (n : Numbers) → Phased n → phase_part n.shared ≡ MERGED → ⊥
not_merged n (IsDefault p w b) phase = absurd (omega (arith, p, phase))
not_merged n (IsQueued p w) phase = absurd (omega (arith, p, phase))

-- The shared word says that the row is merged.
pub merged_only : (owner : ℕ) (n : Numbers) → IsLive owner n → phase_part n.shared ≡ MERGED → IsMerged n
merged_only owner n live phase = elim live.mode [
  | InOwned m ↦ absurd (not_merged n m.phased phase)
  | InSwapped m ↦ absurd (not_merged n m.phased phase)
  | InMerged m ↦ m
]

-- A step that leaves the local word leaves the mode too, if the new shared word and the pending decrements fit it.
pub mode_kept : (owner : ℕ) (n : Numbers) (shared mark references waiting : ℕ)
    → (Phased n → Phased (record n { shared = shared; mark = mark; references = references; waiting = waiting }))
    → (IsMerged n → (phase_part shared ≡ MERGED) × (bias + 1 ≤ biased_part shared) × (mark + waiting ≤ 1))
    → Mode owner n
    → Mode owner (record n { shared = shared; mark = mark; references = references; waiting = waiting })
mode_kept owner n shared mark references waiting phased merged (InOwned m) = InOwned (record {
  owned = m.owned;
  low = m.low;
  merging = m.merging;
  carried = m.carried;
  decided = elim m.decided [ AtZero z d ↦ AtZero z d | AboveZero z d ↦ AboveZero z d ];
  phased = phased m.phased;
})
mode_kept owner n shared mark references waiting phased merged (InSwapped m) = InSwapped (record {
  local = m.local;
  merging = m.merging;
  carried = m.carried;
  deciding = m.deciding;
  phased = phased m.phased;
})
mode_kept owner n shared mark references waiting phased merged (InMerged m) = InMerged (record {
  local = m.local;
  merging = m.merging;
  carried = m.carried;
  deciding = m.deciding;
  phase = (merged m).0;
  counted = (merged m).1;
  awaits = (merged m).2;
})

-- ---- the running owner's steps

-- `LocalRaised`: the owner raises its local count.
pub local_up : (owner : ℕ) (n : Numbers) → IsLive owner n → 1 ≤ local_part n.local → local_part n.local < most_local
    → IsLive owner (record n { local = n.local + 1; references = n.references + 1 })
local_up owner n live some low =
    let up = owner_up n.local low in
    let m = owned_only owner n live some in
    record {
      sum = omega (arith, live.sum, up.1);
      mode = InOwned (record {
        owned = up.0 ∙ m.owned;
        low = omega (arith, up.1);
        merging = m.merging;
        carried = m.carried;
        decided = elim m.decided [
          | AtZero z d ↦ absurd (omega (arith, z, some))
          | AboveZero z d ↦ AboveZero (omega (arith, up.1)) d
        ];
        phased = elim m.phased [ IsDefault p w b ↦ IsDefault p w b | IsQueued p w ↦ IsQueued p w ];
      });
    }

-- `LocalLowered`: the owner lowers a local count above 1.
pub local_down : (owner : ℕ) (n : Numbers) → IsLive owner n → 2 ≤ local_part n.local → 1 ≤ n.references
    → IsLive owner (record n { local = n.local - 1; references = n.references - 1 })
local_down owner n live some referenced =
    let down = owner_down n.local (omega (arith, some)) in
    let m = owned_only owner n live (omega (arith, some)) in
    record {
      sum = omega (arith, live.sum, down.1, referenced);
      mode = InOwned (record {
        owned = down.0 ∙ m.owned;
        low = omega (arith, down.1, m.low);
        merging = m.merging;
        carried = m.carried;
        decided = elim m.decided [
          | AtZero z d ↦ absurd (omega (arith, z, some))
          | AboveZero z d ↦ AboveZero (omega (arith, down.1, some)) d
        ];
        phased = elim m.phased [ IsDefault p w b ↦ IsDefault p w b | IsQueued p w ↦ IsQueued p w ];
      });
    }

-- `LocalReachesZero`: the owner lowers a local count of 1, and decides from then on.
pub local_to_zero : (owner : ℕ) (n : Numbers) → IsLive owner n → local_part n.local ≡ 1 → 1 ≤ n.references
    → IsLive owner (record n { local = n.local - 1; references = n.references - 1; deciding = n.deciding + 1 })
local_to_zero owner n live one referenced =
    let down = owner_down n.local (omega (arith, one)) in
    let m = owned_only owner n live (omega (arith, one)) in
    record {
      sum = omega (arith, live.sum, down.1, referenced);
      mode = InOwned (record {
        owned = down.0 ∙ m.owned;
        low = omega (arith, down.1, m.low);
        merging = m.merging;
        carried = m.carried;
        decided = elim m.decided [
          | AtZero z d ↦ absurd (omega (arith, z, one))
          | AboveZero z d ↦ AtZero (omega (arith, down.1, one)) (omega (arith, d))
        ];
        phased = elim m.phased [ IsDefault p w b ↦ IsDefault p w b | IsQueued p w ↦ IsQueued p w ];
      });
    }

-- `NothingShared`: if the owner's local count is 0 and the shared word is (0, default), the object has no reference.
pub zero_dies : (owner : ℕ) (n : Numbers) → IsLive owner n → local_part n.local ≡ 0 → 1 ≤ n.deciding
    → n.shared ≡ fresh_word → IsDead (record n { deciding = n.deciding - 1 })
zero_dies owner n live zero some fresh =
    elim live.mode [
      | InOwned m ↦
          let decided : n.deciding ≡ 1 = elim m.decided [
            | AtZero z d ↦ d
            | AboveZero z d ↦ absurd (omega (arith, z, zero))
          ] in
          let none : n.mark + n.waiting ≡ 0 = elim m.phased [
            | IsDefault p w b ↦ w
            | IsQueued p w ↦ absurd (omega (arith, p, fresh))
          ] in
          record {
            local = zero;
            shared = omega (arith, fresh);
            mark = omega (arith, none);
            references = omega (arith, live.sum, zero, fresh, m.carried, none);
            waiting = omega (arith, none);
            carried = m.carried;
            merging = m.merging;
            deciding = omega (arith, decided);
          }
      | InSwapped m ↦ absurd (omega (arith, m.deciding, some))
      | InMerged m ↦ absurd (omega (arith, m.deciding, some))
    ]

-- ---- the shared word

pub shared_range : (owner : ℕ) (n : Numbers) → IsLive owner n → 1 ≤ biased_part n.shared
shared_range owner n live =
    elim live.mode [
      | InOwned m ↦ omega (arith, live.sum, m.low, m.carried)
      | InSwapped m ↦ omega (arith, live.sum, m.local, m.carried)
      | InMerged m ↦ omega (arith, m.counted)
    ]

-- `SharedRaised`: a thread raises the shared count.
pub shared_gained : (owner : ℕ) (n : Numbers) → IsLive owner n
    → IsLive owner (record n { shared = n.shared + ONE_REFERENCE; references = n.references + 1 })
shared_gained owner n live =
    let up = shared_up n.shared in
    record {
      sum = omega (arith, live.sum, up.0);
      mode = mode_kept owner n (n.shared + ONE_REFERENCE) n.mark (n.references + 1) n.waiting (λ phased. elim phased [
        | IsDefault p w b ↦ IsDefault (up.1 ∙ p) w (omega (arith, up.0, b))
        | IsQueued p w ↦ IsQueued (up.1 ∙ p) w
      ]) (λ m. (up.1 ∙ m.phase, omega (arith, up.0, m.counted), m.awaits)) live.mode;
    }

-- `Queues`: a release that finds (0, default) queues the object, and its decrement is pending from then on.
pub shared_queued : (owner : ℕ) (n : Numbers) → IsLive owner n → n.shared ≡ fresh_word → 1 ≤ n.references
    → IsLive owner (record n { shared = n.shared + QUEUED; references = n.references - 1; waiting = n.waiting + 1 })
shared_queued owner n live fresh referenced =
    let parts : (biased_part (n.shared + QUEUED) ≡ biased_part n.shared) × (phase_part (n.shared + QUEUED) ≡ QUEUED) =
    (omega (arith, fresh), omega (arith, fresh)) in
    record {
      sum = omega (arith, live.sum, parts.0, referenced);
      mode = mode_kept owner n (n.shared + QUEUED) n.mark (n.references - 1) (n.waiting + 1) (λ phased. elim phased [
        | IsDefault p w b ↦ IsQueued parts.1 (omega (arith, w))
        | IsQueued p w ↦ absurd (omega (arith, p, fresh))
      ]) (λ m. absurd (omega (arith, m.phase, fresh))) live.mode;
    }

-- `Decrements`: a release that finds any other shared word lowers its count, and the object lives on unless it is
-- merged with a count of 0.
pub shared_lost : (owner : ℕ) (n : Numbers) → IsLive owner n → n.shared ≢ fresh_word
    → n.shared - ONE_REFERENCE ≢ dead_word
    → 1 ≤ n.references
    → IsLive owner (record n { shared = n.shared - ONE_REFERENCE; references = n.references - 1 })
shared_lost owner n live other alive referenced =
    let down = shared_down n.shared (shared_range owner n live) in
    record {
      sum = omega (arith, live.sum, down.0, referenced);
      mode = mode_kept owner n (n.shared - ONE_REFERENCE) n.mark (n.references - 1) n.waiting (λ phased. elim phased [
        | IsDefault p w b ↦ IsDefault (down.1 ∙ p) w (omega (arith, down.0, b, p, other))
        | IsQueued p w ↦ IsQueued (down.1 ∙ p) w
      ]) (λ m. (down.1 ∙ m.phase, omega (arith, down.0, down.1, m.phase, m.counted, alive), m.awaits)) live.mode;
    }

-- `DecrementsToZero`: a release that takes the count of a merged object to 0 gives up the last reference.
pub shared_dies : (owner : ℕ) (n : Numbers) → IsLive owner n → n.shared - ONE_REFERENCE ≡ dead_word → 1 ≤ n.references
    → IsDead (record n { shared = n.shared - ONE_REFERENCE; references = n.references - 1 })
shared_dies owner n live dead referenced =
    let m = merged_only owner n live (omega (arith, dead)) in
    let count : biased_part n.shared ≡ bias + 1 = omega (arith, dead) in
    record {
      local = omega (arith, m.local);
      shared = omega (arith, dead);
      mark = omega (arith, live.sum, m.local, count, m.carried, referenced);
      references = omega (arith, live.sum, m.local, count, m.carried, referenced);
      waiting = omega (arith, live.sum, m.local, count, m.carried, referenced);
      carried = m.carried;
      merging = m.merging;
      deciding = m.deciding;
    }
