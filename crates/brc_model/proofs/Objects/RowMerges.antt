-- How the steps about a row's mark and the steps of a merge change the row's numbers.
use Rattle.std.proofs.Common.{◌≡◌, ◌≢◌, ℕ, ◌+◌, ◌-◌, ◌≤◌, refl, ◌∙◌, arith}
use Rattle.brc_word.specs.declared.values.TheConstants.{ONE_REFERENCE, MERGED}
use Rattle.brc_word.specs.Words.{local_part, biased_part, phase_part, bias, dead_word, merged_word}
use Rattle.brc_model.specs.RowInvariant.{Numbers, IsDefault, IsQueued, AtZero, AboveZero, InOwned, InSwapped, InMerged, IsLive, IsDead}
use Rattle.brc_model.proofs.Objects.RowSteps.{shared_down, shared_merged, shared_range, merged_only, mode_kept}

-- ---- the handed reference of a merged object

-- `Decrements`, for a handed reference: the merged object lives on.
pub handed_lost : (owner : ℕ) (n : Numbers) → IsLive owner n → phase_part n.shared ≡ MERGED
    → n.shared - ONE_REFERENCE ≢ dead_word
    → 1 ≤ n.waiting
    → IsLive owner (record n { shared = n.shared - ONE_REFERENCE; waiting = n.waiting - 1 })
handed_lost owner n live phase alive some =
    let down = shared_down n.shared (shared_range owner n live) in
    let m = merged_only owner n live phase in
    record {
      sum = omega (arith, live.sum, down.0, some);
      mode = InMerged (record {
        local = m.local;
        merging = m.merging;
        carried = m.carried;
        deciding = m.deciding;
        phase = down.1 ∙ m.phase;
        counted = omega (arith, down.0, down.1, m.phase, m.counted, alive);
        awaits = omega (arith, m.awaits, some);
      });
    }

-- `DecrementsToZero`, for a handed reference: it was the last one.
pub handed_dies : (owner : ℕ) (n : Numbers) → IsLive owner n → n.shared - ONE_REFERENCE ≡ dead_word → 1 ≤ n.waiting
    → IsDead (record n { shared = n.shared - ONE_REFERENCE; waiting = n.waiting - 1 })
handed_dies owner n live dead some =
    let m = merged_only owner n live (omega (arith, dead)) in
    let count : biased_part n.shared ≡ bias + 1 = omega (arith, dead) in
    record {
      local = omega (arith, m.local);
      shared = omega (arith, dead);
      mark = omega (arith, live.sum, m.local, count, m.carried, some);
      references = omega (arith, live.sum, m.local, count, m.carried, some);
      waiting = omega (arith, live.sum, m.local, count, m.carried, some);
      carried = m.carried;
      merging = m.merging;
      deciding = m.deciding;
    }

-- ---- a pending decrement moves between a duty and the mark

same_awaiting : (owner : ℕ) (n : Numbers) (mark waiting : ℕ) → mark + waiting ≡ n.mark + n.waiting → IsLive owner n
    → IsLive owner (record n { mark = mark; waiting = waiting })
same_awaiting owner n mark waiting same live = record {
  sum = omega (arith, live.sum, same);
  mode = mode_kept owner n n.shared mark n.references waiting (λ phased. elim phased [
    | IsDefault p w b ↦ IsDefault p (same ∙ w) b
    | IsQueued p w ↦ IsQueued p (same ∙ w)
  ]) (λ m. (m.phase, m.counted, omega (arith, same, m.awaits))) live.mode;
}

pub awaits_low : (owner : ℕ) (n : Numbers) → IsLive owner n → n.mark + n.waiting ≤ 1
awaits_low owner n live =
    elim live.mode [
      | InOwned m ↦ elim m.phased [ IsDefault p w b ↦ omega (arith, w) | IsQueued p w ↦ omega (arith, w) ]
      | InSwapped m ↦ elim m.phased [ IsDefault p w b ↦ omega (arith, w) | IsQueued p w ↦ omega (arith, w) ]
      | InMerged m ↦ m.awaits
    ]

pub mark_set : (owner : ℕ) (n : Numbers) → IsLive owner n → 1 ≤ n.waiting
    → IsLive owner (record n { mark = 1; waiting = n.waiting - 1 })
mark_set owner n live some = same_awaiting owner n 1 (n.waiting - 1) (omega (arith, awaits_low owner n live, some)) live

pub mark_taken : (owner : ℕ) (n : Numbers) → IsLive owner n → n.mark ≡ 1
    → IsLive owner (record n { mark = 0; waiting = n.waiting + 1 })
mark_taken owner n live set = same_awaiting owner n 0 (n.waiting + 1) (omega (arith, set)) live

-- ---- merging

-- `LocalTakenOut`, for the owner: its local count is 0, and it swaps the local word out.
pub swapped_own : (owner : ℕ) (n : Numbers) → IsLive owner n → local_part n.local ≡ 0 → 1 ≤ n.deciding
    → IsLive owner (record n { local = 0; deciding = n.deciding - 1; merging = n.merging + 1 })
swapped_own owner n live zero some = record {
  sum = omega (arith, live.sum, zero);
  mode = elim live.mode [
    | InOwned m ↦
        let decided : n.deciding ≡ 1 = elim m.decided [
          | AtZero z d ↦ d
          | AboveZero z d ↦ absurd (omega (arith, z, zero))
        ] in
        InSwapped (record {
          local = refl;
          merging = omega (arith, m.merging);
          carried = omega (arith, m.carried);
          deciding = omega (arith, decided);
          phased = elim m.phased [ IsDefault p w b ↦ IsDefault p w b | IsQueued p w ↦ IsQueued p w ];
        })
    | InSwapped m ↦ absurd (omega (arith, m.deciding, some))
    | InMerged m ↦ absurd (omega (arith, m.deciding, some))
  ];
}

-- `LocalTakenOut`, for a claimed mark: a thread swaps the local word out, while no thread decides about the row.
pub swapped_claimed : (owner : ℕ) (n : Numbers) → IsLive owner n → n.local ≢ 0 → n.deciding ≡ 0
    → IsLive owner (record n { local = 0; carried = n.carried + local_part n.local; merging = n.merging + 1 })
swapped_claimed owner n live some none = record {
  sum = omega (arith, live.sum);
  mode = elim live.mode [
    | InOwned m ↦ InSwapped (record {
      local = refl;
      merging = omega (arith, m.merging);
      carried = omega (arith, m.carried, m.low);
      deciding = none;
      phased = elim m.phased [ IsDefault p w b ↦ IsDefault p w b | IsQueued p w ↦ IsQueued p w ];
    })
    | InSwapped m ↦ absurd (some m.local)
    | InMerged m ↦ absurd (some m.local)
  ];
}

-- `Merges` and `MergesForHanded`: if the merged count isn't 0, the object lives on, merged.
pub merged_live : (owner : ℕ) (n : Numbers) (c : ℕ) → IsLive owner n → 1 ≤ n.merging → n.carried ≡ c
    → merged_word n.shared c ≢ dead_word
    → IsLive owner (record n { shared = merged_word n.shared c; carried = 0; merging = n.merging - 1 })
merged_live owner n c live some carried alive = let up = shared_merged n.shared c in record {
  sum = omega (arith, live.sum, up.0, carried);
  mode = elim live.mode [
    | InOwned m ↦ absurd (omega (arith, m.merging, some))
    | InSwapped m ↦ InMerged (record {
      local = m.local;
      merging = omega (arith, m.merging);
      carried = refl;
      deciding = m.deciding;
      phase = up.1;
      counted = omega (arith, live.sum, up.0, up.1, carried, m.local, alive);
      awaits = elim m.phased [ IsDefault p w b ↦ omega (arith, w) | IsQueued p w ↦ omega (arith, w) ];
    })
    | InMerged m ↦ absurd (omega (arith, m.merging, some))
  ];
}

-- `MergesToZero`: if the merged count is 0, the object has no reference.
pub merged_dies : (owner : ℕ) (n : Numbers) (c : ℕ) → IsLive owner n → 1 ≤ n.merging → n.carried ≡ c
    → merged_word n.shared c ≡ dead_word
    → IsDead (record n { shared = merged_word n.shared c; carried = 0; merging = n.merging - 1 })
merged_dies owner n c live some carried dead =
    let up = shared_merged n.shared c in
    let count : biased_part n.shared + c ≡ bias = omega (arith, up.0, dead) in
    elim live.mode [
      | InOwned m ↦ absurd (omega (arith, m.merging, some))
      | InSwapped m ↦ record {
        local = omega (arith, m.local);
        shared = omega (arith, up.0, count);
        mark = omega (arith, live.sum, count, carried, m.local);
        references = omega (arith, live.sum, count, carried, m.local);
        waiting = omega (arith, live.sum, count, carried, m.local);
        carried = refl;
        merging = omega (arith, m.merging);
        deciding = m.deciding;
      }
      | InMerged m ↦ absurd (omega (arith, m.merging, some))
    ]
