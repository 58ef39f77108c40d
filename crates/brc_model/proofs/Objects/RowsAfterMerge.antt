-- A merge, which takes the local count over into the shared word, keeps the row's invariant.
use Rattle.std.proofs.Common.{◌≡◌, ◌≢◌, ℕ, ◌+◌, ◌-◌, ◌≤◌, Bool, true, false, cond, List, [], ◌∷◌, refl, sym, ap, ◌∙◌, arith, inl, inr}
use Rattle.std.specs.Prelude.{◌==◌, sum_by}
use Rattle.std.proofs.lemmas.Bool.{ne_eqb}
use Rattle.std.proofs.lemmas.Bool.Decides.{eqb_tells}
use Rattle.std.proofs.lemmas.List.Sums.{sum_by-cons}
use Rattle.brc_word.specs.declared.values.TheConstants.{NOBODY}
use Rattle.brc_word.specs.Words.{local_part, dead_word, merged_word}
use Rattle.brc_model.specs.declared.duty.Reason.{Reason}
use Rattle.brc_model.specs.declared.duty.Reason.TheVariants.{Own, Handed}
use Rattle.brc_model.specs.declared.duty.Duty.{Duty}
use Rattle.brc_model.specs.declared.duty.Duty.TheVariants.{SharedLoad, MergeSwap, MergeLoad, MergeExchange, Die}
use Rattle.brc_model.specs.declared.address.Address.{Address}
use Rattle.brc_model.specs.declared.address.Address.TheVariants.{Local, Shared}
use Rattle.brc_model.specs.Duties.{once_merged}
use Rattle.brc_model.specs.declared.actor.Actor.{Actor}
use Rattle.brc_model.specs.Machine.{Live, Dying, Machine, written, life_by, machine_by_duty}
use Rattle.brc_model.specs.RowInvariant.{waits, carries, merges, decides, weight, IsLive, InOwned, InSwapped, InMerged}
use Rattle.brc_model.specs.Accounts.{Accounts}
use Rattle.brc_model.specs.Invariant.{AtDuty, numbers_of}
use Rattle.brc_model.proofs.Objects.RowMerges.{swapped_own, swapped_claimed, merged_live, merged_dies}
use Rattle.brc_model.proofs.Objects.Weights.{agenda_weight-le, none_carried}
use Rattle.brc_model.proofs.Objects.RowsAfterStep.{head_fits_of, following, KeepsRow, weighed, row_becomes, row_stays}
use Rattle.brc_model.proofs.Objects.RowsAfterOwn.{own, one_own, written_here, lives_so}
use Rattle.brc_model.proofs.Work.Deciders.{none_decides}
use Rattle.brc_model.specs.Layout.{block_of}

carried_own : (y c : ℕ) → cond (y == y) c 0 ≡ c
carried_own y c = ap (λ (b : Bool). cond b c 0) (own y)

-- ---- the local word is swapped out

module _ {p : Accounts} {n : ℕ} {m : Machine} {t : ℕ} {a : Actor} {rest : List Duty} where
  -- The row's invariant holds after `LocalTakenOut`, for the owner.
  pub row_after_own_swap : {y : ℕ} → AtDuty p n m t a (MergeSwap y Own) rest → KeepsRow m t a (MergeSwap y Own) rest y
  row_after_own_swap {y = y} s =
      let fits = head_fits_of s in
      let k = numbers_of m y in
      let c = local_part (m.memory (Local y)) in
      let owned : (m.memory (Local y) == NOBODY) ≡ false =
      ne_eqb _ _ (λ (e : m.memory (Local y) ≡ NOBODY). absurd (omega (arith, e, fits.1.owner))) in
      let weights = weighed s (MergeLoad y c Own ∷ []) (rw owned refl) y in
      let one = one_own y in
      let decided : 1 ≤ k.deciding = omega (arith, weights.deciding, one) in
      let lives = lives_so s y fits.0 (omega (arith, decided)) in
      row_becomes m t a (MergeSwap y Own) rest y (MergeLoad y c Own ∷ []) (rw owned refl) Live lives.is_live
      (record k { local = 0; deciding = k.deciding - 1; merging = k.merging + 1 }) (record {
        local = sym (written_here m.memory (Local y) 0 (own y));
        shared = refl;
        mark = refl;
        references = refl;
        waiting = omega (arith, weights.waiting);
        carried = omega (arith, weights.carried, carried_own y c, fits.2);
        merging = omega (arith, weights.merging, one);
        deciding = omega (arith, weights.deciding, one);
      }) (swapped_own (block_of m.layout y) k lives.invariant fits.2 decided)

module _ {p : Accounts} {n : ℕ} {m : Machine} {t : ℕ} {a : Actor} {d : Duty} {rest : List Duty} where
  -- A pending decrement of the first duty is among all that are pending.
  head_awaits : (y : ℕ) → AtDuty p n m t a d rest → waits y d ≤ weight (waits y) m.actors
  head_awaits y s =
      let whole : sum_by (waits y) a.agenda ≡ sum_by (waits y) (d ∷ rest) = ap (sum_by (waits y)) s.agenda in
      omega (arith, agenda_weight-le (waits y) m.actors t a s.found, whole, sum_by-cons (waits y) d rest)

module _ {p : Accounts} {n : ℕ} {m : Machine} {t : ℕ} {a : Actor} {rest : List Duty} where
  -- `LocalTakenOut`, for a claimed mark.
  claims_some : {y : ℕ} → AtDuty p n m t a (MergeSwap y Handed) rest → (m.memory (Local y) == NOBODY) ≡ false
      → m.memory (Local y) ≢ NOBODY → KeepsRow m t a (MergeSwap y Handed) rest y
  claims_some {y = y} s test found =
      let fits = head_fits_of s in
      let k = numbers_of m y in
      let c = local_part (m.memory (Local y)) in
      let weights = weighed s (MergeLoad y c Handed ∷ []) (rw test refl) y in
      let one = one_own y in
      let lives = lives_so s y fits.0 (omega (arith, head_awaits y s, one)) in
      row_becomes m t a (MergeSwap y Handed) rest y (MergeLoad y c Handed ∷ []) (rw test refl) Live lives.is_live
      (record k { local = 0; carried = k.carried + local_part k.local; merging = k.merging + 1 }) (record {
        local = sym (written_here m.memory (Local y) 0 (own y));
        shared = refl;
        mark = refl;
        references = refl;
        waiting = omega (arith, weights.waiting);
        carried = omega (arith, weights.carried, carried_own y c);
        merging = omega (arith, weights.merging, one);
        deciding = omega (arith, weights.deciding);
      }) (swapped_claimed (block_of m.layout y) k lives.invariant found (none_decides y s fits.1 lives.invariant))

  -- The row's invariant holds after `NobodysCount` and `LocalTakenOut`, for a claimed mark.
  pub row_after_handed_swap : {y : ℕ} → AtDuty p n m t a (MergeSwap y Handed) rest
      → KeepsRow m t a (MergeSwap y Handed) rest y
  row_after_handed_swap {y = y} s =
      elim (eqb_tells (m.memory (Local y)) 0) [
        | inl none ↦
            row_stays {next = SharedLoad y Handed ∷ []} {x = y} s (head_fits_of s).0 (record {
              follows = rw none.0 refl;
              lives = refl;
              local = none.1 ∙ sym (written_here m.memory (Local y) 0 (own y));
              shared = refl;
              mark = refl;
              references = refl;
              waiting = omega arith;
              carried = refl;
              merging = refl;
              deciding = refl;
            })
        | inr some ↦ claims_some s some.0 some.1
      ]

-- ---- the carried count is added

-- A lost exchange of a merge leaves its pending decrement to the duty that follows.
again_waits : (y c w : ℕ) (r : Reason) → waits y (MergeExchange y c w r) ≡ waits y (MergeLoad y c r)
again_waits y c w Own = refl
again_waits y c w Handed = refl

module _ {p : Accounts} {n : ℕ} {m : Machine} {t : ℕ} {a : Actor} {rest : List Duty} where
  -- The row's invariant holds after `MergeRead`.
  pub row_after_merge_load : {y c : ℕ} {r : Reason} → AtDuty p n m t a (MergeLoad y c r) rest
      → KeepsRow m t a (MergeLoad y c r) rest y
  row_after_merge_load {y = y} {c = c} {r = r} s =
      let found = m.memory (Shared y) in
      row_stays {next = MergeExchange y c found r ∷ []} {x = y} s (head_fits_of s).0 (record {
        follows = refl;
        lives = refl;
        local = refl;
        shared = sym (written_here m.memory (Shared y) found (own y));
        mark = refl;
        references = refl;
        waiting = omega (arith, again_waits y c found r);
        carried = omega arith;
        merging = omega arith;
        deciding = refl;
      })

-- The shared word after the exchange, by whether the exchange was won.
merge_left : (memory : Address → ℕ) (y w c : ℕ) (b : Bool) → (memory (Shared y) == w) ≡ b
    → written memory (Shared y) (cond (memory (Shared y) == w) (merged_word w c) (memory (Shared y))) (Shared y)
    ≡ cond b (merged_word w c) (memory (Shared y))
merge_left memory y w c b e =
    written_here memory (Shared y) _ (own y) ∙ ap (λ (d : Bool). cond d (merged_word w c) (memory (Shared y))) e

-- At most one thread merges the row.
merging_low : (owner : ℕ) (m : Machine) (y : ℕ) → IsLive owner (numbers_of m y) → weight (merges y) m.actors ≤ 1
merging_low owner m y live =
    elim live.mode [
      | InOwned o ↦ omega (arith, o.merging)
      | InSwapped w ↦ omega (arith, w.merging)
      | InMerged w ↦ omega (arith, w.merging)
    ]

module _ {p : Accounts} {n : ℕ} {m : Machine} {t : ℕ} {a : Actor} {rest : List Duty} where
  -- Once that thread has merged the row, no thread carries a count of it.
  carried_here : {y c w : ℕ} {r : Reason} (owner : ℕ) → AtDuty p n m t a (MergeExchange y c w r) rest
      → IsLive owner (numbers_of m y)
      → weight (merges y) (machine_by_duty m t a (MergeExchange y c w r) rest).actors + 1 ≡ weight (merges y) m.actors
      → weight (carries y) (machine_by_duty m t a (MergeExchange y c w r) rest).actors ≡ 0
  carried_here {y = y} {c = c} {w = w} {r = r} owner s live fewer =
      none_carried y (machine_by_duty m t a (MergeExchange y c w r) rest).actors
      (omega (arith, fewer, merging_low owner m y live))

  -- `MergesToZero`: if the merged count is 0, the object dies.
  merge_ends : {y c w : ℕ} → AtDuty p n m t a (MergeExchange y c w Own) rest → (m.memory (Shared y) == w) ≡ true
      → m.memory (Shared y) ≡ w → (merged_word w c == dead_word) ≡ true → merged_word w c ≡ dead_word
      → KeepsRow m t a (MergeExchange y c w Own) rest y
  merge_ends {y = y} {c = c} {w = w} s test same is_dead dead =
      let k = numbers_of m y in
      let weights = weighed s (Die y ∷ []) (rw (test, is_dead) refl) y in
      let one = one_own y in
      let some : 1 ≤ k.merging = omega (arith, weights.merging, one) in
      let lives = lives_so s y (head_fits_of s).0 (omega (arith, some)) in
      let none = carried_here (block_of m.layout y) s lives.invariant (omega (arith, weights.merging, one)) in
      let carried : k.carried ≡ c = omega (arith, weights.carried, carried_own y c, none) in
      let word : merged_word (m.memory (Shared y)) c ≡ merged_word w c = ap (λ (v : ℕ). merged_word v c) same in
      row_becomes m t a (MergeExchange y c w Own) rest y (Die y ∷ []) (rw (test, is_dead) refl) (Dying t)
      (ap (λ (b : Bool). cond b (Dying t) (m.life y)) (own y))
      (record k { shared = merged_word k.shared c; carried = 0; merging = k.merging - 1 }) (record {
        local = refl;
        shared = word ∙ sym (merge_left m.memory y w c true test);
        mark = refl;
        references = refl;
        waiting = omega (arith, weights.waiting);
        carried = sym none;
        merging = omega (arith, weights.merging, one);
        deciding = omega (arith, weights.deciding);
      }) (merged_dies (block_of m.layout y) k c lives.invariant some carried (word ∙ dead))

-- The duty that a merge was made for has the same decrement pending as the merge, and neither merges nor decides.
record Releases (m : Machine) (t : ℕ) (y c w : ℕ) (r : Reason) : Type 0 where
  lives : life_by m.life t (MergeExchange y c w r) (once_merged y r) y ≡ m.life y
  waiting : sum_by (waits y) (once_merged y r) ≡ waits y (MergeExchange y c w r)
  carried : sum_by (carries y) (once_merged y r) ≡ 0
  merging : sum_by (merges y) (once_merged y r) ≡ 0
  deciding : sum_by (decides y) (once_merged y r) ≡ 0

releases : (m : Machine) (t : ℕ) (y c w : ℕ) (r : Reason) → Releases m t y c w r
releases m t y c w Own = record { lives = refl; waiting = refl; carried = refl; merging = refl; deciding = refl }
releases m t y c w Handed =
    record { lives = refl; waiting = omega arith; carried = refl; merging = refl; deciding = refl }

module _ {p : Accounts} {n : ℕ} {m : Machine} {t : ℕ} {a : Actor} {rest : List Duty} where
  -- `Merges` and `MergesForHanded`: if the merged count isn't 0, the object lives on.
  merge_stays : {y c w : ℕ} {r : Reason} → AtDuty p n m t a (MergeExchange y c w r) rest
      → (m.memory (Shared y) == w) ≡ true → m.memory (Shared y) ≡ w
      → following m t a (MergeExchange y c w r) ≡ once_merged y r
      → (IsLive (block_of m.layout y) (numbers_of m y) → 1 ≤ (numbers_of m y).merging → (numbers_of m y).carried ≡ c
      → merged_word (m.memory (Shared y)) c ≢ dead_word) → KeepsRow m t a (MergeExchange y c w r) rest y
  merge_stays {y = y} {c = c} {w = w} {r = r} s test same follows alive =
      let k = numbers_of m y in
      let next = releases m t y c w r in
      let weights = weighed s (once_merged y r) follows y in
      let one = one_own y in
      let some : 1 ≤ k.merging = omega (arith, weights.merging, one, next.merging) in
      let lives = lives_so s y (head_fits_of s).0 (omega (arith, some)) in
      let none =
      carried_here (block_of m.layout y) s lives.invariant (omega (arith, weights.merging, one, next.merging)) in
      let carried : k.carried ≡ c = omega (arith, weights.carried, carried_own y c, none, next.carried) in
      let word : merged_word (m.memory (Shared y)) c ≡ merged_word w c = ap (λ (v : ℕ). merged_word v c) same in
      row_becomes m t a (MergeExchange y c w r) rest y (once_merged y r) follows Live (next.lives ∙ lives.is_live)
      (record k { shared = merged_word k.shared c; carried = 0; merging = k.merging - 1 }) (record {
        local = refl;
        shared = word ∙ sym (merge_left m.memory y w c true test);
        mark = refl;
        references = refl;
        waiting = omega (arith, weights.waiting, next.waiting);
        carried = sym none;
        merging = omega (arith, weights.merging, one, next.merging);
        deciding = omega (arith, weights.deciding, next.deciding);
      }) (merged_live (block_of m.layout y) k c lives.invariant some carried (alive lives.invariant some carried))

  merge_won : {y c w : ℕ} (r : Reason) → AtDuty p n m t a (MergeExchange y c w r) rest
      → (m.memory (Shared y) == w) ≡ true → m.memory (Shared y) ≡ w → KeepsRow m t a (MergeExchange y c w r) rest y
  merge_won {c = c} {w = w} Own s test same =
      elim (eqb_tells (merged_word w c) dead_word) [
        | inl dead ↦ merge_ends s test same dead.0 dead.1
        | inr alive ↦
            merge_stays s test same (rw (test, alive.0) refl)
            (λ live some carried dead. alive.1 (ap (λ (v : ℕ). merged_word v c) (sym same) ∙ dead))
      ]
  -- The handed reference is still counted, so the merged count isn't 0.
  merge_won {y = y} {c = c} Handed s test same = merge_stays s test same (rw test refl) (λ live some carried dead.
      absurd (omega (
        arith,
        head_awaits y s,
        one_own y,
        (merged_dies (block_of m.layout y) (numbers_of m y) c live some carried dead).waiting,
      )))

  -- The row's invariant holds after `Merges`, `MergesToZero`, `MergesForHanded` and `MergeLost`.
  pub row_after_merge_exchange : {y c w : ℕ} {r : Reason} → AtDuty p n m t a (MergeExchange y c w r) rest
      → KeepsRow m t a (MergeExchange y c w r) rest y
  row_after_merge_exchange {y = y} {c = c} {w = w} {r = r} s =
      elim (eqb_tells (m.memory (Shared y)) w) [
        | inl same ↦ merge_won r s same.0 same.1
        | inr other ↦
            row_stays {next = MergeLoad y c r ∷ []} {x = y} s (head_fits_of s).0 (record {
              follows = rw other.0 refl;
              lives = refl;
              local = refl;
              shared = sym (merge_left m.memory y w c false other.0);
              mark = refl;
              references = refl;
              waiting = omega (arith, again_waits y c w r);
              carried = omega arith;
              merging = omega arith;
              deciding = refl;
            })
      ]
