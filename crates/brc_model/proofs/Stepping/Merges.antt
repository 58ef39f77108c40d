-- A thread fits after its own steps that put an object into its owner's queue, take an object out of a queue, or merge
-- one.
use Rattle.std.proofs.Common.{◌≡◌, ℕ, Bool, true, false, cond, List, [], ◌∷◌, inr, refl, ap, ◌∙◌, arith}
use Rattle.std.specs.Prelude.{◌==◌}
use Rattle.std.proofs.lemmas.Bool.{eqb-true, eqb-false, eq-eqb, ne_eqb}
use Rattle.brc_word.specs.Words.{local_part, phase_part, dead_word, merged_word}
use Rattle.brc_model.specs.declared.duty.Reason.{Reason}
use Rattle.brc_model.specs.declared.duty.Reason.TheVariants.{Own, Handed}
use Rattle.brc_model.specs.declared.duty.Duty.{Duty}
use Rattle.brc_model.specs.declared.duty.Duty.TheVariants.{SharedLoad, SetMark, Look, TakeMark, MergeSwap, MergeLoad, MergeExchange, Die}
use Rattle.brc_model.specs.declared.address.Address.TheVariants.{Local, Shared, ThreadWord}
use Rattle.brc_model.specs.Duties.{merge_result}
use Rattle.brc_model.specs.declared.actor.Actor.{Actor}
use Rattle.brc_model.specs.Machine.{Machine, machine_by_duty, mark_of}
use Rattle.brc_model.specs.References.{one_if}
use Rattle.brc_model.specs.RowInvariant.{waits, decides, InOwned, InSwapped, InMerged}
use Rattle.brc_model.specs.Accounts.{Accounts}
use Rattle.brc_model.specs.Knowledge.{MayCarry}
use Rattle.brc_model.proofs.Objects.RowSteps.{shared_merged}
use Rattle.brc_model.proofs.Frame.Alive.{first_weighs, Alive, live_born, alive_waiting, alive_deciding}
use Rattle.brc_model.proofs.Basics.Written.{written_here}
use Rattle.brc_model.proofs.Frame.Leaves.{head_of, merge_alive}
use Rattle.brc_model.proofs.Frame.Lives.{leaves_others}
use Rattle.brc_model.proofs.Stepping.FitsAfter.{agenda_here, NotGone, FitsAfter}
use Rattle.brc_model.proofs.Stepping.Counts.{held_same}
use Rattle.brc_model.proofs.Stepping.Steps.{own_done, own_next, own_dying}
use Rattle.brc_model.proofs.Work.MergesOnce.{swapped_apart}
use Rattle.brc_model.specs.Invariant.{AtDuty}
use Rattle.brc_model.specs.declared.layout.Layout.{Layout}
use Rattle.brc_model.specs.Layout.{block_of}

-- ---- the mark

module _ {p : Accounts} {n : ℕ} {m : Machine} {t : ℕ} {a : Actor} {rest : List Duty} where
  -- The row of a mark that a thread is about to set is live.
  mark_alive : (x : ℕ) → AtDuty p n m t a (SetMark x) rest → Alive m x
  mark_alive x here =
      let one : one_if (x == x) ≡ 1 = ap one_if (eq-eqb x x refl) in
      alive_waiting x here.core (head_of here)
      (omega (arith, first_weighs (waits x) m.actors t a (SetMark x) rest here.found here.agenda, one))

  -- The thread fits after `Marked`.
  pub thread_after_set_mark : (x : ℕ) → AtDuty p n m t a (SetMark x) rest → NotGone a
      → FitsAfter p m t a (SetMark x) rest
  thread_after_set_mark x here alive =
      let d : Duty = SetMark x in
      own_next (Look x) here alive refl refl refl refl
      (held_same m.abstract.references t (d ∷ rest) (Look x ∷ rest) (λ k o. refl) (λ k o. refl))
      (agenda_here here alive) (λ b status head used locked. (
        head_of here,
        (leaves_others here).memory.born x (live_born m x (mark_alive x here).life),
      ))

  -- The thread fits after `OwnerRuns` and `OwnerExits`.
  pub thread_after_look : (x : ℕ) → AtDuty p n m t a (Look x) rest → NotGone a → FitsAfter p m t a (Look x) rest
  thread_after_look x here alive =
      let d : Duty = Look x in
      let found = m.memory (ThreadWord (block_of m.layout x)) in
      let later = agenda_here here alive in
      elim (found == 1) as (λ b. (found == 1) ≡ b → FitsAfter p m t a d rest) [
        | true ↦ λ e.
            own_done here alive refl (ap (λ (b : Bool). cond b [] (TakeMark x ∷ [])) e) later
            (held_same m.abstract.references t (d ∷ rest) [] (λ k o. refl) (λ k o. refl))
        | false ↦ λ e.
            own_next (TakeMark x) here alive refl refl refl (ap (λ (b : Bool). cond b [] (TakeMark x ∷ [])) e)
            (held_same m.abstract.references t (d ∷ rest) (TakeMark x ∷ rest) (λ k o. refl) (λ k o. refl)) later
            (λ b status head used locked. (
              (head_of here).0,
              (leaves_others here).memory.stopped (block_of m.layout x) (eqb-false found 1 e),
              (leaves_others here).memory.born x (head_of here).1,
            ))
      ] refl

  -- The thread fits after `MarkTakenBack` and `MarkGone`.
  pub thread_after_take_mark : (x : ℕ) → AtDuty p n m t a (TakeMark x) rest → NotGone a
      → FitsAfter p m t a (TakeMark x) rest
  thread_after_take_mark x here alive =
      let d : Duty = TakeMark x in
      let mark = mark_of m.layout m.memory x in
      let fits = head_of here in
      let later = agenda_here here alive in
      elim (mark == 1) as (λ b. (mark == 1) ≡ b → FitsAfter p m t a d rest) [
        | true ↦ λ e.
            own_next (MergeSwap x Handed) here alive refl refl refl
            (ap (λ (b : Bool). cond b (MergeSwap x Handed ∷ []) []) e)
            (held_same m.abstract.references t (d ∷ rest) (MergeSwap x Handed ∷ rest) (λ k o. refl) (λ k o. refl))
            later (λ b status head used locked. (fits.0, inr fits.1))
        | false ↦ λ e.
            own_done here alive refl (ap (λ (b : Bool). cond b (MergeSwap x Handed ∷ []) []) e) later
            (held_same m.abstract.references t (d ∷ rest) [] (λ k o. refl) (λ k o. refl))
      ] refl

  -- ---- the local word

  swap_alive : (x : ℕ) → AtDuty p n m t a (MergeSwap x Own) rest → Alive m x
  swap_alive x here =
      let one : one_if (x == x) ≡ 1 = ap one_if (eq-eqb x x refl) in
      alive_deciding x here.core (head_of here).0
      (omega (arith, first_weighs (decides x) m.actors t a (MergeSwap x Own) rest here.found here.agenda, one))

  -- The row of an owner's merge is in the owner's block.
  swap_own : (x : ℕ) → AtDuty p n m t a (MergeSwap x Own) rest → block_of m.layout x ≡ t
  swap_own x here =
      let owns = (head_of here).1 in
      elim (swap_alive x here).live.mode [
        | InOwned o ↦ omega (arith, o.owned, owns.owner)
        | InSwapped s ↦ absurd (omega (arith, s.local, owns.owner))
        | InMerged s ↦ absurd (omega (arith, s.local, owns.owner))
      ]

  -- The thread fits after `LocalTakenOut`, for the owner.
  pub thread_after_merge_swap_own : (x : ℕ) → AtDuty p n m t a (MergeSwap x Own) rest → NotGone a
      → FitsAfter p m t a (MergeSwap x Own) rest
  thread_after_merge_swap_own x here alive =
      let found = m.memory (Local x) in
      let d : Duty = MergeSwap x Own in
      let fits = head_of here in
      let e : Duty = MergeLoad x (local_part found) Own in
      let some : (found == 0) ≡ false = ne_eqb found 0 (λ q. absurd (omega (arith, q, fits.1.owner))) in
      own_next e here alive refl refl refl (ap (λ (b : Bool). cond b [] (e ∷ [])) some)
      (held_same m.abstract.references t (d ∷ rest) (e ∷ rest) (λ k o. refl) (λ k o. refl))
      (agenda_here here alive) (λ b status head used locked. (
        fits.0,
        omega (arith, fits.1.low),
        (status ∙ fits.1.running, swap_own x here),
      ))

  -- The thread fits after `NobodysCount` and `LocalTakenOut`, for a claimed mark.
  pub thread_after_merge_swap_handed : (x : ℕ) → AtDuty p n m t a (MergeSwap x Handed) rest → NotGone a
      → FitsAfter p m t a (MergeSwap x Handed) rest
  thread_after_merge_swap_handed x here alive =
      let found = m.memory (Local x) in
      let d : Duty = MergeSwap x Handed in
      let fits = head_of here in
      let e : Duty = MergeLoad x (local_part found) Handed in
      let gives : Duty = SharedLoad x Handed in
      let later = agenda_here here alive in
      elim (found == 0) as (λ b. (found == 0) ≡ b → FitsAfter p m t a d rest) [
        | true ↦ λ none.
            own_next gives here alive refl refl refl (ap (λ (b : Bool). cond b (gives ∷ []) (e ∷ [])) none)
            (held_same m.abstract.references t (d ∷ rest) (gives ∷ rest) (λ k o. refl) (λ k o. refl)) later
            (λ b status head used locked. (fits.0, swapped_apart x here (eqb-true found 0 none)))
        | false ↦ λ some.
            own_next e here alive refl refl refl (ap (λ (b : Bool). cond b (gives ∷ []) (e ∷ [])) some)
            (held_same m.abstract.references t (d ∷ rest) (e ∷ rest) (λ k o. refl) (λ k o. refl)) later
            (λ b status head used locked. (fits.0, omega arith, tt))
      ] refl

-- ---- the shared word

may_carry_stays : (m new : Machine) (t x : ℕ) (a b : Actor) (r : Reason) → new.layout ≡ m.layout → b.status ≡ a.status
    → MayCarry m t a x r → MayCarry new t b x r
may_carry_stays m new t x a b Own rows status own = (status ∙ own.0, ap (λ (k : Layout). block_of k x) rows ∙ own.1)
may_carry_stays m new t x a b Handed rows status handed = tt

module _ {p : Accounts} {n : ℕ} {m : Machine} {t : ℕ} {a : Actor} {rest : List Duty} where
  -- The thread fits after `MergeRead`.
  pub thread_after_merge_load : (x c : ℕ) (r : Reason) → AtDuty p n m t a (MergeLoad x c r) rest → NotGone a
      → FitsAfter p m t a (MergeLoad x c r) rest
  thread_after_merge_load x c r here alive =
      let d : Duty = MergeLoad x c r in
      let fits = head_of here in
      let e : Duty = MergeExchange x c (m.memory (Shared x)) r in
      own_next e here alive refl refl refl refl
      (held_same m.abstract.references t (d ∷ rest) (e ∷ rest) (λ k o. refl) (λ k o. refl))
      (agenda_here here alive) (λ b status head used locked. (
        fits.0,
        fits.1,
        may_carry_stays m (machine_by_duty m t a d rest) t x a b r refl status fits.2,
      ))

merge_next : (x c w found : ℕ) (dead : Bool) → (found == w) ≡ true → (merged_word w c == dead_word) ≡ dead
    → cond (found == w) (cond (merged_word w c == dead_word) (Die x ∷ []) []) (MergeLoad x c Own ∷ [])
    ≡ cond dead (Die x ∷ []) []
merge_next x c w found dead won is_dead =
    ap (λ (b : Bool). cond b (cond (merged_word w c == dead_word) (Die x ∷ []) []) (MergeLoad x c Own ∷ [])) won
    ∙ ap (λ (b : Bool). cond b (Die x ∷ []) []) is_dead

module _ {p : Accounts} {n : ℕ} {m : Machine} {t : ℕ} {a : Actor} {rest : List Duty} where
  -- If the exchange of a merge is won, the owner's object dies or lives on, and a handed reference is given up next.
  merge_won : (x c w : ℕ) (r : Reason) → AtDuty p n m t a (MergeExchange x c w r) rest → NotGone a
      → (m.memory (Shared x) == w) ≡ true → FitsAfter p m t a (MergeExchange x c w r) rest
  merge_won x c w Own here alive won =
      let found = m.memory (Shared x) in
      let d : Duty = MergeExchange x c w Own in
      let later = agenda_here here alive in
      elim (merged_word w c == dead_word) as (λ b. (merged_word w c == dead_word) ≡ b → FitsAfter p m t a d rest) [
        | true ↦ λ dead.
            own_dying x here alive refl (record {
              next_is = merge_next x c w found true won dead;
              counted = (head_of here).0;
              lived = (merge_alive x c w Own here).life;
              held = held_same m.abstract.references t (d ∷ rest) (Die x ∷ rest) (λ k o. refl) (λ k o. refl);
              later = later;
            })
        | false ↦ λ some.
            own_done here alive refl (merge_next x c w found false won some) later
            (held_same m.abstract.references t (d ∷ rest) [] (λ k o. refl) (λ k o. refl))
      ] refl
  merge_won x c w Handed here alive won =
      let found = m.memory (Shared x) in
      let d : Duty = MergeExchange x c w Handed in
      let gives : Duty = SharedLoad x Handed in
      let wrote : (machine_by_duty m t a d rest).memory (Shared x) ≡ merged_word w c =
      written_here m.memory (Shared x) (cond (found == w) (merged_word w c) found)
      ∙ ap (λ (b : Bool). cond b (merged_word w c) found) won in
      own_next gives here alive refl refl refl (ap (λ (b : Bool). cond b (gives ∷ []) (MergeLoad x c Handed ∷ [])) won)
      (held_same m.abstract.references t (d ∷ rest) (gives ∷ rest) (λ k o. refl) (λ k o. refl)) (agenda_here here alive)
      (λ b status head used locked. (
        (head_of here).0,
        ap phase_part wrote ∙ (shared_merged w c).1,
      ))

  -- The thread fits after `Merges`, `MergesToZero`, `MergesForHanded` and `MergeLost`.
  pub thread_after_merge_exchange : (x c w : ℕ) (r : Reason) → AtDuty p n m t a (MergeExchange x c w r) rest → NotGone a
      → FitsAfter p m t a (MergeExchange x c w r) rest
  thread_after_merge_exchange x c w r here alive =
      let found = m.memory (Shared x) in
      let d : Duty = MergeExchange x c w r in
      let fits = head_of here in
      let again : Duty = MergeLoad x c r in
      elim (found == w) as (λ b. (found == w) ≡ b → FitsAfter p m t a d rest) [
        | true ↦ λ won. merge_won x c w r here alive won
        | false ↦ λ lost.
            own_next again here alive refl refl refl
            (ap (λ (b : Bool). cond b (merge_result x r (merged_word w c)) (again ∷ [])) lost)
            (held_same m.abstract.references t (d ∷ rest) (again ∷ rest) (λ k o. refl) (λ k o. refl))
            (agenda_here here alive) (λ b status head used locked. (
              fits.0,
              fits.1,
              may_carry_stays m (machine_by_duty m t a d rest) t x a b r refl status fits.2,
            ))
      ] refl
