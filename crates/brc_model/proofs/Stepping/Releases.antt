-- A thread fits after its own steps that make a reference, give one up by the local word, or decide at zero.
use Rattle.std.proofs.Common.{◌≡◌, ℕ, ◌+◌, ◌-◌, ◌<◌, Bool, true, false, cond, List, [], ◌∷◌, ◌++◌, refl, sym, ap, ◌∙◌, subst, arith}
use Rattle.std.specs.Prelude.{◌==◌, ◌&&◌}
use Rattle.std.specs.List.{list_any}
use Rattle.std.proofs.lemmas.Bool.{eqb-true, eq-eqb}
use Rattle.brc_model.specs.declared.duty.Holding.{Holding}
use Rattle.brc_model.specs.declared.duty.Holding.TheVariants.{ByVariable, AsCaller, InFlight}
use Rattle.brc_model.specs.AbstractState.{Reference, same_holding, same, without, moved}
use Rattle.brc_word.specs.Words.{immortal_local, owner_part, local_part, fresh_word}
use Rattle.brc_model.specs.declared.duty.Reason.TheVariants.{Own}
use Rattle.brc_model.specs.declared.duty.Duty.{Duty}
use Rattle.brc_model.specs.declared.duty.Duty.TheVariants.{RetainStore, RetainAdd, ReleaseLoad, ReleaseStore, DecideAtZero, SharedLoad, MergeSwap, Die}
use Rattle.brc_model.specs.declared.address.Address.TheVariants.{Local, Shared}
use Rattle.brc_model.specs.Duties.{counts_locally}
use Rattle.brc_model.specs.declared.actor.Actor.{Actor}
use Rattle.brc_model.specs.Machine.{Machine, is_running, machine_by_duty}
use Rattle.brc_model.specs.Moves.{lose, put_in_flight}
use Rattle.brc_model.proofs.Basics.Bag.{same_holding-refl, held-cons, held-without, held_has, held-le-references_to}
use Rattle.brc_model.specs.References.{held, one_if, reference_of}
use Rattle.brc_model.specs.Accounts.{Accounts, extra_of, lacks_of}
use Rattle.brc_model.proofs.Objects.RowSteps.{owner_down}
use Rattle.brc_model.proofs.Frame.Aside.{extra_held}
use Rattle.brc_model.proofs.Frame.Alive.{Alive, alive_referenced}
use Rattle.brc_model.proofs.Basics.Written.{written_here}
use Rattle.brc_model.proofs.Frame.Leaves.{head_of, decide_alive}
use Rattle.brc_model.proofs.Frame.Lives.{next_of}
use Rattle.brc_model.proofs.Stepping.Own.{HeldStep}
use Rattle.brc_model.proofs.Stepping.FitsAfter.{bag_by, agenda_here, NotGone, FitsAfter}
use Rattle.brc_model.proofs.Stepping.Counts.{same_is, held_same, held_gained, held_lost}
use Rattle.brc_model.proofs.Stepping.Retains.{counts_owner, count_above, weight_here}
use Rattle.brc_model.proofs.Stepping.Steps.{own_done, own_next, own_dying}
use Rattle.brc_model.specs.Invariant.{AtDuty, numbers_of}
use Rattle.brc_model.specs.Layout.{IsCounted, block_of}
use Rattle.brc_model.proofs.Objects.RowsAfterOwn.{counted_word}

-- ---- the last step of a retain

module _ {p : Accounts} {n : ℕ} {m : Machine} {t : ℕ} {a : Actor} {rest : List Duty} where
  -- The thread fits after `LocalRaised`.
  pub thread_after_retain_store : (x : ℕ) (h : Holding) (w : ℕ) → AtDuty p n m t a (RetainStore x h w) rest → NotGone a
      → FitsAfter p m t a (RetainStore x h w) rest
  thread_after_retain_store x h w here alive =
      own_done here alive refl refl (agenda_here here alive)
      (held_gained m.abstract.references t x h (RetainStore x h w ∷ rest) [] (λ k o. refl) (λ k o. refl) (λ k o. refl)
      (λ k o. refl))

  -- The thread fits after `SharedRaised`.
  pub thread_after_retain_add : (x : ℕ) (h : Holding) → AtDuty p n m t a (RetainAdd x h) rest → NotGone a
      → FitsAfter p m t a (RetainAdd x h) rest
  thread_after_retain_add x h here alive =
      own_done here alive refl refl (agenda_here here alive)
      (held_gained m.abstract.references t x h (RetainAdd x h ∷ rest) [] (λ k o. refl) (λ k o. refl) (λ k o. refl)
      (λ k o. refl))

-- ---- the first step of a release

module _ {p : Accounts} {n : ℕ} {m : Machine} {t : ℕ} {a : Actor} {d : Duty} {rest : List Duty} where
  extra_here : (h : Holding) (x : ℕ) → AtDuty p n m t a d rest → extra_of (d ∷ rest) h x ≡ true
      → lacks_of (d ∷ rest) h x ≡ false → 0 < held (reference_of t h x) m.abstract.references
  extra_here h x here more less =
      let fits = here.core.each t a here.found in
      extra_held m t (p t) a h x fits.0.holds fits.2 (ap (λ (l : List Duty). extra_of l h x) here.agenda ∙ more)
      (ap (λ (l : List Duty). lacks_of l h x) here.agenda ∙ less)

module _ {p : Accounts} {n : ℕ} {m : Machine} {t : ℕ} {a : Actor} {rest : List Duty} where
  -- The bag has the reference that a release gives up.
  pub release_held : (x : ℕ) (h : Holding) → AtDuty p n m t a (ReleaseLoad x h) rest
      → 0 < held (reference_of t h x) m.abstract.references
  release_held x h here =
      extra_here h x here (ap (λ (b : Bool). b && (x == x)) (same_holding-refl h) ∙ eq-eqb x x refl) refl

  -- A counted object that is released lives.
  pub release_alive : (x : ℕ) (h : Holding) → IsCounted m.layout x → AtDuty p n m t a (ReleaseLoad x h) rest → Alive m x
  release_alive x h pos here =
      alive_referenced x here.core pos (omega (
        arith,
        release_held x h here,
        held-le-references_to (reference_of t h x) m.abstract.references,
      ))

-- The step puts its holder's reference in flight, and the duty that follows gives that up.
held_taken : (bag : List Reference) (t x : ℕ) (h : Holding) (rest later : List Duty)
    → list_any (same (reference_of t h x)) bag ≡ true
    → ((k : Holding) (object : ℕ) → extra_of later k object ≡ (same_holding InFlight k && (x == object)))
    → ((k : Holding) (object : ℕ) → lacks_of later k object ≡ false)
    → HeldStep bag (reference_of t InFlight x ∷ without (reference_of t h x) bag) t (ReleaseLoad x h ∷ rest) later
held_taken bag t x h rest later has more less = record {
  each = λ k object.
      let r = reference_of t k object in
      let lost : one_if (same r (reference_of t h x)) ≡ one_if (extra_of (ReleaseLoad x h ∷ rest) k object) =
      ap one_if (same_is t x h k object) in
      let gained : one_if (same r (reference_of t InFlight x)) ≡ one_if (extra_of later k object) =
      ap one_if (same_is t x InFlight k object ∙ sym (more k object)) in
      let c : one_if (lacks_of later k object) ≡ 0 = ap one_if (less k object) in
      omega (
        arith,
        held-cons r (reference_of t InFlight x) (without (reference_of t h x) bag),
        held-without r (reference_of t h x) bag has,
        lost,
        gained,
        c,
      );
}

held_passed_on : (m : Machine) (t x : ℕ) (h : Holding) (rest later : List Duty)
    → list_any (same (reference_of t h x)) m.abstract.references ≡ true
    → ((k : Holding) (object : ℕ) → extra_of later k object ≡ (same_holding InFlight k && (x == object)))
    → ((k : Holding) (object : ℕ) → lacks_of later k object ≡ false)
    → HeldStep m.abstract.references (moved m.abstract (put_in_flight t h x ++ [])).references t
    (ReleaseLoad x h ∷ rest) later
held_passed_on m t x (ByVariable depth v) rest later has more less =
    held_taken m.abstract.references t x (ByVariable depth v) rest later has more less
held_passed_on m t x AsCaller rest later has more less =
    held_taken m.abstract.references t x AsCaller rest later has more less
held_passed_on m t x InFlight rest later has more less =
    held_same m.abstract.references t (ReleaseLoad x InFlight ∷ rest) later more less

module _ {p : Accounts} {n : ℕ} {m : Machine} {t : ℕ} {a : Actor} {rest : List Duty} where
  -- `OwnerReleases` and `OtherReleases`: the object is counted.
  pub thread_after_release_counted : (x : ℕ) (h : Holding) → IsCounted m.layout x
      → AtDuty p n m t a (ReleaseLoad x h) rest → NotGone a → FitsAfter p m t a (ReleaseLoad x h) rest
  thread_after_release_counted x h pos here alive =
      let word = m.memory (Local x) in
      let d : Duty = ReleaseLoad x h in
      let living = release_alive x h pos here in
      let mortal = counted_word (block_of m.layout x) (numbers_of m x) living.live in
      let has = held_has (reference_of t h x) m.abstract.references (release_held x h here) in
      let bag : bag_by m t a d ≡ (moved m.abstract (put_in_flight t h x ++ [])).references =
      ap (λ (b : Bool). (moved m.abstract (put_in_flight t h x ++ cond b (lose t x) [])).references) mortal in
      let first : next_of m t a d ≡ cond (counts_locally t (is_running a.status) word) (ReleaseStore x word ∷ [])
      (SharedLoad x Own ∷ []) =
      ap (λ (b : Bool). cond b [] (cond (counts_locally t (is_running a.status) word) (ReleaseStore x word ∷ [])
      (SharedLoad x Own ∷ []))) mortal in
      let keeps : (e : Duty)
      → ((k : Holding) (object : ℕ) → extra_of (e ∷ rest) k object ≡ (same_holding InFlight k && (x == object)))
      → ((k : Holding) (object : ℕ) → lacks_of (e ∷ rest) k object ≡ false)
      → HeldStep m.abstract.references (bag_by m t a d) t (d ∷ rest) (e ∷ rest) =
      λ e more less. subst (λ (l : List Reference). HeldStep m.abstract.references l t (d ∷ rest) (e ∷ rest)) (sym bag)
      (held_passed_on m t x h rest (e ∷ rest) has more less) in
      let later = agenda_here here alive in
      elim (counts_locally t (is_running a.status) word)
      as (λ b. counts_locally t (is_running a.status) word ≡ b → FitsAfter p m t a d rest) [
        | true ↦ λ e.
            let owns = counts_owner m t a x e living in
            let some = count_above t x a here.core here.found owns (weight_here x here (eq-eqb x x refl) refl) living in
            let same_word : (machine_by_duty m t a d rest).memory (Local x) ≡ word = written_here m.memory
            (Local x) word in
            own_next (ReleaseStore x word) here alive refl refl refl
            (first ∙ ap (λ (b : Bool). cond b (ReleaseStore x word ∷ []) (SharedLoad x Own ∷ [])) e)
            (keeps (ReleaseStore x word) (λ k o. refl) (λ k o. refl)) later (λ b status head used locked. (
              pos,
              record {
                running = status ∙ owns.running;
                owner = ap owner_part same_word ∙ owns.owner;
                low = subst (λ (w : ℕ). local_part w < immortal_local) (sym same_word) owns.low;
              },
              same_word,
              some,
            ))
        | false ↦ λ e.
            own_next (SharedLoad x Own) here alive refl refl refl
            (first ∙ ap (λ (b : Bool). cond b (ReleaseStore x word ∷ []) (SharedLoad x Own ∷ [])) e)
            (keeps (SharedLoad x Own) (λ k o. refl) (λ k o. refl)) later (λ b status head used locked. pos)
      ] refl

-- ---- the owner's release

module _ {p : Accounts} {n : ℕ} {m : Machine} {t : ℕ} {a : Actor} {d : Duty} {rest : List Duty} where
  -- The step loses the reference in flight, which its duty gives up. The duties that follow give up nothing.
  pub held_let_go : (later : List Duty) (x : ℕ) → AtDuty p n m t a d rest
      → ((k : Holding) (object : ℕ) → extra_of (d ∷ rest) k object ≡ (same_holding InFlight k && (x == object)))
      → ((k : Holding) (object : ℕ) → lacks_of (d ∷ rest) k object ≡ false)
      → ((k : Holding) (object : ℕ) → extra_of later k object ≡ false)
      → ((k : Holding) (object : ℕ) → lacks_of later k object ≡ false)
      → HeldStep m.abstract.references (without (reference_of t InFlight x) m.abstract.references) t (d ∷ rest) later
  held_let_go later x here extra none more less =
      let some = extra_here InFlight x here (extra InFlight x ∙ eq-eqb x x refl) (none InFlight x) in
      held_lost m.abstract.references t x InFlight (d ∷ rest) later
      (held_has (reference_of t InFlight x) m.abstract.references some) extra none more less

module _ {p : Accounts} {n : ℕ} {m : Machine} {t : ℕ} {a : Actor} {rest : List Duty} where
  -- The thread fits after `LocalLowered` and `LocalReachesZero`.
  pub thread_after_release_store : (x w : ℕ) → AtDuty p n m t a (ReleaseStore x w) rest → NotGone a
      → FitsAfter p m t a (ReleaseStore x w) rest
  thread_after_release_store x w here alive =
      let d : Duty = ReleaseStore x w in
      let fits = head_of here in
      let lost : (later : List Duty) → ((k : Holding) (object : ℕ) → extra_of later k object ≡ false)
      → ((k : Holding) (object : ℕ) → lacks_of later k object ≡ false)
      → HeldStep m.abstract.references (bag_by m t a d) t (d ∷ rest) later =
      λ later more less. held_let_go later x here (λ k o. refl) (λ k o. refl) more less in
      let later = agenda_here here alive in
      elim (local_part w == 1) as (λ b. (local_part w == 1) ≡ b → FitsAfter p m t a d rest) [
        | true ↦ λ e.
            let one : local_part w ≡ 1 = eqb-true _ _ e in
            let down = owner_down w fits.3 in
            let now : (machine_by_duty m t a d rest).memory (Local x) ≡ w - 1 = written_here m.memory (Local x)
            (w - 1) in
            let zero_left : local_part (w - 1) ≡ 0 = omega (arith, down.1, one) in
            let owner : owner_part (w - 1) ≡ t + 1 = down.0 ∙ ap owner_part (sym fits.2) ∙ fits.1.owner in
            own_next (DecideAtZero x) here alive refl refl refl (ap (λ (b : Bool). cond b (DecideAtZero x ∷ []) []) e)
            (lost (DecideAtZero x ∷ rest) (λ k o. refl) (λ k o. refl)) later (λ b status head used locked. (
              fits.0,
              record {
                running = status ∙ fits.1.running;
                owner = ap owner_part now ∙ owner;
                low = subst (λ (v : ℕ). local_part v < immortal_local) (sym now) (omega (arith, zero_left));
              },
              ap local_part now ∙ zero_left,
            ))
        | false ↦ λ e.
            own_done here alive refl (ap (λ (b : Bool). cond b (DecideAtZero x ∷ []) []) e) later
            (lost [] (λ k o. refl) (λ k o. refl))
      ] refl

  -- ---- the owner decides

  -- The thread fits after `NothingShared` and `WasShared`.
  pub thread_after_decide_at_zero : (x : ℕ) → AtDuty p n m t a (DecideAtZero x) rest → NotGone a
      → FitsAfter p m t a (DecideAtZero x) rest
  thread_after_decide_at_zero x here alive =
      let word = m.memory (Shared x) in
      let d : Duty = DecideAtZero x in
      let fits = head_of here in
      let later = agenda_here here alive in
      elim (word == fresh_word) as (λ b. (word == fresh_word) ≡ b → FitsAfter p m t a d rest) [
        | true ↦ λ e.
            own_dying x here alive refl (record {
              next_is = ap (λ (b : Bool). cond b (Die x ∷ []) (MergeSwap x Own ∷ [])) e;
              counted = fits.0;
              lived = (decide_alive x here).life;
              held = held_same m.abstract.references t (d ∷ rest) (Die x ∷ rest) (λ k o. refl) (λ k o. refl);
              later = later;
            })
        | false ↦ λ e.
            own_next (MergeSwap x Own) here alive refl refl refl
            (ap (λ (b : Bool). cond b (Die x ∷ []) (MergeSwap x Own ∷ [])) e)
            (held_same m.abstract.references t (d ∷ rest) (MergeSwap x Own ∷ rest) (λ k o. refl) (λ k o. refl)) later
            (λ b status head used locked. (
              fits.0,
              record { running = status ∙ fits.1.running; owner = fits.1.owner; low = fits.1.low },
              fits.2,
            ))
      ] refl
