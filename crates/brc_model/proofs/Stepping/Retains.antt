-- A thread fits after the first step of a retain.
use Rattle.std.proofs.Common.{◌≡◌, ℕ, ◌+◌, ◌<◌, ◌≤◌, Bool, true, false, cond, List, [], ◌∷◌, Some, refl, sym, ap, ◌∙◌, subst, arith}
use Rattle.std.proofs.lemmas.Bool.{eq-eqb}
use Rattle.std.specs.Prelude.{◌==◌, ◌&&◌, nat_lt, slice_get}
use Rattle.std.proofs.lemmas.Bool.{eqb-true, ltb-true}
use Rattle.brc_model.specs.declared.duty.Holding.{Holding}
use Rattle.brc_model.specs.AbstractState.{Reference, same_holding, moved}
use Rattle.brc_word.specs.Words.{immortal_local, most_local, owner_part, local_part, is_immortal_word}
use Rattle.brc_model.specs.declared.duty.Duty.{Duty}
use Rattle.brc_model.specs.declared.duty.Duty.TheVariants.{RetainLoad, RetainStore, RetainAdd}
use Rattle.brc_model.specs.declared.address.Address.TheVariants.{Local}
use Rattle.brc_model.specs.Duties.{continuation, counts_locally}
use Rattle.brc_model.specs.declared.actor.Status.{Status}
use Rattle.brc_model.specs.declared.actor.Status.TheVariants.{Running, Leaving, Gone}
use Rattle.brc_model.specs.declared.actor.Actor.{Actor}
use Rattle.brc_model.specs.Machine.{Machine, is_running, machine_by_duty}
use Rattle.brc_model.specs.Moves.{gain}
use Rattle.brc_model.proofs.Basics.Lists.{and_first, and_second}
use Rattle.brc_model.specs.References.{held, reference_of}
use Rattle.brc_model.specs.RowInvariant.{decides, agenda_weight, weight, InOwned, InSwapped, InMerged, AtZero, AboveZero}
use Rattle.brc_model.specs.Accounts.{Accounts, extra_of, lacks_of}
use Rattle.brc_model.specs.OpenWork.{is_about}
use Rattle.brc_model.specs.Knowledge.{OwnsLocally, IsBacked}
use Rattle.brc_model.specs.Invariant.{AtDuty, CoreInvariant}
use Rattle.brc_model.proofs.Frame.Alive.{Alive, alive_backed}
use Rattle.brc_model.proofs.Frame.Known.{still_backed}
use Rattle.brc_model.proofs.Basics.Written.{written_here}
use Rattle.brc_model.proofs.Frame.Leaves.{head_of}
use Rattle.brc_model.proofs.Stepping.Own.{HeldStep}
use Rattle.brc_model.proofs.Stepping.FitsAfter.{bag_by, agenda_here, NotGone, FitsAfter}
use Rattle.brc_model.proofs.Stepping.Counts.{held_same, backed_not_immortal}
use Rattle.brc_model.proofs.Work.Weighing.{own_weighs}
use Rattle.brc_model.proofs.Frame.Aside.{decides_of_row}
use Rattle.brc_model.proofs.Work.Deciders.{nobody_decides}
use Rattle.brc_model.specs.Layout.{IsCounted}
use Rattle.brc_model.proofs.Stepping.Steps.{own_next}

-- ---- the local word of a live row

-- A thread that runs has the status of a running thread.
pub running_is : (status : Status) → is_running status ≡ true → status ≡ Running
running_is Running e = refl
running_is Leaving e = absurd cc
running_is Gone e = absurd cc

-- A thread that counts in the local word owns the row.
pub counts_owner : (m : Machine) (t : ℕ) (a : Actor) (x : ℕ)
    → counts_locally t (is_running a.status) (m.memory (Local x)) ≡ true → Alive m x → OwnsLocally m t a x
counts_owner m t a x counts alive =
    let owner : owner_part (m.memory (Local x)) ≡ t + 1 =
    eqb-true _ _ (and_second (is_running a.status) (owner_part (m.memory (Local x)) == t + 1) counts) in
    record {
      running = running_is a.status (and_first (is_running a.status) (owner_part (m.memory (Local x)) == t + 1) counts);
      owner = owner;
      low = elim alive.live.mode [
        | InOwned o ↦ o.low
        | InSwapped s ↦ absurd (omega (arith, s.local, owner))
        | InMerged s ↦ absurd (omega (arith, s.local, owner))
      ];
    }

module _ {p : Accounts} {n : ℕ} {m : Machine} where
  -- The running owner's local count is above 0 unless the owner is deciding about the row.
  pub count_above : (t x : ℕ) (a : Actor) → CoreInvariant p n m → slice_get m.actors t ≡ Some a → OwnsLocally m t a x
      → agenda_weight (decides x) a ≡ 0 → Alive m x → 1 ≤ local_part (m.memory (Local x))
  count_above t x a core found owns mine alive =
      let none : weight (decides x) m.actors ≡ 0 = nobody_decides t x a core found owns mine in
      elim alive.live.mode [
        | InOwned o ↦ elim o.decided [ AtZero z d ↦ absurd (omega (arith, none, d)) | AboveZero z d ↦ z ]
        | InSwapped s ↦ absurd (omega (arith, s.local, owns.owner))
        | InMerged s ↦ absurd (omega (arith, s.local, owns.owner))
      ]

module _ {p : Accounts} {n : ℕ} {m : Machine} {t : ℕ} {a : Actor} {d : Duty} {rest : List Duty} where
  -- If a thread's first duty is about the row and doesn't decide about it, none of its duties does.
  pub weight_here : (x : ℕ) → AtDuty p n m t a d rest → is_about x d ≡ true → decides x d ≡ 0
      → agenda_weight (decides x) a ≡ 0
  weight_here x here this none = own_weighs x (decides x) here (decides_of_row x) this ∙ none

retain_bag : (m : Machine) (t : ℕ) (a : Actor) (x : ℕ) (h : Holding) → is_immortal_word (m.memory (Local x)) ≡ false
    → bag_by m t a (RetainLoad x h) ≡ m.abstract.references
retain_bag m t a x h mortal = ap (λ (b : Bool). (moved m.abstract (cond b (gain t h x) [])).references) mortal

module _ {p : Accounts} {n : ℕ} {m : Machine} {t : ℕ} {a : Actor} {rest : List Duty} where
  -- `OwnerRetains`, `FullOwnerRetains` and `OtherRetains`: the object is counted.
  pub thread_after_retain_counted : (x : ℕ) (h : Holding) → IsCounted m.layout x
      → AtDuty p n m t a (RetainLoad x h) rest → NotGone a → FitsAfter p m t a (RetainLoad x h) rest
  thread_after_retain_counted x h pos here alive =
      let word = m.memory (Local x) in
      let fits = head_of here in
      let mortal = backed_not_immortal x h pos here in
      let living = alive_backed t a x here.core pos fits in
      let bag = retain_bag m t a x h mortal in
      let new = machine_by_duty m t a (RetainLoad x h) rest in
      let backed : (b : Actor) → b.locked ≡ a.locked → IsBacked new t b x =
      λ b locked. still_backed m new t a b x (λ k. omega (arith, ap (held (reference_of t k x)) bag))
      (λ y e. (locked ∙ e, record { kind = refl; cells = λ i. refl })) fits in
      let first : continuation m.layout t (is_running a.status) a.head (RetainLoad x h) word
      ≡ cond (counts_locally t (is_running a.status) word && nat_lt (local_part word) most_local)
      (RetainStore x h word ∷ []) (RetainAdd x h ∷ []) =
      ap (λ (b : Bool). cond b [] (cond
      (counts_locally t (is_running a.status) word && nat_lt (local_part word) most_local)
      (RetainStore x h word ∷ []) (RetainAdd x h ∷ []))) mortal in
      let keeps : (e : Duty) → ((k : Holding) (object : ℕ) → extra_of (e ∷ rest) k object ≡ false)
      → ((k : Holding) (object : ℕ) → lacks_of (e ∷ rest) k object ≡ (same_holding h k && (x == object)))
      → HeldStep m.abstract.references (bag_by m t a (RetainLoad x h)) t (RetainLoad x h ∷ rest) (e ∷ rest) =
      λ e more less. subst (λ (l : List Reference). HeldStep m.abstract.references l t (RetainLoad x h ∷ rest)
      (e ∷ rest)) (sym bag) (held_same m.abstract.references t (RetainLoad x h ∷ rest) (e ∷ rest) more less) in
      let is_local = counts_locally t (is_running a.status) word && nat_lt (local_part word) most_local in
      elim is_local as (λ b. is_local ≡ b → FitsAfter p m t a (RetainLoad x h) rest) [
        | true ↦ λ e.
            let counts =
            and_first (counts_locally t (is_running a.status) word) (nat_lt (local_part word) most_local) e in
            let low : local_part word < most_local =
            ltb-true _ _ (and_second (counts_locally t (is_running a.status) word)
            (nat_lt (local_part word) most_local) e) in
            let owns = counts_owner m t a x counts living in
            let some = count_above t x a here.core here.found owns (weight_here x here (eq-eqb x x refl) refl) living in
            let same : new.memory (Local x) ≡ word = written_here m.memory (Local x) word in
            own_next (RetainStore x h word) here alive refl refl refl
            (first ∙ ap (λ (b : Bool). cond b (RetainStore x h word ∷ []) (RetainAdd x h ∷ [])) e)
            (keeps (RetainStore x h word) (λ k o. refl) (λ k o. refl)) (agenda_here here alive)
            (λ b status head used locked. (
              pos,
              backed b locked,
              record {
                running = status ∙ owns.running;
                owner = ap owner_part same ∙ owns.owner;
                low = subst (λ (w : ℕ). local_part w < immortal_local) (sym same) owns.low;
              },
              same,
              some,
              low,
            ))
        | false ↦ λ e.
            own_next (RetainAdd x h) here alive refl refl refl
            (first ∙ ap (λ (b : Bool). cond b (RetainStore x h word ∷ []) (RetainAdd x h ∷ [])) e)
            (keeps (RetainAdd x h) (λ k o. refl) (λ k o. refl)) (agenda_here here alive)
            (λ b status head used locked. (pos, backed b locked))
      ] refl
