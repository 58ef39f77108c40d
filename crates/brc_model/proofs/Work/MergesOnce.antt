-- At most one thread merges a row. A thread that claimed the row's mark and finds no owner finds the row merged.
use Rattle.std.proofs.Common.{◌≡◌, ◌≢◌, ℕ, zero, suc, ◌+◌, ◌<◌, ◌≤◌, Bool, true, false, cond, List, [], ◌∷◌, ◌⊎◌, inl, inr, Some, refl, sym, ap, ◌∙◌, subst, arith}
use Rattle.std.specs.Prelude.{◌==◌, slice_get}
use Rattle.std.proofs.lemmas.Bool.{eq-eqb}
use Rattle.std.proofs.lemmas.Bool.Decides.{eqb_tells}
use Rattle.std.proofs.lemmas.List.Sums.{sum_by-cons}
use Rattle.brc_word.specs.declared.values.TheConstants.{NOBODY, MERGED}
use Rattle.brc_word.specs.Words.{phase_part}
use Rattle.brc_model.specs.declared.duty.Reason.{Reason}
use Rattle.brc_model.specs.declared.duty.Reason.TheVariants.{Own, Handed}
use Rattle.brc_model.specs.declared.duty.Duty.{Duty}
use Rattle.brc_model.specs.declared.duty.Duty.TheVariants.{MergeSwap, MergeLoad, MergeExchange}
use Rattle.brc_model.specs.declared.address.Address.TheVariants.{Local, Shared, ThreadWord}
use Rattle.brc_model.specs.declared.actor.Status.TheVariants.{Running}
use Rattle.brc_model.specs.declared.actor.Actor.{Actor}
use Rattle.brc_model.specs.Machine.{Machine}
use Rattle.brc_model.proofs.Basics.Lists.{some_is}
use Rattle.brc_model.specs.References.{one_if}
use Rattle.brc_model.specs.RowInvariant.{waits, carries, merges, agenda_weight, weight, Phased, IsDefault, IsQueued, InOwned, InSwapped, InMerged}
use Rattle.brc_model.specs.Accounts.{Accounts}
use Rattle.brc_model.specs.Invariant.{AtDuty, numbers_of, CoreInvariant}
use Rattle.brc_model.specs.Knowledge.{MayCarry, HeadFits, status_word}
use Rattle.brc_model.specs.OpenWork.{is_about}
use Rattle.brc_model.proofs.Work.HasDuties.{some_weighs}
use Rattle.brc_model.proofs.Frame.Alive.{first_weighs, Alive}
use Rattle.brc_model.proofs.Frame.Leaves.{head_of, claim_alive, merge_alive, merge_load_alive}
use Rattle.brc_model.proofs.Frame.Aside.{waits_of_row, carries_of_row, merges_of_row}
use Rattle.brc_model.proofs.Work.Weighing.{own_weighs, weighing}
use Rattle.brc_model.proofs.Objects.Weights.{agenda_weight-le, carries_nothing, none_carried}
use Rattle.brc_model.specs.Layout.{block_of}

-- ---- weights of two agendas

-- The agendas of two different threads weigh at most what all agendas together weigh.
two_weigh : (f : Duty → ℕ) (actors : List Actor) (t u : ℕ) (a b : Actor) → u ≢ t → slice_get actors t ≡ Some a
    → slice_get actors u ≡ Some b → agenda_weight f a + agenda_weight f b ≤ weight f actors
two_weigh f [] t u a b ne one two = absurd cc
two_weigh f (c ∷ rest) zero zero a b ne one two = absurd (ne refl)
two_weigh f (c ∷ rest) zero (suc u) a b ne one two =
    let this : agenda_weight f c ≡ agenda_weight f a = ap (agenda_weight f) (some_is c a one) in
    omega (arith, sum_by-cons (agenda_weight f) c rest, agenda_weight-le f rest u b two, this)
two_weigh f (c ∷ rest) (suc t) zero a b ne one two =
    let this : agenda_weight f c ≡ agenda_weight f b = ap (agenda_weight f) (some_is c b two) in
    omega (arith, sum_by-cons (agenda_weight f) c rest, agenda_weight-le f rest t a one, this)
two_weigh f (c ∷ rest) (suc t) (suc u) a b ne one two =
    omega (arith, sum_by-cons (agenda_weight f) c rest, two_weigh f rest t u a b (λ e. ne (ap suc e)) one two)

-- ---- merging threads

-- A thread that merges the row is its running owner, or has the pending decrement of a handed reference.
abbrev IsMerger : Machine → ℕ → Actor → ℕ → Type 0
IsMerger m u b x = ((b.status ≡ Running) × (block_of m.layout x ≡ u)) ⊎ (1 ≤ agenda_weight (waits x) b)

-- A merge of another row weighs nothing at this one.
at_other : (y x : ℕ) → (y == x) ≡ false → 0 < one_if (y == x) → ⊥
at_other y x other some = let none : one_if (y == x) ≡ 0 = ap one_if other in omega (arith, some, none)

merger_knows : (m : Machine) (u x : ℕ) (b : Actor) (d : Duty) (rest : List Duty) → HeadFits m u b d rest
    → 0 < merges x d → ((b.status ≡ Running) × (block_of m.layout x ≡ u)) ⊎ (1 ≤ waits x d)
merger_knows m u x b (MergeLoad y c Own) rest fits some =
    elim (eqb_tells y x) [
      | inl same ↦ inl (subst (λ (z : ℕ). MayCarry m u b z Own) same.1 fits.2)
      | inr other ↦ absurd (at_other y x other.0 some)
    ]
merger_knows m u x b (MergeExchange y c w Own) rest fits some =
    elim (eqb_tells y x) [
      | inl same ↦ inl (subst (λ (z : ℕ). MayCarry m u b z Own) same.1 fits.2)
      | inr other ↦ absurd (at_other y x other.0 some)
    ]
merger_knows m u x b (MergeLoad y c Handed) rest fits some = inr some
merger_knows m u x b (MergeExchange y c w Handed) rest fits some = inr some
merger_knows m u x b _ rest fits some = absurd (omega (arith, some))

module _ {p : Accounts} {n : ℕ} {m : Machine} where
  merger_of : (u x : ℕ) (b : Actor) → CoreInvariant p n m → slice_get m.actors u ≡ Some b
      → 0 < agenda_weight (merges x) b → IsMerger m u b x
  merger_of u x b core found some =
      let it = weighing u x b (merges x) (merges_of_row x) core found some in
      elim (merger_knows m u x b it.duty it.rest it.knows it.some) [
        | inl own ↦ inl own
        | inr waiting ↦ inr (omega (arith, it.among (waits x), waiting))
      ]

-- ---- claimants

module _ {p : Accounts} {n : ℕ} {m : Machine} {t : ℕ} {a : Actor} {rest : List Duty} where
  -- A thread that claimed a row's mark and another merging thread can't both exist: if the other is the running owner,
  -- the claim wasn't allowed; if it has a pending decrement too, there are two, and a row has one at most.
  claimants_clash : (u x : ℕ) (b : Actor) → AtDuty p n m t a (MergeSwap x Handed) rest → u ≢ t
      → slice_get m.actors u ≡ Some b → IsMerger m u b x → Phased (numbers_of m x) → ⊥
  claimants_clash u x b here ne found merger phased =
      elim merger [
        | inl own ↦ elim (head_of here).1 [
          | inl mine ↦ ne (sym own.1 ∙ mine)
          | inr stopped ↦
              stopped (ap (λ (z : ℕ). m.memory (ThreadWord z)) own.1 ∙ (here.core.each u b found).0.word
              ∙ ap status_word own.0)
        ]
        | inr theirs ↦
            let one : one_if (x == x) ≡ 1 = ap one_if (eq-eqb x x refl) in
            let mine : agenda_weight (waits x) a ≡ one_if (x == x) =
            own_weighs x (waits x) here (waits_of_row x) (eq-eqb x x refl) in
            let both = two_weigh (waits x) m.actors t u a b ne here.found found in
            elim phased [
              | IsDefault q w k ↦ absurd (omega (arith, mine, one, theirs, both, w))
              | IsQueued q w ↦ absurd (omega (arith, mine, one, theirs, both, w))
            ]
      ]

  -- While a thread that claimed a row's mark is about to merge the row, no other thread is merging it.
  claimed_alone : (x : ℕ) → AtDuty p n m t a (MergeSwap x Handed) rest → 0 < weight (merges x) m.actors
      → Phased (numbers_of m x) → ⊥
  claimed_alone x here some phased =
      let other = some_weighs (merges x) m.actors some in
      let none : agenda_weight (merges x) a ≡ 0 = own_weighs x (merges x) here (merges_of_row x) (eq-eqb x x refl) in
      let ne : other.who ≢ t = λ same.
      let which : agenda_weight (merges x) other.which ≡ agenda_weight (merges x) a =
      ap (agenda_weight (merges x)) (some_is other.which a
      (sym other.found ∙ ap (slice_get m.actors) same ∙ here.found)) in
      absurd (omega (arith, other.some, which, none)) in
      claimants_clash other.who x other.which here ne other.found
      (merger_of other.who x other.which here.core other.found other.some) phased

  -- If the local word is 0, a thread that claimed the row's mark finds the row merged.
  pub swapped_apart : (x : ℕ) → AtDuty p n m t a (MergeSwap x Handed) rest → m.memory (Local x) ≡ NOBODY
      → phase_part (m.memory (Shared x)) ≡ MERGED
  swapped_apart x here none =
      elim (claim_alive x here).live.mode [
        | InOwned o ↦ absurd (omega (arith, o.owned, none))
        | InSwapped s ↦ absurd (claimed_alone x here (omega (arith, s.merging)) s.phased)
        | InMerged s ↦ s.phase
      ]

-- ---- carried counts

-- If one thread does all merging of a row, that thread carries all that is carried of the row.
one_carries : (x : ℕ) (actors : List Actor) (t : ℕ) (a : Actor) → slice_get actors t ≡ Some a
    → weight (merges x) actors ≡ agenda_weight (merges x) a → weight (carries x) actors ≡ agenda_weight (carries x) a
one_carries x [] t a found one = absurd cc
one_carries x (b ∷ rest) zero a found one =
    let same : agenda_weight (merges x) b ≡ agenda_weight (merges x) a =
    ap (agenda_weight (merges x)) (some_is b a found) in
    let also : agenda_weight (carries x) b ≡ agenda_weight (carries x) a =
    ap (agenda_weight (carries x)) (some_is b a found) in
    omega (
      arith,
      sum_by-cons (agenda_weight (carries x)) b rest,
      also,
      none_carried x rest (omega (arith, sum_by-cons (agenda_weight (merges x)) b rest, same, one)),
    )
one_carries x (b ∷ rest) (suc t) a found one =
    let others = agenda_weight-le (merges x) rest t a found in
    let first : agenda_weight (carries x) b ≡ 0 =
    carries_nothing x b (omega (arith, sum_by-cons (agenda_weight (merges x)) b rest, others, one)) in
    omega (
      arith,
      sum_by-cons (agenda_weight (carries x)) b rest,
      first,
      one_carries x rest t a found (omega (arith, sum_by-cons (agenda_weight (merges x)) b rest, others, one)),
    )

module _ {p : Accounts} {n : ℕ} {m : Machine} {t : ℕ} {a : Actor} {d : Duty} {rest : List Duty} where
  -- The count carried of a row is the one in the duty that merges the row.
  carried_by : (x c : ℕ) → AtDuty p n m t a d rest → is_about x d ≡ true → merges x d ≡ 1 → carries x d ≡ c → Alive m x
      → weight (carries x) m.actors ≡ c
  carried_by x c here about one mine alive =
      let first = first_weighs (merges x) m.actors t a d rest here.found here.agenda in
      let all : weight (merges x) m.actors ≡ 1 = elim alive.live.mode [
        | InOwned o ↦ absurd (omega (arith, first, one, o.merging))
        | InSwapped s ↦ s.merging
        | InMerged s ↦ absurd (omega (arith, first, one, s.merging))
      ] in
      let whole = own_weighs x (merges x) here (merges_of_row x) about in
      let carry = own_weighs x (carries x) here (carries_of_row x) about in
      omega (arith, one_carries x m.actors t a here.found (omega (arith, all, whole, first, one)), carry, mine)

module _ {p : Accounts} {n : ℕ} {m : Machine} {t : ℕ} {a : Actor} {rest : List Duty} where
  -- `carried_by` at the load of a merge.
  pub carried_at_load : (x c : ℕ) (r : Reason) → AtDuty p n m t a (MergeLoad x c r) rest
      → weight (carries x) m.actors ≡ c
  carried_at_load x c r here =
      let itself = eq-eqb x x refl in
      carried_by x c here itself (ap one_if itself) (ap (λ (b : Bool). cond b c 0) itself) (merge_load_alive x c r here)

  -- `carried_by` at the exchange of a merge.
  pub carried_is : (x c w : ℕ) (r : Reason) → AtDuty p n m t a (MergeExchange x c w r) rest
      → weight (carries x) m.actors ≡ c
  carried_is x c w r here =
      let itself = eq-eqb x x refl in
      carried_by x c here itself (ap one_if itself) (ap (λ (b : Bool). cond b c 0) itself) (merge_alive x c w r here)
