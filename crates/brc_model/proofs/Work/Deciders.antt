-- Only a row's running owner decides about it.
use Rattle.std.proofs.Common.{◌≡◌, ℕ, suc, ◌<◌, List, [], ◌∷◌, inl, inr, Some, refl, sym, ap, ◌∙◌, subst, arith}
use Rattle.std.specs.Prelude.{◌==◌, slice_get, sum_by}
use Rattle.std.proofs.lemmas.Bool.{eq-eqb}
use Rattle.std.proofs.lemmas.Bool.Decides.{eqb_tells}
use Rattle.std.proofs.lemmas.List.Sums.{sum_by-cons}
use Rattle.brc_model.specs.declared.duty.Reason.TheVariants.{Own, Handed}
use Rattle.brc_model.specs.declared.duty.Duty.{Duty}
use Rattle.brc_model.specs.declared.duty.Duty.TheVariants.{DecideAtZero, MergeSwap}
use Rattle.brc_model.specs.declared.address.Address.TheVariants.{ThreadWord}
use Rattle.brc_model.specs.declared.actor.Actor.{Actor}
use Rattle.brc_model.specs.Machine.{Machine}
use Rattle.brc_model.proofs.Basics.Lists.{some_is}
use Rattle.brc_model.specs.References.{one_if}
use Rattle.brc_model.specs.RowInvariant.{decides, agenda_weight, weight, IsLive, InOwned, InSwapped, InMerged}
use Rattle.brc_model.specs.Accounts.{Accounts}
use Rattle.brc_model.specs.Invariant.{AtDuty, numbers_of, CoreInvariant}
use Rattle.brc_model.specs.Knowledge.{OwnsLocally, MayMerge, HeadFits, status_word}
use Rattle.brc_model.proofs.Work.HasDuties.{some_weighs}
use Rattle.brc_model.proofs.Frame.Aside.{decides_of_row}
use Rattle.brc_model.proofs.Work.Weighing.{own_weighs, weighing}
use Rattle.brc_model.specs.Layout.{block_of}

-- A thread that decides about a row runs and owns the row.
duty_owns : (m : Machine) (u x : ℕ) (b : Actor) (d : Duty) (rest : List Duty) → HeadFits m u b d rest
    → 0 < decides x d → OwnsLocally m u b x
duty_owns m u x b (DecideAtZero y) rest fits some =
    elim (eqb_tells y x) [
      | inl same ↦ subst (OwnsLocally m u b) same.1 fits.1
      | inr other ↦ let none : one_if (y == x) ≡ 0 = ap one_if other.0 in absurd (omega (arith, some, none))
    ]
duty_owns m u x b (MergeSwap y Own) rest fits some =
    elim (eqb_tells y x) [
      | inl same ↦ subst (OwnsLocally m u b) same.1 fits.1
      | inr other ↦ let none : one_if (y == x) ≡ 0 = ap one_if other.0 in absurd (omega (arith, some, none))
    ]
duty_owns m u x b _ rest fits some = absurd (omega (arith, some))

module _ {p : Accounts} {n : ℕ} {m : Machine} where
  -- A thread that decides about a row runs and owns the row.
  pub decider_owns : (u x : ℕ) (b : Actor) → CoreInvariant p n m → slice_get m.actors u ≡ Some b
      → 0 < agenda_weight (decides x) b → OwnsLocally m u b x
  decider_owns u x b core found some =
      let it = weighing u x b (decides x) (decides_of_row x) core found some in
      duty_owns m u x b it.duty it.rest it.knows it.some

pub sum_zero : (f : Actor → ℕ) (actors : List Actor) → ((u : ℕ) (b : Actor) → slice_get actors u ≡ Some b → f b ≡ 0)
    → sum_by f actors ≡ 0
sum_zero f [] none = refl
sum_zero f (b ∷ rest) none =
    omega (arith, sum_by-cons f b rest, none 0 b refl, sum_zero f rest (λ u c is. none (suc u) c is))

module _ {p : Accounts} {n : ℕ} {m : Machine} where
  -- If the row's running owner isn't deciding about the row, no thread is.
  pub nobody_decides : (t x : ℕ) (a : Actor) → CoreInvariant p n m → slice_get m.actors t ≡ Some a → OwnsLocally m t a x
      → agenda_weight (decides x) a ≡ 0 → weight (decides x) m.actors ≡ 0
  nobody_decides t x a core found owns mine = sum_zero (agenda_weight (decides x)) m.actors (λ u b is.
      elim (eqb_tells (agenda_weight (decides x) b) 0) [
        | inl none ↦ none.1
        | inr more ↦
            let other = decider_owns u x b core is (omega (arith, more.1)) in
            let who : u ≡ t = omega (arith, other.owner, owns.owner) in
            let which : b ≡ a = some_is b a (sym is ∙ ap (slice_get m.actors) who ∙ found) in
            ap (agenda_weight (decides x)) which ∙ mine
      ])

-- ---- a claimed mark

-- A thread that decides about a row is the thread of the row's block.
decider_is_owner : (m : Machine) (u : ℕ) (b : Actor) (x : ℕ) → OwnsLocally m u b x
    → IsLive (block_of m.layout x) (numbers_of m x) → 0 < weight (decides x) m.actors → u ≡ block_of m.layout x
decider_is_owner m u b x owns live some =
    elim live.mode [
      | InOwned o ↦ omega (arith, o.owned, owns.owner)
      | InSwapped w ↦ absurd (omega (arith, w.deciding, some))
      | InMerged w ↦ absurd (omega (arith, w.deciding, some))
    ]

module _ {p : Accounts} {n : ℕ} {m : Machine} {t : ℕ} {a : Actor} {rest : List Duty} where
  -- While a thread that claimed a row's mark is about to merge the row, no thread decides about the row.
  pub none_decides : (y : ℕ) → AtDuty p n m t a (MergeSwap y Handed) rest → MayMerge m t y
      → IsLive (block_of m.layout y) (numbers_of m y) → weight (decides y) m.actors ≡ 0
  none_decides y here may live =
      elim (eqb_tells (weight (decides y) m.actors) 0) [
        | inl none ↦ none.1
        | inr more ↦
            let some : 0 < weight (decides y) m.actors = omega (arith, more.1) in
            let it = some_weighs (decides y) m.actors some in
            let owns = decider_owns it.who y it.which here.core it.found it.some in
            let owner = decider_is_owner m it.who it.which y owns live some in
            elim may [
              | inl mine ↦
                  let at : it.who ≡ t = owner ∙ mine in
                  let which : it.which ≡ a =
                  some_is it.which a (sym it.found ∙ ap (slice_get m.actors) at ∙ here.found) in
                  let same = ap (agenda_weight (decides y)) which in
                  let own = own_weighs y (decides y) here (decides_of_row y) (eq-eqb y y refl) in
                  absurd (omega (arith, it.some, same, own))
              | inr stopped ↦
                  absurd (stopped (ap (λ (u : ℕ). m.memory (ThreadWord u)) (sym owner)
                  ∙ (here.core.each it.who it.which it.found).0.word ∙ ap status_word owns.running))
            ]
      ]
