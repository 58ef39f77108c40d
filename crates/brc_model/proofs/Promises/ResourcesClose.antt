-- The host is asked at most once to close a resource, and a lent resource is used by one thread alone.
use Rattle.std.proofs.Common.{◌≡◌, ℕ, ◌<◌, ◌≤◌, Bool, true, false, cond, List, [], ◌∷◌, inl, inr, Some, refl, ap, ◌∙◌, subst, arith}
use Rattle.std.specs.Prelude.{◌==◌, slice_get, sum_by}
use Rattle.std.proofs.lemmas.Bool.{eq-eqb}
use Rattle.std.proofs.lemmas.Bool.Decides.{eqb_tells}
use Rattle.std.proofs.lemmas.List.Sums.{sum_by-cons}
use Rattle.brc_lang.specs.declared.module.Module.{Module}
use Rattle.brc_lang.specs.Grammar.{IsModule}
use Rattle.brc_model.specs.Paths.{IsAcceptable}
use Rattle.brc_model.specs.declared.duty.Duty.{Duty}
use Rattle.brc_model.specs.declared.duty.Duty.TheVariants.{SettleEnd}
use Rattle.brc_model.specs.declared.address.Address.TheVariants.{KindOf, Resource}
use Rattle.brc_model.specs.Duties.{has_resource, resources_of}
use Rattle.brc_model.specs.declared.actor.Actor.{Actor}
use Rattle.brc_model.specs.Machine.{Life, Unborn, Live, Dying, Closed, Machine}
use Rattle.brc_model.specs.StepMachine.{StepMachine, counting}
use Rattle.brc_model.specs.Accounts.{Accounts}
use Rattle.brc_model.specs.References.{one_if}
use Rattle.brc_model.specs.RowInvariant.{weight}
use Rattle.brc_model.specs.Invariant.{CoreInvariant}
use Rattle.brc_model.specs.OpenWork.{dies_by}
use Rattle.brc_model.specs.Progress.{Always}
use Rattle.brc_model.specs.Resources.{ending, resources_at, ResourcesFit}
use Rattle.brc_model.specs.ResourceLaws.{IsGone, ByEnd, ByDuty, ResourcesCloseOnce, LentAreUsedAlone}
use Rattle.brc_model.proofs.Frame.Items.{one_locker}
use Rattle.brc_model.proofs.Objects.Finalisers.{waiting_weight, unfinalised}
use Rattle.brc_model.proofs.Objects.ResourcesElsewhere.{resources_low}
use Rattle.brc_model.proofs.Objects.ResourcesLent.{lent_leaves_none}
use Rattle.brc_model.proofs.Objects.SettlingWeights.{finalises, of_ending}
use Rattle.brc_model.specs.Knowledge.{BehindFits, AllBehind, BehindOf}
use Rattle.brc_model.proofs.Frame.Alive.{first_weighs}
use Rattle.brc_model.proofs.Work.HasDuties.{some_weighs}
use Rattle.brc_model.proofs.Keeping.CodeInvariant.{CodeInvariant}
use Rattle.brc_model.proofs.Promises.RowLaws.{always}

-- ---- which duties close a row

closes_first : (m : Machine) (t x : ℕ) (a : Actor) (d : Duty) (rest : List Duty) → slice_get m.actors t ≡ Some a
    → a.agenda ≡ d ∷ rest → 0 < ending x d → IsGone m x
closes_first m t x a (SettleEnd y) rest found is some =
    elim (eqb_tells y x) [
      | inl same ↦ ByDuty t a rest found (is ∙ ap (λ (z : ℕ). SettleEnd z ∷ rest) same.1)
      | inr other ↦ let none : one_if (y == x) ≡ 0 = ap one_if other.0 in absurd (omega (arith, some, none))
    ]
closes_first m t x a _ rest found is some = absurd (omega (arith, some))

-- A row that a thread closes after another duty has no resource: it is a list's.
behind_has_none : (m : Machine) (t x : ℕ) (d : Duty) → BehindFits m t d → 0 < ending x d
    → resources_of (m.memory (KindOf x)) ≡ 0
behind_has_none m t x (SettleEnd y) fits some =
    elim (eqb_tells y x) [
      | inl same ↦ subst (λ (z : ℕ). resources_of (m.memory (KindOf z)) ≡ 0) same.1 fits.4
      | inr other ↦ let none : one_if (y == x) ≡ 0 = ap one_if other.0 in absurd (omega (arith, some, none))
    ]
behind_has_none m t x _ fits some = absurd (omega (arith, some))

later_has_none : (m : Machine) (t x : ℕ) (ds : List Duty) → AllBehind m t ds → 0 < sum_by (ending x) ds
    → resources_of (m.memory (KindOf x)) ≡ 0
later_has_none m t x [] all some = absurd (omega (arith, some))
later_has_none m t x (d ∷ ds) all some =
    elim (eqb_tells (ending x d) 0) [
      | inl none ↦
          later_has_none m t x ds all.1 (omega (arith, some, sum_by-cons (ending x) d ds, none.1))
      | inr more ↦ behind_has_none m t x d all.0 (omega (arith, more.1))
    ]

-- So a thread that is to close a row with a resource closes it next.
closes_next : (m : Machine) (t x : ℕ) (a : Actor) (agenda : List Duty) → slice_get m.actors t ≡ Some a
    → a.agenda ≡ agenda → BehindOf m t agenda → 0 < sum_by (ending x) agenda
    → 0 < resources_of (m.memory (KindOf x)) → IsGone m x
closes_next m t x a [] found is behind some one = absurd (omega (arith, some))
closes_next m t x a (d ∷ rest) found is behind some one =
    elim (eqb_tells (ending x d) 0) [
      | inl none ↦
          absurd (let no = later_has_none m t x rest behind
          (omega (arith, some, sum_by-cons (ending x) d rest, none.1)) in
          omega (arith, no, one))
      | inr more ↦ closes_first m t x a d rest found is (omega (arith, more.1))
    ]

-- ---- closes

module _ (p : Accounts) (n : ℕ) (m : Machine) (x : ℕ) (core : CoreInvariant p n m) where
  -- If a thread is to close a row with a resource, it closes the row next.
  by_duty : 0 < weight (ending x) m.actors → 0 < resources_of (m.memory (KindOf x)) → IsGone m x
  by_duty weighs one =
      let it = some_weighs (ending x) m.actors weighs in
      let fits = core.each it.who it.which it.found in
      let aside =
      waiting_weight x (ending x) m it.who it.which it.which.aside (finalises x (ending x) (of_ending x)) fits.2.waits
      in
      closes_next m it.who x it.which it.which.agenda it.found refl fits.0.behind (omega (arith, it.some, aside)) one

  -- A row that isn't dying has no such duty.
  not_ending : ((u : ℕ) → dies_by (m.life x) u ≡ false) → weight (ending x) m.actors ≡ 0
  not_ending none = unfinalised p n m x (ending x) (finalises x (ending x) (of_ending x)) core none

  closed_low : (l : Life) → ResourcesFit l (resources_at m x) → m.memory (Resource x) ≤ 1
  closed_low Unborn fit = omega (arith, fit)
  closed_low Live fit = omega (arith, fit.1)
  closed_low (Dying t) fit = omega (arith, fit.placed, resources_low (m.memory (KindOf x)))
  closed_low Closed fit = omega (arith, fit.1, resources_low (m.memory (KindOf x)))

  some_resource : 0 < resources_of (m.memory (KindOf x)) → has_resource (m.memory (KindOf x)) ≡ true
  some_resource some =
      elim (has_resource (m.memory (KindOf x))) as
      (λ b. 0 < cond b 1 0 → b ≡ true) [
        | true ↦ λ e. refl
        | false ↦ λ e. absurd (omega (arith, e))
      ] some

  one_resource : has_resource (m.memory (KindOf x)) ≡ true → resources_of (m.memory (KindOf x)) ≡ 1
  one_resource has = ap (λ (b : Bool). cond b 1 0) has

  closed_gone : (l : Life) → m.life x ≡ l → ResourcesFit l (resources_at m x) → m.memory (Resource x) ≡ 1
      → (has_resource (m.memory (KindOf x)) ≡ true) × IsGone m x
  closed_gone Unborn is fit one = absurd (omega (arith, fit, one))
  closed_gone Live is fit one = absurd (omega (arith, fit.1, one))
  closed_gone (Dying t) is fit one = (
    some_resource (omega (arith, fit.placed, one)),
    elim (eqb_tells (weight (ending x) m.actors) 0) [
      | inl none ↦ absurd (let yet = fit.unclosed none.1 in omega (arith, yet, one))
      | inr more ↦ by_duty (omega (arith, more.1)) (omega (arith, fit.placed, one))
    ],
  )
  closed_gone Closed is fit one = (some_resource (omega (arith, fit.1, one)), ByEnd is)

  ending_closed : (l : Life) → m.life x ≡ l → ResourcesFit l (resources_at m x) → 0 < weight (ending x) m.actors
      → m.memory (Resource x) ≡ resources_of (m.memory (KindOf x))
  ending_closed Unborn is fit some =
      absurd (omega (arith, some, not_ending (λ u. ap (λ (l : Life). dies_by l u) is)))
  ending_closed Live is fit some =
      absurd (omega (arith, some, not_ending (λ u. ap (λ (l : Life). dies_by l u) is)))
  ending_closed (Dying t) is fit some = fit.shut some
  ending_closed Closed is fit some = fit.1

  gone_closed : IsGone m x → m.memory (Resource x) ≡ resources_of (m.memory (KindOf x))
  gone_closed (ByEnd is) =
      (subst (λ (l : Life). ResourcesFit l (resources_at m x)) is (core.resources x)).1
  gone_closed (ByDuty t a rest found is) =
      let one : one_if (x == x) ≡ 1 = ap one_if (eq-eqb x x refl) in
      ending_closed (m.life x) refl (core.resources x)
      (omega (arith, first_weighs (ending x) m.actors t a (SettleEnd x) rest found is, one))

once_in : (p : Module) (n : ℕ) (m : StepMachine) → CodeInvariant p n m → ResourcesCloseOnce m
once_in p n m whole =
    let core = whole.kept.core in
    let c = whole.accounts in
    record {
      at_most_once = λ x. closed_low c n (counting m) x core (m.life x) (core.resources x);
      once = λ x. (
        λ one. closed_gone c n (counting m) x core (m.life x) refl (core.resources x) one,
        λ gone. gone_closed c n (counting m) x core gone.1 ∙ one_resource c n (counting m) x core gone.0,
      );
    }

pub close_once : (p : Module) → IsModule p → IsAcceptable p → Always ResourcesCloseOnce p
close_once = always ResourcesCloseOnce once_in

-- ---- calls

alone_in : (p : Module) (n : ℕ) (m : StepMachine) → CodeInvariant p n m → LentAreUsedAlone m
alone_in p n m whole = λ t x has.
    let core = whole.kept.core in
    let c = whole.accounts in
    let locked = (core.each t has.0 has.1).0.lent x has.2 in
    record {
      field = lent_leaves_none c n (counting m) t has.0 x core has.1 has.2;
      alone = λ u other.
          one_locker c n (counting m) t has.0 u x other.0 core has.1 other.1
          ((core.each u other.0 other.1).0.lent x other.2) locked;
      locked = (has.0, has.1, locked);
    }

pub used_alone : (p : Module) → IsModule p → IsAcceptable p → Always LentAreUsedAlone p
used_alone = always LentAreUsedAlone alone_in
