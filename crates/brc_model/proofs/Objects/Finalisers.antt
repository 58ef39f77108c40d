-- What the duties that finalise a row weigh: nothing while the row isn't dying, and no more than the first duty of the
-- thread that finalises it.
use Rattle.std.proofs.Common.{◌≡◌, ℕ, ◌+◌, ◌≤◌, true, false, List, [], ◌∷◌, Some, refl, sym, ap, ◌∙◌, arith}
use Rattle.std.specs.Prelude.{slice_get, slice_set, sum_by}
use Rattle.std.proofs.lemmas.Bool.{ne_eqb}
use Rattle.std.proofs.lemmas.List.Sums.{sum_by-cons}
use Rattle.brc_model.specs.declared.duty.Duty.{Duty}
use Rattle.brc_model.specs.declared.duty.Duty.TheVariants.{Die}
use Rattle.brc_model.specs.declared.actor.Actor.{Actor}
use Rattle.brc_model.specs.Machine.{Life, Dying, Machine, idle_actor}
use Rattle.brc_model.specs.References.{one_if}
use Rattle.brc_model.specs.RowInvariant.{agenda_weight, weight}
use Rattle.brc_model.specs.Accounts.{Accounts}
use Rattle.brc_model.specs.OpenWork.{is_finalising, finalised, dies_by, may_wait, AllWait}
use Rattle.brc_model.specs.Invariant.{CoreInvariant, AtDuty}
use Rattle.brc_model.proofs.Basics.Bag.{one_if_low}
use Rattle.brc_model.proofs.Basics.Lists.{written_others}
use Rattle.brc_model.proofs.Objects.Weights.{weight-set}
use Rattle.brc_model.proofs.Stepping.Behind.{finalised_first}
use Rattle.brc_model.proofs.Work.Deciders.{sum_zero}

-- The weight counts duties that finalise the row alone, each at most once.
abbrev pub Finalises : ℕ → (Duty → ℕ) → Type 0
Finalises x f = (d : Duty) → f d ≤ one_if (is_finalising d x)

pub list_weight : (x : ℕ) (f : Duty → ℕ) → Finalises x f → (ds : List Duty) → sum_by f ds ≤ finalised ds x
list_weight x f few [] = omega arith
list_weight x f few (d ∷ ds) =
    omega (arith, sum_by-cons f d ds, few d, finalised_first d ds x, list_weight x f few ds)

waiting_finalises : (d : Duty) (x : ℕ) → may_wait d ≡ true → is_finalising d x ≡ false
waiting_finalises (Die y) x waits = absurd cc
waiting_finalises _ x waits = cc

-- The duties that a thread has put aside finalise nothing.
pub waiting_weight : (x : ℕ) (f : Duty → ℕ) (m : Machine) (t : ℕ) (a : Actor) (ds : List Duty) → Finalises x f
    → AllWait m t a ds → sum_by f ds ≡ 0
waiting_weight x f m t a [] few waits = refl
waiting_weight x f m t a (d ∷ ds) few waits =
    let none : one_if (is_finalising d x) ≡ 0 = ap one_if (waiting_finalises d x waits.0) in
    omega (arith, sum_by-cons f d ds, few d, none, waiting_weight x f m t a ds few waits.2)

module _ (p : Accounts) (n : ℕ) (m : Machine) (x : ℕ) (f : Duty → ℕ) (few : Finalises x f) where
  -- A thread weighs nothing at a row that it doesn't finalise.
  thread_weight : (u : ℕ) (b : Actor) → CoreInvariant p n m → slice_get m.actors u ≡ Some b
      → agenda_weight f b ≤ one_if (dies_by (m.life x) u)
  thread_weight u b core found =
      let fits = core.each u b found in
      omega (
        arith,
        list_weight x f few b.agenda,
        waiting_weight x f m u b b.aside few fits.2.waits,
        fits.0.chain.once x,
      )

  -- Nobody finalises a row that isn't dying.
  pub unfinalised : CoreInvariant p n m → ((u : ℕ) → dies_by (m.life x) u ≡ false) → weight f m.actors ≡ 0
  unfinalised core none =
      sum_zero (agenda_weight f) m.actors
      (λ u b found. let not : one_if (dies_by (m.life x) u) ≡ 0 = ap one_if (none u) in
      omega (arith, thread_weight u b core found, not))

  -- The first duty of the thread that finalises the row weighs all.
  pub finalised_alone : (t : ℕ) (a : Actor) (d : Duty) (rest : List Duty) → AtDuty p n m t a d rest
      → is_finalising d x ≡ true → m.life x ≡ Dying t → weight f m.actors ≡ f d
  finalised_alone t a d rest here this dies =
      let fits = here.core.each t a here.found in
      let idle = idle_actor 0 in
      let others : weight f (slice_set m.actors t idle) ≡ 0 =
      sum_zero (agenda_weight f) (slice_set m.actors t idle)
      (written_others (λ u b. agenda_weight f b ≡ 0) m.actors t a idle here.found refl
      (λ u b ne found. let not : one_if (dies_by (m.life x) u) ≡ 0 =
      ap (λ (l : Life). one_if (dies_by l u)) dies ∙ ap one_if (ne_eqb t u (λ e. ne (sym e))) in
      omega (arith, thread_weight u b here.core found, not))) in
      let one : one_if (is_finalising d x) ≡ 1 = ap one_if this in
      let agenda : sum_by f a.agenda ≡ f d + sum_by f rest = ap (sum_by f) here.agenda ∙ sum_by-cons f d rest in
      let all : finalised a.agenda x ≡ one_if (is_finalising d x) + finalised rest x =
      ap (λ (l : List Duty). finalised l x) here.agenda ∙ finalised_first d rest x in
      omega (
        arith,
        weight-set f m.actors t a idle here.found,
        others,
        one,
        agenda,
        all,
        fits.0.chain.once x,
        one_if_low (dies_by (m.life x) t),
        list_weight x f few rest,
        waiting_weight x f m t a a.aside few fits.2.waits,
      )
