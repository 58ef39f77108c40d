-- Which threads have a row's resource lent: only the one that has locked the row.
use Rattle.std.proofs.Common.{◌≡◌, ◌≢◌, ℕ, ◌+◌, ◌≤◌, true, false, List, get_or, Option, None, Some, refl, sym, ap, ◌∙◌, arith, subst, inl, inr}
use Rattle.std.specs.Prelude.{slice_get, slice_set}
use Rattle.std.proofs.lemmas.Bool.{eqb-true, eq-eqb, cases_Bool, false≢true}
use Rattle.std.proofs.lemmas.Option.{slice_get_within, get_or_from_slice_get}
use Rattle.std.proofs.lemmas.List.Sums.{sum_by-set, get_or-le-sum_by}
use Rattle.brc_model.specs.SlotStates.{names}
use Rattle.brc_model.specs.declared.actor.Actor.{Actor}
use Rattle.brc_model.specs.Machine.{Live, Machine, Life}
use Rattle.brc_model.specs.References.{one_if}
use Rattle.brc_model.specs.Accounts.{Accounts}
use Rattle.brc_model.specs.Invariant.{CoreInvariant}
use Rattle.brc_model.specs.Resources.{lends, lenders, resources_at, ResourcesFit}
use Rattle.brc_model.proofs.Basics.Lists.{some_is, none_some}
use Rattle.brc_model.proofs.Frame.Leaves.{locked_lives}
use Rattle.brc_model.proofs.Frame.Items.{one_locker}
use Rattle.brc_model.proofs.Work.Deciders.{sum_zero}
use Rattle.brc_model.proofs.Frame.Kinds.{resource_counted}
use Rattle.brc_model.specs.Layout.{is_immortal_row}
use Rattle.brc_model.specs.Duties.{has_resource, resources_of}
use Rattle.brc_model.specs.declared.address.Address.TheVariants.{KindOf}

pub names_is : (o : Option ℕ) (x : ℕ) → names o x ≡ true → o ≡ Some x
names_is None x named = absurd cc
names_is (Some y) x named = ap Some (sym (eqb-true x y named))

pub is_named : (o : Option ℕ) (x : ℕ) → o ≡ Some x → one_if (names o x) ≡ 1
is_named o x is = ap (λ (w : Option ℕ). one_if (names w x)) is ∙ ap one_if (eq-eqb x x refl)

pub none_named : (o : Option ℕ) (x : ℕ) → o ≡ None → one_if (names o x) ≡ 0
none_named o x is = ap (λ (w : Option ℕ). one_if (names w x)) is

-- ---- one thread changes

pub lenders-set : (x : ℕ) (actors : List Actor) (t : ℕ) (a b : Actor) → slice_get actors t ≡ Some a
    → lenders x (slice_set actors t b) + lends x a ≡ lenders x actors + lends x b
lenders-set x actors t a b is =
    let this : lends x (get_or actors t a) ≡ lends x a = ap (lends x) (get_or_from_slice_get actors t a a is) in
    omega (arith, sum_by-set (lends x) actors t b a (slice_get_within actors t a is), this)

pub lends-le : (x : ℕ) (actors : List Actor) (t : ℕ) (a : Actor) → slice_get actors t ≡ Some a
    → lends x a ≤ lenders x actors
lends-le x actors t a is =
    let this : lends x (get_or actors t a) ≡ lends x a = ap (lends x) (get_or_from_slice_get actors t a a is) in
    omega (arith, get_or-le-sum_by (lends x) actors t a (slice_get_within actors t a is), this)

-- ---- who lends

module _ (p : Accounts) (n : ℕ) (m : Machine) (x : ℕ) where
  -- The resource of a row that doesn't live isn't lent.
  pub none_lent : CoreInvariant p n m → m.life x ≢ Live → lenders x m.actors ≡ 0
  none_lent core dead = sum_zero (lends x) m.actors (λ u b found.
      elim (names b.lent x) as (λ c. names b.lent x ≡ c → one_if c ≡ 0) [
        | true ↦ λ e.
            let locked = (core.each u b found).0.lent x (names_is b.lent x e) in
            absurd (dead (locked_lives u b x core found locked))
        | false ↦ λ e. refl
      ] refl)

  -- If the thread that has locked the row has lent nothing, nobody has the row's resource lent.
  pub locker_alone : (t : ℕ) (a : Actor) → CoreInvariant p n m → slice_get m.actors t ≡ Some a → a.locked ≡ Some x
      → a.lent ≡ None → lenders x m.actors ≡ 0
  locker_alone t a core found locked unlent =
      sum_zero (lends x) m.actors (λ u b is.
      elim (names b.lent x) as (λ c. names b.lent x ≡ c → one_if c ≡ 0) [
        | true ↦ λ e.
            let lent = names_is b.lent x e in
            let same : u ≡ t = one_locker p n m t a u x b core found is ((core.each u b is).0.lent x lent) locked in
            let which : b ≡ a = some_is b a (sym is ∙ ap (slice_get m.actors) same ∙ found) in
            absurd (none_some x (sym unlent ∙ ap (λ (c : Actor). c.lent) (sym which) ∙ lent))
        | false ↦ λ e. refl
      ] refl)

  -- An immortal object has no resource that could be lent.
  pub immortal_unlent : CoreInvariant p n m → is_immortal_row m.layout x ≡ true → lenders x m.actors ≡ 0
  immortal_unlent core immortal =
      let placed : ResourcesFit Live (resources_at m x) =
      subst (λ (l : Life). ResourcesFit l (resources_at m x)) (core.immortals_live x immortal) (core.resources x) in
      let none : resources_of (m.memory (KindOf x)) ≡ 0 =
      elim (cases_Bool (has_resource (m.memory (KindOf x)))) [
        | inl some ↦
            absurd (false≢true (sym (resource_counted x core some) ∙ immortal))
        | inr none ↦ ap one_if none
      ] in
      omega (arith, placed.0, none)
