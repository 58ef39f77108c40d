-- What the agendas of all threads weigh after one thread's step.
use Rattle.std.proofs.Common.{◌≡◌, ℕ, zero, ◌+◌, ◌≤◌, true, false, cond, List, [], ◌∷◌, ◌++◌, Some, get_or, refl, ap, ◌∙◌, arith}
use Rattle.std.specs.Prelude.{◌==◌, sum_by, slice_get, slice_set}
use Rattle.std.proofs.lemmas.Option.{slice_get_within, get_or_from_slice_get}
use Rattle.std.proofs.lemmas.List.Sums.{sum_by-cons, sum_by-append, sum_by-set, get_or-le-sum_by}
use Rattle.brc_model.specs.declared.duty.Duty.{Duty}
use Rattle.brc_model.specs.declared.duty.Duty.TheVariants.{MergeLoad, MergeExchange, Settle, Scan, TakeFound}
use Rattle.brc_model.specs.Duties.{address_of, continuation, new_head, ready}
use Rattle.brc_model.specs.declared.actor.Actor.{Actor}
use Rattle.brc_model.specs.Machine.{Machine, is_running, machine_by_duty}
use Rattle.brc_model.specs.References.{one_if}
use Rattle.brc_model.specs.RowInvariant.{waits, carries, merges, decides, agenda_weight, weight}

-- ---- duties that `ready` skips weigh nothing

-- The weight is 0 for the duties that `ready` can skip: settling, and looking through marks.
pub record IsLight (f : Duty → ℕ) : Type 0 where
  pub settle : f Settle ≡ 0
  pub scan : (w n : ℕ) → f (Scan w n) ≡ 0
  pub take : (w marks : ℕ) → f (TakeFound w marks) ≡ 0

without_weight : (f : Duty → ℕ) (d : Duty) (ds : List Duty) → f d ≡ 0 → sum_by f ds ≡ sum_by f (d ∷ ds)
without_weight f d ds none = omega (arith, sum_by-cons f d ds, none)

pub sum_by-ready : (f : Duty → ℕ) → IsLight f → (head : ℕ) (ds : List Duty) → sum_by f (ready head ds) ≡ sum_by f ds
sum_by-ready f light zero (Settle ∷ rest) = sum_by-ready f light zero rest ∙ without_weight f Settle rest light.settle
sum_by-ready f light head (Scan x zero ∷ rest) =
    sum_by-ready f light head rest ∙ without_weight f (Scan x zero) rest (light.scan x zero)
sum_by-ready f light head (TakeFound w zero ∷ rest) =
    sum_by-ready f light head rest ∙ without_weight f (TakeFound w zero) rest (light.take w zero)
sum_by-ready f light _ _ = cc

-- ---- one agenda changes

pub weight-set : (f : Duty → ℕ) (actors : List Actor) (t : ℕ) (a b : Actor) → slice_get actors t ≡ Some a
    → weight f (slice_set actors t b) + agenda_weight f a ≡ weight f actors + agenda_weight f b
weight-set f actors t a b is =
    let this : agenda_weight f (get_or actors t a) ≡ agenda_weight f a =
    ap (agenda_weight f) (get_or_from_slice_get actors t a a is) in
    omega (arith, sum_by-set (agenda_weight f) actors t b a (slice_get_within actors t a is), this)

pub agenda_weight-le : (f : Duty → ℕ) (actors : List Actor) (t : ℕ) (a : Actor) → slice_get actors t ≡ Some a
    → agenda_weight f a ≤ weight f actors
agenda_weight-le f actors t a is =
    let this : agenda_weight f (get_or actors t a) ≡ agenda_weight f a =
    ap (agenda_weight f) (get_or_from_slice_get actors t a a is) in
    omega (arith, get_or-le-sum_by (agenda_weight f) actors t a (slice_get_within actors t a is), this)

-- A step replaces the weight of its duty by the weight of the duties that follow.
pub weight-stepped : (f : Duty → ℕ) → IsLight f
    → (actors : List Actor) (t : ℕ) (a b : Actor) (d : Duty) (next rest : List Duty) (head : ℕ)
    → slice_get actors t ≡ Some a
    → a.agenda ≡ d ∷ rest → b.agenda ≡ ready head (next ++ rest) → b.aside ≡ a.aside
    → weight f (slice_set actors t b) + f d ≡ weight f actors + sum_by f next
weight-stepped f light actors t a b d next rest head is before after same =
    let old : sum_by f a.agenda ≡ f d + sum_by f rest = ap (sum_by f) before ∙ sum_by-cons f d rest in
    let beside : sum_by f b.aside ≡ sum_by f a.aside = ap (sum_by f) same in
    let new : sum_by f b.agenda ≡ sum_by f next + sum_by f rest =
    ap (sum_by f) after ∙ sum_by-ready f light head (next ++ rest) ∙ sum_by-append f next rest in
    omega (arith, weight-set f actors t a b is, old, new, beside)

-- ---- the four weights after a step

pub record Weighed (before after : Machine) (x : ℕ) (d : Duty) (next : List Duty) : Type 0 where
  pub waiting : weight (waits x) after.actors + waits x d ≡ weight (waits x) before.actors + sum_by (waits x) next
  pub carried : weight (carries x) after.actors + carries x d ≡ weight (carries x) before.actors
      + sum_by (carries x) next
  pub merging : weight (merges x) after.actors + merges x d ≡ weight (merges x) before.actors + sum_by (merges x) next
  pub deciding : weight (decides x) after.actors + decides x d ≡ weight (decides x) before.actors
      + sum_by (decides x) next

light : (f : Duty → ℕ) → f Settle ≡ 0 → ((w n : ℕ) → f (Scan w n) ≡ 0)
    → ((w marks : ℕ) → f (TakeFound w marks) ≡ 0) → IsLight f
light f settle scan take = record { settle = settle; scan = scan; take = take }

pub weighed_after : (m : Machine) (t : ℕ) (a : Actor) (d : Duty) (rest next : List Duty) → slice_get m.actors t ≡ Some a
    → a.agenda ≡ d ∷ rest
    → continuation m.layout t (is_running a.status) a.head d (m.memory (address_of m.layout t a.head d)) ≡ next
    → (x : ℕ)
    → Weighed m (machine_by_duty m t a d rest) x d next
weighed_after m t a d rest next is agenda follows x =
    let found = m.memory (address_of m.layout t a.head d) in
    let head = new_head a.head d found in
    let now : ready head (continuation m.layout t (is_running a.status) a.head d found ++ rest) ≡ ready head
    (next ++ rest) =
    ap (λ (ds : List Duty). ready head (ds ++ rest)) follows in
    record {
      waiting =
          weight-stepped (waits x) (light (waits x) refl (λ w n. refl)
          (λ w n. refl)) m.actors t a _ d next rest head is agenda now
          refl;
      carried =
          weight-stepped (carries x) (light (carries x) refl (λ w n. refl)
          (λ w n. refl)) m.actors t a _ d next rest head is agenda
          now refl;
      merging =
          weight-stepped (merges x) (light (merges x) refl (λ w n. refl)
          (λ w n. refl)) m.actors t a _ d next rest head is agenda
          now refl;
      deciding =
          weight-stepped (decides x) (light (decides x) refl (λ w n. refl)
          (λ w n. refl)) m.actors t a _ d next rest head is agenda
          now refl;
    }

-- ---- nothing is carried unless a thread merges

sum_none : {X : Type 0} (f g : X → ℕ) → ((x : X) → f x ≡ 0 → g x ≡ 0) → (xs : List X) → sum_by f xs ≡ 0
    → sum_by g xs ≡ 0
sum_none f g each [] none = refl
sum_none f g each (x ∷ xs) none =
    let sum = sum_by-cons f x xs in
    let this : g x ≡ 0 = each x (omega (arith, sum, none)) in
    let others : sum_by g xs ≡ 0 = sum_none f g each xs (omega (arith, sum, none)) in
    omega (arith, sum_by-cons g x xs, this, others)

carried_if : (y x c : ℕ) → one_if (y == x) ≡ 0 → cond (y == x) c 0 ≡ 0
carried_if y x c none = elim (y == x) as (λ b. one_if b ≡ 0 → cond b c 0 ≡ 0) [
  | true ↦ λ e. absurd (omega (arith, e))
  | false ↦ λ e. refl
] none

carries_none : (x : ℕ) (d : Duty) → merges x d ≡ 0 → carries x d ≡ 0
carries_none x (MergeLoad y c r) none = carried_if y x c none
carries_none x (MergeExchange y c w r) none = carried_if y x c none
carries_none x d none = refl

pub carries_nothing : (x : ℕ) (a : Actor) → agenda_weight (merges x) a ≡ 0 → agenda_weight (carries x) a ≡ 0
carries_nothing x a none =
    omega (
      arith,
      sum_none (merges x) (carries x) (carries_none x) a.agenda (omega (arith, none)),
      sum_none (merges x) (carries x) (carries_none x) a.aside (omega (arith, none)),
    )

pub none_carried : (x : ℕ) (actors : List Actor) → weight (merges x) actors ≡ 0 → weight (carries x) actors ≡ 0
none_carried x actors none =
    sum_none (agenda_weight (merges x)) (agenda_weight (carries x)) (carries_nothing x) actors none
