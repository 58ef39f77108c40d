-- A ready thread begins to lock an object, to unlock the one that it has locked, or to load a cell of it.
use Rattle.std.proofs.Common.{◌≡◌, ℕ, ◌<◌, ◌≤◌, false, [], ◌∷◌, inl, inr, Some, refl, ap, subst, arith}
use Rattle.std.specs.Prelude.{◌⊎◌}
use Rattle.brc_model.specs.declared.duty.Holding.{Holding}
use Rattle.brc_model.specs.declared.duty.Holding.TheVariants.{AsCaller}
use Rattle.brc_model.specs.declared.duty.Duty.{Duty}
use Rattle.brc_model.specs.declared.duty.Duty.TheVariants.{LockGate, UnlockGate, CellLoad}
use Rattle.brc_model.specs.Layout.{row_count}
use Rattle.brc_model.specs.declared.actor.Actor.{Actor}
use Rattle.brc_model.specs.Machine.{Machine, with_actor}
use Rattle.brc_model.specs.References.{one_if}
use Rattle.brc_model.specs.Accounts.{Accounts, lacks, extra}
use Rattle.brc_model.specs.Knowledge.{IsBacked, ByReference, MayRead, GuardsCells, HeadFits}
use Rattle.brc_model.specs.Invariant.{CoreInvariant}
use Rattle.brc_model.specs.Ranges.{cells_named}
use Rattle.brc_model.specs.Counting.{Counts, working, IsReady, HasNoneAbout}
use Rattle.brc_model.specs.CountingLaws.{IsFirstOfChain, LocksBegin, UnlocksBegin, CellLoadsBegin}
use Rattle.brc_model.proofs.Limits.Ranges.{row_small}
use Rattle.brc_model.proofs.Keeping.Replaced.{with_account_itself}
use Rattle.brc_model.proofs.Keeping.WorkBegins.{ready_holds, none_about_held, held_row, backed_still, BeginsWork, work_begins}
use Rattle.brc_model.proofs.Keeping.AloneBegins.{same_locks, looks_still}
use Rattle.brc_model.proofs.Keeping.FirstOfChain.{first_chained, chained_row}

-- ---- work that makes and gives up no reference

module _ {p : Accounts} {n : ℕ} {m : Machine} {t : ℕ} {a : Actor} where
  -- A ready thread takes up such work about an object that has a row.
  look_begins : (x : ℕ) (d : Duty) → Counts p n m → IsReady m t a → HasNoneAbout a x → x < row_count m.layout
      → BeginsWork x d → ((k : Holding) (y : ℕ) → lacks d k y ≡ false)
      → ((k : Holding) (y : ℕ) → extra d k y ≡ false) → cells_named d ≤ m.layout.cells
      → HeadFits (with_actor m t (working a (d ∷ []) a.aside)) t (working a (d ∷ []) a.aside) d []
      → Counts p n (with_actor m t (working a (d ∷ []) a.aside))
  look_begins x d counts ready alone there begins no_lack no_extra few knows =
      let core = counts.kept.core in
      let holds = ready_holds core ready in
      subst (λ (q : Accounts). Counts q n (with_actor m t (working a (d ∷ []) a.aside))) (with_account_itself p t)
      (work_begins x d (p t) counts ready alone (record {
        begins = begins;
        no_flight = counts.no_flight t;
        holds = λ k object.
            omega (
              arith,
              holds.each k object,
              ap one_if (no_lack k object),
              ap one_if (no_extra k object),
            );
        bounded = (core.each t a ready.found).0.bounded;
        locks = same_locks (p t) m t a d (core.each t a ready.found).0.locks no_lack;
        knows = knows;
        small = row_small m.layout x d there begins.about few;
      }))

  -- A reference that the thread holds as the caller backs the object, while new work begins.
  held_backs : (x : ℕ) (d : Duty) → CoreInvariant p n m → IsReady m t a → HasNoneAbout a x → 1 ≤ p t AsCaller x
      → IsBacked (with_actor m t (working a (d ∷ []) a.aside)) t (working a (d ∷ []) a.aside) x
  held_backs x d core ready alone some =
      backed_still m t a x d (ByReference AsCaller (omega (arith, none_about_held x AsCaller core ready alone, some)))

-- ---- locks and cells

-- The invariant and the ranges hold after a ready thread begins to lock an object that it holds.
pub locks_begin : LocksBegin
locks_begin p n m t a x counts ready alone some unlocked =
    let core = counts.kept.core in
    look_begins x (LockGate x) counts ready alone (held_row x core ready alone some)
    (record { about = λ y. refl; piece = refl; light = refl }) (λ k y. refl) (λ k y. refl) (omega arith)
    (held_backs x (LockGate x) core ready alone some, unlocked)

-- The invariant and the ranges hold after a ready thread begins to unlock the object that it has locked.
pub unlocks_begin : UnlocksBegin
unlocks_begin p n m t a x counts ready alone some locked none lent =
    let core = counts.kept.core in
    look_begins x (UnlockGate x) counts ready alone (held_row x core ready alone some)
    (record { about = λ y. refl; piece = refl; light = refl }) (λ k y. refl) (λ k y. refl) (omega arith) (
      held_backs x (UnlockGate x) core ready alone some,
      locked,
      none,
      lent,
    )

-- The thread may look at the list of which it loads a cell, guards its cells, and the list has a row.
record LoadsCells (m : Machine) (t : ℕ) (a : Actor) (x : ℕ) : Type 0 where
  pub looks : MayRead m t a x
  pub guards : GuardsCells m t a x
  pub there : x < row_count m.layout

module _ {p : Accounts} {n : ℕ} {m : Machine} {t : ℕ} {a : Actor} where
  loads_cells : (x : ℕ) → CoreInvariant p n m → IsReady m t a → HasNoneAbout a x
      → ((1 ≤ p t AsCaller x) × (a.locked ≡ Some x)) ⊎ IsFirstOfChain a x → LoadsCells m t a x
  loads_cells x core ready alone (inl (some, locked)) = record {
    looks = inl (ByReference AsCaller (omega (arith, none_about_held x AsCaller core ready alone, some)));
    guards = inl locked;
    there = held_row x core ready alone some;
  }
  loads_cells x core ready alone (inr first) =
      let chained = first_chained t a x core ready.found first in
      record {
        looks = inr chained;
        guards = inr chained;
        there = chained_row t a x core ready.found first;
      }

guards_still : (m : Machine) (t : ℕ) (a : Actor) (x : ℕ) (d : Duty) → GuardsCells m t a x
    → GuardsCells (with_actor m t (working a (d ∷ []) a.aside)) t (working a (d ∷ []) a.aside) x
guards_still m t a x d (inl locked) = inl locked
guards_still m t a x d (inr chained) = inr chained

-- The invariant and the ranges hold after a ready thread begins to load a cell of the list that it has locked, or of
-- the first one of its chain.
pub cell_loads_begin : CellLoadsBegin
cell_loads_begin p n m t a x i counts ready alone loads low =
    let core = counts.kept.core in
    let it = loads_cells x core ready alone loads in
    look_begins x (CellLoad x i) counts ready alone it.there (record { about = λ y. refl; piece = refl; light = refl })
    (λ k y. refl) (λ k y. refl) (omega (arith, low, counts.ranges.kinds x))
    (looks_still m t a x (CellLoad x i) it.looks, guards_still m t a x (CellLoad x i) it.guards, low)
