-- Work that a thread begins fits it: it weighs nothing, finalises nothing, and knows what it has to know.
use Rattle.std.proofs.Common.{◌≡◌, ℕ, zero, suc, ◌<◌, true, List, [], ◌∷◌, inl, Some, refl, sym, ap, arith, Bool, false, ◌∙◌}
use Rattle.std.specs.Prelude.{count_by, sum_by, ◌||◌}
use Rattle.std.proofs.lemmas.List.Sums.{sum_by-cons}
use Rattle.brc_model.specs.declared.duty.Duty.{Duty}
use Rattle.brc_model.specs.declared.duty.Duty.TheVariants.{Settle, Leave, BirthKind}
use Rattle.brc_model.specs.declared.actor.Status.TheVariants.{Running}
use Rattle.brc_model.specs.declared.actor.Place.{Place}
use Rattle.brc_model.specs.declared.actor.Actor.{Actor}
use Rattle.brc_model.specs.Machine.{Machine, with_actor}
use Rattle.brc_model.specs.Accounts.{Account, Accounts, HoldsNone, IsBounded, lacks}
use Rattle.brc_model.specs.Gates.{LocksFit}
use Rattle.brc_model.specs.References.{one_if}
use Rattle.brc_model.proofs.Dispatch.Guards.{HeldBeside}
use Rattle.brc_model.specs.OpenWork.{Later, Agenda, has_leave, exits, IsSettled}
use Rattle.brc_model.specs.Knowledge.{AllBehind, IsBacked, IsNext, ByReference, ByItem, HeadOf, is_retain}
use Rattle.brc_model.proofs.Frame.Aside.{HoldsAlone, holds_alone, alone_fits}
use Rattle.brc_model.proofs.Dispatch.Coded.{is_departing, stays_elsewhere}
use Rattle.brc_model.proofs.Dispatch.TakingUp.{Scene, scene_of, Backs, ByOwn, ByList, MayBegin, Gives, Takes, Bears, Asks, Locks, Unlocks, Loads, Swaps, Lends, Returns, MayFollow, Nothing, Settles, Exits}
use Rattle.brc_model.proofs.Dispatch.AtOnce.{at_once}
use Rattle.brc_model.proofs.Keeping.Sits.{Sits, AtRest, sitting}
use Rattle.brc_model.specs.declared.layout.Layout.{Layout}
use Rattle.brc_model.proofs.Basics.Blocks.{thread_there}
use Rattle.brc_model.specs.Layout.{block_size, row_at}
use Rattle.brc_model.proofs.Keeping.Weightless.{weighs_any}
use Rattle.std.specs.List.{list_any}
use Rattle.brc_model.proofs.Frame.Kinds.{resource_counted}

module _ {p : Accounts} {n : ℕ} {m : Machine} where
  -- A thread with room for a row is a worker, since main has used all its rows.
  next_is : (t : ℕ) (a : Actor) (agenda : List Duty) → AtRest p n m t a → a.used < block_size m.layout t
      → IsNext (with_actor m t (sitting a agenda)) t (sitting a agenda) (row_at m.layout t a.used)
  next_is zero a agenda at room = absurd (omega (arith, room, (at.core.uses 0 a at.found).main refl))
  next_is (suc t) a agenda at room =
      record {
        running = at.running;
        worker = omega arith;
        there = thread_there (suc t) a at.core at.found;
        row = refl;
        room = room;
      }

later_follows : (layout : Layout) (t used : ℕ) (place : Place) (rest : List Duty) → MayFollow layout t used place rest
    → Later used Running rest
later_follows layout t used place rest (Nothing stays) = refl
later_follows layout t used place rest (Settles stays) = refl
later_follows layout t used place rest (Exits leaves) = (refl, refl, refl)

-- The duties after the first one have to know nothing.
follows_behind : (m : Machine) (t : ℕ) (layout : Layout) (used : ℕ) (place : Place) (rest : List Duty)
    → MayFollow layout t used place rest → AllBehind m t rest
follows_behind m t layout used place rest (Nothing stays) = tt
follows_behind m t layout used place rest (Settles stays) = (tt, tt)
follows_behind m t layout used place rest (Exits leaves) = (tt, (tt, tt))

-- The work ends with the duty to leave exactly if the thread's new place is that of an exit.
pub follows_leave : (layout : Layout) (t used : ℕ) (place : Place) (rest : List Duty)
    → MayFollow layout t used place rest
    → has_leave rest ≡ is_departing place
follows_leave layout t used place rest (Nothing stays) = sym (stays_elsewhere place stays)
follows_leave layout t used place rest (Settles stays) = sym (stays_elsewhere place stays)
follows_leave layout t used place rest (Exits leaves) = sym (ap is_departing leaves)

pub starts_leave : (g : Scene) (d : Duty) (rest : List Duty) → MayBegin g d rest → has_leave (d ∷ rest) ≡ has_leave rest
starts_leave g d rest (Gives row h behind some) = refl
starts_leave g d rest _ = refl

-- ---- what is begun weighs nothing

starts_light : (g : Scene) (d : Duty) (rest : List Duty) → MayBegin g d rest → weighs_any d ≡ false
starts_light g d rest (Gives row h behind some) = refl
starts_light g d rest _ = refl

follows_light : (layout : Layout) (t used : ℕ) (place : Place) (rest : List Duty) → MayFollow layout t used place rest
    → list_any weighs_any rest ≡ false
follows_light layout t used place rest (Nothing stays) = refl
follows_light layout t used place rest _ = refl

begun_light : (g : Scene) (place : Place) (d : Duty) (rest : List Duty) → MayBegin g d rest
    → MayFollow g.layout g.thread g.used place rest → list_any weighs_any (d ∷ rest) ≡ false
begun_light g place d rest starts follows =
    ap (λ (b : Bool). b || list_any weighs_any rest) (starts_light g d rest starts)
    ∙ follows_light g.layout g.thread g.used place rest follows

-- The duties after the first one weigh nothing.
follows_weigh : (layout : Layout) (t used : ℕ) (place : Place) (rest : List Duty) (f : Duty → ℕ) → f Settle ≡ 0
    → ((x k : ℕ) → f (Leave x k) ≡ 0) → MayFollow layout t used place rest → sum_by f rest ≡ 0
follows_weigh layout t used place rest f settle leave (Nothing stays) = refl
follows_weigh layout t used place rest f settle leave (Settles stays) = omega (arith, sum_by-cons f Settle [], settle)
follows_weigh layout t used place rest f settle leave (Exits leaves) =
    omega (arith, sum_by-cons f Settle (Leave 0 used ∷ []), sum_by-cons f (Leave 0 used) [], settle, leave 0 used)

-- ---- what is begun fits its thread

begun_fits : (g : Scene) (place : Place) (d : Duty) (rest : List Duty) → MayBegin g d rest
    → MayFollow g.layout g.thread g.used place rest → Agenda g.used Running (d ∷ rest)
begun_fits g place d rest (Gives row h behind some) follows = later_follows g.layout g.thread g.used place rest follows
begun_fits g place d rest _ follows = later_follows g.layout g.thread g.used place rest follows

-- What the thread may rely on is what its duty may rely on.
backs_duty : (m : Machine) (t : ℕ) (a : Actor) (agenda : List Duty) (row : ℕ) → Backs (scene_of m t a) row
    → IsBacked (with_actor m t (sitting a agenda)) t (sitting a agenda) row
backs_duty m t a agenda row (ByOwn by some) = ByReference by some
backs_duty m t a agenda row (ByList list cell has holds) = ByItem list cell has holds

module _ {p : Accounts} {n : ℕ} {m : Machine} {t : ℕ} {a : Actor} where
  -- The thread knows what its first duty has to know.
  begun_knows : (d : Duty) (rest : List Duty) → AtRest p n m t a → a.aside ≡ [] → MayBegin (scene_of m t a) d rest
      → HeadOf (with_actor m t (sitting a (d ∷ rest))) t (sitting a (d ∷ rest)) (d ∷ rest)
  begun_knows d rest at alone (Gives row h behind some) = tt
  begun_knows d rest at alone (Takes row h behind backs) = backs_duty m t a (d ∷ rest) row backs
  begun_knows d rest at alone (Bears h w room few said) =
      (next_is t a (BirthKind (row_at m.layout t a.used) h w ∷ []) at room, refl, said)
  begun_knows d rest at alone (Asks row backs) = inl (backs_duty m t a (d ∷ rest) row backs)
  begun_knows d rest at alone (Locks row backs none) = (backs_duty m t a (d ∷ rest) row backs, none)
  begun_knows d rest at alone (Unlocks row backs has none) = (
    backs_duty m t a (d ∷ rest) row backs,
    has,
    ap (count_by is_retain) alone,
    none,
  )
  begun_knows d rest at alone (Loads row i backs has within) =
      (inl (backs_duty m t a (d ∷ rest) row backs), inl has, within)
  begun_knows d rest at alone (Swaps row i item h behind backs has within some) = (has, within)
  begun_knows d rest at alone (Lends row backs has none some) =
      (resource_counted row at.core some, has, none, some)
  begun_knows d rest at alone (Returns row backs lent) = lent

  -- The thread still holds what it has locked.
  begun_locks : (place : Place) (d : Duty) (rest : List Duty) (account : Account) → AtRest p n m t a → a.aside ≡ []
      → HoldsAlone m.abstract.references t account (d ∷ rest)
      → ((x : ℕ) → a.locked ≡ Some x → HeldBeside m.abstract.references t x d) → MayFollow m.layout t a.used place rest
      → LocksFit account m t (sitting a (d ∷ rest))
  begun_locks place d rest account at alone holds keeps follows x has =
      let old = (at.core.each t a at.found).0.locks x has in
      let beside = keeps x has in
      let f : Duty → ℕ = λ e. one_if (lacks e beside.by x) in
      let none : sum_by f a.aside ≡ 0 = ap (sum_by f) alone in
      record {
        by = beside.by;
        held_so = omega (
          arith,
          holds.each beside.by x,
          beside.held_so,
          ap one_if beside.beside,
          sum_by-cons f d rest,
          follows_weigh m.layout t a.used place rest f refl (λ y k. refl) follows,
          none,
        );
        gate = old.gate;
      }

  pub starts_sit : (place : Place) (d : Duty) (rest : List Duty) (account : Account) → AtRest p n m t a → a.aside ≡ []
      → HoldsAlone m.abstract.references t account (d ∷ rest) → IsBounded m.layout account
      → (exits Running (d ∷ rest) ≡ true → HoldsNone account)
      → ((x : ℕ) → a.locked ≡ Some x → HeldBeside m.abstract.references t x d) → MayBegin (scene_of m t a) d rest
      → MayFollow m.layout t a.used place rest → Sits m t a (d ∷ rest) account
  starts_sit place d rest account at alone holds bounded exited keeps starts follows =
      let g = scene_of m t a in
      record {
        holds = holds_alone m.abstract.references t account (d ∷ rest) a.aside alone holds;
        bounded = bounded;
        exited = λ e. (exited e, alone);
        aside = alone_fits (with_actor m t (sitting a (d ∷ rest))) t (sitting a (d ∷ rest)) alone;
        knows = begun_knows d rest at alone starts;
        behind = follows_behind (with_actor m t (sitting a (d ∷ rest))) t m.layout a.used place rest follows;
        locks = begun_locks place d rest account at alone holds keeps follows;
        fits = begun_fits g place d rest starts follows;
        light = begun_light g place d rest starts follows;
      }

-- No duty after the first locks or unlocks.
pub follows_plain : (layout : Layout) (t used : ℕ) (place : Place) (rest : List Duty)
    → MayFollow layout t used place rest → sum_by at_once rest ≡ 0
follows_plain layout t used place rest follows =
    follows_weigh layout t used place rest at_once refl (λ y k. refl) follows

-- the chain is empty where what is taken up begins with the exit: it never does
pub starts_settled : (g : Scene) (head : ℕ) (place : Place) (d : Duty) (rest : List Duty)
    → MayBegin g d rest → MayFollow g.layout g.thread g.used place rest → IsSettled head (d ∷ rest)
starts_settled g head place d rest (Gives row h behind some) (Exits leaves) = (refl, tt)
starts_settled g head place d rest (Takes row h behind backs) (Exits leaves) = (refl, tt)
starts_settled g head place d rest (Swaps row i item h behind backs has within some) (Exits leaves) = (refl, tt)
starts_settled g head place d rest _ _ = tt
