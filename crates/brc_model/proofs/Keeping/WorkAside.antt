-- A running thread puts its only duty aside, or takes back a duty that it has put aside. The invariant holds as before,
-- and so do the ranges.
use Rattle.std.proofs.Common.{◌≡◌, ℕ, List, [], ◌∷◌, ◌++◌, Some, subst}
use Rattle.std.specs.Prelude.{slice_get}
use Rattle.brc_model.specs.declared.duty.Duty.{Duty}
use Rattle.brc_model.specs.declared.actor.Actor.{Actor}
use Rattle.brc_model.specs.Machine.{Machine, with_actor}
use Rattle.brc_model.specs.declared.layout.Layout.{Layout}
use Rattle.brc_model.specs.Ranges.{IsSmall, AreSmall, Ranges}
use Rattle.brc_model.specs.Counting.{working}
use Rattle.brc_model.specs.CountingLaws.{WorkIsPutAside, WorkIsTakenBack}
use Rattle.brc_model.proofs.Basics.Lists.{written_actor}
use Rattle.brc_model.proofs.Keeping.Rearranging.{put_aside, take_back}

-- A thread's new work keeps the ranges, if its rows and cells exist.
pub working_ranges : (n : ℕ) (m : Machine) (t : ℕ) (a : Actor) (agenda aside : List Duty) → Ranges n m
    → slice_get m.actors t ≡ Some a → AreSmall m.layout agenda → AreSmall m.layout aside
    → Ranges n (with_actor m t (working a agenda aside))
working_ranges n m t a agenda aside ranges found small beside =
    let b = working a agenda aside in
    record {
      kinds = ranges.kinds;
      each =
          written_actor (λ u c. AreSmall m.layout c.agenda) m.actors t a b found small ranges.each;
      aside =
          written_actor (λ u c. AreSmall m.layout c.aside) m.actors t a b found beside ranges.aside;
    }

-- The invariant and the ranges hold after a thread puts its only duty aside.
pub work_put_aside : WorkIsPutAside
work_put_aside p n m t a d counts found is waits =
    let small : AreSmall m.layout (d ∷ []) =
    subst (AreSmall m.layout) is (counts.ranges.each t a found) in
    record {
      kept = put_aside t a d counts.kept found is waits;
      ranges = working_ranges n m t a [] (d ∷ a.aside) counts.ranges found tt (small.0, counts.ranges.aside t a found);
      no_flight = counts.no_flight;
    }

-- The duty that the thread takes back is small, and so are those that stay aside.
split_small : (layout : Layout) (before after : List Duty) (d : Duty) → AreSmall layout (before ++ d ∷ after)
    → IsSmall layout d × AreSmall layout (before ++ after)
split_small layout [] after d all = all
split_small layout (e ∷ before) after d all =
    let rest = split_small layout before after d all.1 in (rest.0, (all.0, rest.1))

-- The invariant and the ranges hold after a ready thread takes back a duty that it has put aside.
pub work_taken_back : WorkIsTakenBack
work_taken_back p n m t a before after d counts found none is =
    let small =
    split_small m.layout before after d
    (subst (AreSmall m.layout) is (counts.ranges.aside t a found)) in
    record {
      kept = take_back t a before after d counts.kept found none is;
      ranges = working_ranges n m t a (d ∷ []) (before ++ after) counts.ranges found (small.0, tt) small.1;
      no_flight = counts.no_flight;
    }
