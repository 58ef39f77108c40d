-- A thread hands a reference over to another thread. No count changes, and no duty knows of the reference: none of
-- either thread's open work is about the object, and the duties of other threads rely on references of their own.
use Rattle.std.proofs.Common.{◌≡◌, ◌≢◌, ℕ, ◌<◌, ◌≤◌, true, false, List, [], ◌∷◌, inl, inr, Some, refl, sym, ◌∙◌, subst, arith}
use Rattle.std.specs.Prelude.{slice_get}
use Rattle.std.specs.List.{list_any}
use Rattle.std.proofs.lemmas.Option.{slice_get_within}
use Rattle.brc_model.specs.declared.duty.Holding.TheVariants.{AsCaller}
use Rattle.brc_model.specs.AbstractState.{Reference, Move, Lose, PassOn, ByThread, same, without, references_to}
use Rattle.brc_model.specs.References.{held, reference_of, cell_reference}
use Rattle.brc_model.specs.Moves.{gain}
use Rattle.brc_model.specs.Layout.{block_of, IsCounted}
use Rattle.brc_model.specs.declared.actor.Actor.{Actor}
use Rattle.brc_model.specs.Machine.{Machine, with_moves}
use Rattle.brc_model.specs.RowInvariant.{Numbers, RowInvariant}
use Rattle.brc_model.specs.Accounts.{Account, Accounts, most_lent}
use Rattle.brc_model.specs.OpenWork.{exits}
use Rattle.brc_model.specs.Invariant.{Fits, numbers_of, CoreInvariant}
use Rattle.brc_model.specs.Counting.{Counts, HasNoneAbout, with_account, with_one_less, with_one_more, MayGiveUp}
use Rattle.brc_model.proofs.Stepping.Locked.{making_none}
use Rattle.brc_model.proofs.Keeping.Locks.{more_locks, less_locks}
use Rattle.brc_model.proofs.Basics.Bag.{other_thread, references_to-cons, references_to-without}
use Rattle.brc_model.proofs.Basics.MovesApart.{AreAside, moved_aside}
use Rattle.brc_model.proofs.Keeping.Replaced.{flight_with, with_account_other}
use Rattle.brc_model.proofs.Keeping.Moved.{each_moved, still_watched, moved_fits}
use Rattle.brc_model.proofs.Keeping.OneReference.{account_held, held_elsewhere, held_besides, holds_less, holds_more, bounded_less, bounded_more}

-- The first thread's reference becomes the second thread's.
abbrev hand_over : ℕ → ℕ → ℕ → List Move
hand_over t u x = PassOn (reference_of t AsCaller x) (ByThread u AsCaller) ∷ []

-- It is as if the first thread lost the reference, and then the second gained it. In between every thread fits.
abbrev give_up : ℕ → ℕ → List Move
give_up t x = Lose (reference_of t AsCaller x) ∷ []

-- What a thread has to show to hand a reference over to another.
record HandsOver (p : Accounts) (m : Machine) (t u : ℕ) (a b : Actor) (x : ℕ) : Type 0 where
  pub giver : slice_get m.actors t ≡ Some a
  pub taker : slice_get m.actors u ≡ Some b
  pub apart : t ≢ u
  pub giver_free : HasNoneAbout a x
  pub taker_free : HasNoneAbout b x
  pub taker_stays : exits b.status b.agenda ≡ false
  pub some : 1 ≤ p t AsCaller x
  pub may : MayGiveUp (p t) a x
  pub room : p u AsCaller x < most_lent

module _ (p : Accounts) (n : ℕ) (m : Machine) (t u : ℕ) (a b : Actor) (x : ℕ) (core : CoreInvariant p n m)
    (hands : HandsOver p m t u a b x) where
  abbrev given : Machine
  given = with_moves m (give_up t x)

  abbrev handed : Machine
  handed = with_moves m (hand_over t u x)

  abbrev after_giving : Accounts
  after_giving = with_account p t (with_one_less (p t) AsCaller x)

  abbrev after_taking : Accounts
  after_taking = with_account after_giving u (with_one_more (p u) AsCaller x)

  -- The bag has the reference.
  has : list_any (same (reference_of t AsCaller x)) m.abstract.references ≡ true
  has =
      account_held m.abstract.references t (p t) a AsCaller x (core.each t a hands.giver).0.holds hands.giver_free
      hands.some

  -- A thread that exits holds nothing.
  giver_stays : exits a.status a.agenda ≡ false
  giver_stays = elim (exits a.status a.agenda) as (λ e. exits a.status a.agenda ≡ e → e ≡ false) [
    | true ↦ λ e. absurd (omega (arith, hands.some, ((core.each t a hands.giver).0.exited e).0 AsCaller x))
    | false ↦ λ e. refl
  ] refl

  each_given : (w : ℕ) (c : Actor) → slice_get m.actors w ≡ Some c → Fits (after_giving w) given w c
  each_given =
      let bag = m.abstract.references in
      let old = core.each t a hands.giver in
      let account = with_one_less (p t) AsCaller x in
      let own : Fits account given t a =
      moved_fits m (give_up t x) t a hands.giver x (λ k y other. held_elsewhere bag t AsCaller x k y has other) (p t)
      account old hands.giver_free giver_stays
      (holds_less bag t (p t) a.agenda a.aside AsCaller x old.0.holds has hands.some)
      (bounded_less m.layout (p t) x old.0.bounded)
      (less_locks (p t) m t a a x old.0.locks refl (λ k y. omega arith)
      (making_none a AsCaller x old.1 hands.giver_free)
      hands.may) in
      each_moved p m t a account (give_up t x) hands.giver (λ w k ne. (other_thread w t k AsCaller ne, tt)) own
      core.each

  each_handed : (w : ℕ) (c : Actor) → slice_get m.actors w ≡ Some c → Fits (after_taking w) handed w c
  each_handed =
      let bag = given.abstract.references in
      let was = with_account_other p t (with_one_less (p t) AsCaller x) u (λ e. hands.apart (sym e)) in
      let old : Fits (p u) given u b =
      subst (λ (c : Account). Fits c given u b) (sym was) (each_given u b hands.taker) in
      let account = with_one_more (p u) AsCaller x in
      let own : Fits account handed u b =
      moved_fits given (gain u AsCaller x) u b hands.taker x
      (λ k y other. held_besides bag u AsCaller x k y other) (p u) account old hands.taker_free hands.taker_stays
      (holds_more bag u (p u) b.agenda b.aside AsCaller x old.0.holds)
      (bounded_more m.layout (p u) x old.0.bounded (λ counted. hands.room))
      (more_locks (p u) given u b b x old.0.locks refl (λ k y. omega arith)) in
      each_moved after_giving given u b account (gain u AsCaller x) hands.taker
      (λ w k ne. (other_thread w u k AsCaller ne, tt)) own each_given

  -- No object has more or fewer references.
  same_numbers : (y : ℕ) → numbers_of m y ≡ numbers_of handed y
  same_numbers y =
      let bag = m.abstract.references in
      let q = reference_of t AsCaller x in
      let count : references_to y bag ≡ references_to y (reference_of u AsCaller x ∷ without q bag) =
      omega (
        arith,
        references_to-cons y (reference_of u AsCaller x) (without q bag),
        references_to-without y q bag has,
      ) in
      λ i. record (numbers_of m y) { references = count i }

  -- A reference of neither thread is as often in the bag as before.
  others_held : (r : Reference) → AreAside r.holder (hand_over t u x)
      → held r handed.abstract.references ≡ held r m.abstract.references
  others_held r aside = moved_aside m.abstract r (hand_over t u x) aside

  -- The machine has the thread.
  within : (w : ℕ) (c : Actor) → slice_get m.actors w ≡ Some c → w < n
  within w c found = omega (arith, slice_get_within m.actors w c found, core.threads)

  -- The core invariant holds afterwards.
  handed_core : CoreInvariant after_taking n handed
  handed_core = record {
    threads = core.threads;
    workers = core.workers;
    some_rows = core.some_rows;
    few_threads = core.few_threads;
    few_rows = core.few_rows;
    few_cells = core.few_cells;
    few_immortals = core.few_immortals;
    few_numbers = core.few_numbers;
    rows = λ y counted.
        subst (λ (k : Numbers). RowInvariant (block_of m.layout y) (m.life y) k) (same_numbers y) (core.rows y counted);
    marks = λ y. elim (core.marks y) [
      | inl none ↦ inl none
      | inr set ↦ inr (set.0, set.1, still_watched m (hand_over t u x) y set.2)
    ];
    each = each_handed;
    beyond = λ w past k object.
        others_held (reference_of w k object) (
          (
            other_thread w t k AsCaller (λ e. absurd (omega (arith, e, past, within t a hands.giver))),
            other_thread w u k AsCaller (λ e. absurd (omega (arith, e, past, within u b hands.taker))),
          ),
          tt,
        ) ∙ core.beyond w past k object;
    gates = core.gates;
    dying = core.dying;
    cells = core.cells;
    cells_end = core.cells_end;
    uses = core.uses;
    blanks = core.blanks;
    cells_hold = λ y i object. others_held (cell_reference y i object) ((refl, refl), tt) ∙ core.cells_hold y i object;
    immortals_live = core.immortals_live;
    born_is = core.born_is;
    born_has = core.born_has;
    born_once = core.born_once;
    closed_is = core.closed_is;
    closed_has = core.closed_has;
    once = core.once;
    kinds = core.kinds;
    kind_words = core.kind_words;
    immortal_words = core.immortal_words;
    immortal_kinds = core.immortal_kinds;
    resources = core.resources;
  }

-- A thread that hands a reference over to another thread keeps the invariant.
pub handed_over : (p : Accounts) (n : ℕ) (m : Machine) (t u : ℕ) (a b : Actor) (x : ℕ) → Counts p n m
    → slice_get m.actors t ≡ Some a → slice_get m.actors u ≡ Some b → t ≢ u → HasNoneAbout a x → HasNoneAbout b x
    → exits b.status b.agenda ≡ false → IsCounted m.layout x → 1 ≤ p t AsCaller x → MayGiveUp (p t) a x
    → p u AsCaller x < most_lent
    → Counts (with_account (with_account p t (with_one_less (p t) AsCaller x)) u (with_one_more (p u) AsCaller x)) n
    (with_moves m (PassOn (reference_of t AsCaller x) (ByThread u AsCaller) ∷ []))
handed_over p n m t u a b x counts giver taker apart giver_free taker_free taker_stays counted some may room = record {
  kept = record {
    core = handed_core p n m t u a b x counts.kept.core (record {
      giver = giver;
      taker = taker;
      apart = apart;
      giver_free = giver_free;
      taker_free = taker_free;
      taker_stays = taker_stays;
      some = some;
      may = may;
      room = room;
    });
    settled = counts.kept.settled;
  };
  ranges = record {
    kinds = counts.ranges.kinds;
    each = counts.ranges.each;
    aside = counts.ranges.aside;
  };
  no_flight =
      flight_with (with_account p t (with_one_less (p t) AsCaller x)) u (with_one_more (p u) AsCaller x)
      (flight_with p t (with_one_less (p t) AsCaller x) counts.no_flight
      (λ object. omega (arith, counts.no_flight t object))) (λ object. omega (arith, counts.no_flight u object));
}
