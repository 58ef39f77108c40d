-- A ready thread begins to retain an object, or to release one, while other duties are put aside.
use Rattle.std.proofs.Common.{◌≡◌, ℕ, ◌+◌, ◌<◌, ◌≤◌, Bool, true, false, List, [], ◌∷◌, inl, inr, refl, sym, ap, ◌∙◌, subst, arith}
use Rattle.std.specs.Prelude.{◌==◌, ◌&&◌, count_by, sum_by, ◌||◌}
use Rattle.std.proofs.lemmas.Bool.{false≢true}
use Rattle.std.proofs.lemmas.Bool.Decides.{eqb_tells}
use Rattle.std.proofs.lemmas.List.Sums.{sum_by-cons}
use Rattle.brc_model.specs.declared.duty.Holding.{Holding}
use Rattle.brc_model.specs.declared.duty.Holding.TheVariants.{ByVariable, AsCaller, InFlight}
use Rattle.brc_model.specs.declared.duty.Duty.{Duty}
use Rattle.brc_model.specs.declared.duty.Duty.TheVariants.{RetainLoad, ReleaseLoad, Settle, Leave, Scan, TakeFound, Finish}
use Rattle.brc_model.specs.declared.actor.Status.TheVariants.{Running}
use Rattle.brc_model.specs.AbstractState.{same_holding}
use Rattle.brc_model.specs.Layout.{row_count}
use Rattle.brc_model.specs.declared.actor.Actor.{Actor}
use Rattle.brc_model.specs.Machine.{Machine, with_actor}
use Rattle.brc_model.specs.References.{held, one_if, reference_of}
use Rattle.brc_model.specs.Accounts.{Account, Accounts, extra, lacks, extra_aside, lacks_aside, HoldsAt, IsBounded}
use Rattle.brc_model.specs.Knowledge.{IsBacked, ByReference, ByItem, HeadFits}
use Rattle.brc_model.specs.OpenWork.{is_about, is_piece, has_leave, Agenda, IsSettled}
use Rattle.brc_model.specs.Gates.{LocksFit}
use Rattle.brc_model.specs.Invariant.{CoreInvariant}
use Rattle.brc_model.specs.Ranges.{IsSmall}
use Rattle.brc_model.specs.Counting.{Counts, with_account, with_one_more, with_one_less, working, IsReady, HasNoneAbout, IsAtHand}
use Rattle.brc_model.proofs.Keeping.Locks.{more_locks, less_locks}
use Rattle.brc_model.specs.CountingLaws.{RetainsBegin, ReleasesBegin}
use Rattle.brc_model.proofs.Basics.Bag.{one_if_low, held-le-references_to}
use Rattle.brc_model.proofs.Frame.Alive.{backed_referenced}
use Rattle.brc_model.proofs.Frame.Aside.{lacks_counted, extra_counted, gives_counted}
use Rattle.brc_model.proofs.Limits.Ranges.{row_small, referenced_small}
use Rattle.brc_model.proofs.Keeping.Rearranging.{still_wait}
use Rattle.brc_model.proofs.Keeping.Replaced.{flight_with}
use Rattle.brc_model.proofs.Keeping.Sits.{AtRest, Sits}
use Rattle.brc_model.proofs.Keeping.Kept.{kept_sits}
use Rattle.brc_model.proofs.Keeping.WorkAside.{working_ranges}
use Rattle.brc_model.proofs.Keeping.Weightless.{weighs_any}
use Rattle.std.specs.List.{list_any}
use Rattle.brc_model.proofs.Keeping.OneReference.{bounded_more, bounded_less}

-- ---- a ready thread

module _ {p : Accounts} {n : ℕ} {m : Machine} {t : ℕ} {a : Actor} where
  -- A ready thread is at rest, whatever it has put aside.
  pub ready_rests : CoreInvariant p n m → IsReady m t a → AtRest p n m t a
  ready_rests core ready = record { core = core; found = ready.found; agenda = ready.agenda; running = ready.running }

  -- A ready thread's account and the bag differ by the duties put aside alone.
  pub ready_holds : CoreInvariant p n m → IsReady m t a → HoldsAt m.abstract.references t (p t) [] a.aside
  ready_holds core ready =
      subst (λ (l : List Duty). HoldsAt m.abstract.references t (p t) l a.aside) ready.agenda
      (core.each t a ready.found).0.holds

  -- The bag has what the account says of an object that no open work is about.
  pub none_about_held : (x : ℕ) (k : Holding) → CoreInvariant p n m → IsReady m t a → HasNoneAbout a x
      → held (reference_of t k x) m.abstract.references ≡ p t k x
  none_about_held x k core ready alone =
      omega (
        arith,
        (ready_holds core ready).each k x,
        lacks_counted a.aside k x,
        extra_counted a.aside k x,
        gives_counted m t a a.aside x (core.each t a ready.found).2.waits,
        alone,
      )

  -- An object that the thread holds as the caller has a row.
  pub held_row : (x : ℕ) → CoreInvariant p n m → IsReady m t a → HasNoneAbout a x → 1 ≤ p t AsCaller x
      → x < row_count m.layout
  held_row x core ready alone some =
      referenced_small x core (omega (
        arith,
        none_about_held x AsCaller core ready alone,
        held-le-references_to (reference_of t AsCaller x) m.abstract.references,
        some,
      ))

  -- An object that the thread holds as the caller, or may borrow, is backed.
  pub at_hand_backed : (x : ℕ) → CoreInvariant p n m → IsReady m t a → HasNoneAbout a x → IsAtHand (p t) m a x
      → IsBacked m t a x
  at_hand_backed x core ready alone (inl some) =
      ByReference AsCaller (omega (arith, none_about_held x AsCaller core ready alone, some))
  at_hand_backed x core ready alone (inr item) = ByItem item.list item.cell item.locked item.word

module _ {p : Accounts} {n : ℕ} {m : Machine} where
  -- A backed object has a row.
  pub backed_row : (t : ℕ) (a : Actor) (x : ℕ) → CoreInvariant p n m → IsBacked m t a x → x < row_count m.layout
  backed_row t a x core backed = referenced_small x core (backed_referenced p n m t a x core backed)

-- New work leaves what backs an object.
pub backed_still : (m : Machine) (t : ℕ) (a : Actor) (x : ℕ) (d : Duty) → IsBacked m t a x
    → IsBacked (with_actor m t (working a (d ∷ []) a.aside)) t (working a (d ∷ []) a.aside) x
backed_still m t a x d (ByReference by some) = ByReference by some
backed_still m t a x d (ByItem list cell locked word) = ByItem list cell locked word

-- ---- a new piece of work

-- A duty about one row, with which a piece of work begins: it weighs nothing.
pub record BeginsWork (x : ℕ) (d : Duty) : Type 0 where
  pub about : (y : ℕ) → is_about y d ≡ (x == y)
  pub piece : is_piece d ≡ true
  pub light : weighs_any d ≡ false

-- What the new work has to show, with the thread's account from then on.
pub record TakesUp (m : Machine) (t : ℕ) (a : Actor) (x : ℕ) (d : Duty) (account : Account) : Type 0 where
  pub begins : BeginsWork x d
  pub no_flight : (object : ℕ) → account InFlight object ≡ 0
  pub holds : (k : Holding) (object : ℕ)
      → held (reference_of t k object) m.abstract.references + one_if (lacks d k object) + lacks_aside a.aside k object
      ≡ account k object + one_if (extra d k object) + extra_aside a.aside k object
  pub bounded : IsBounded m.layout account
  pub locks : LocksFit account m t (working a (d ∷ []) a.aside)
  pub knows : HeadFits (with_actor m t (working a (d ∷ []) a.aside)) t (working a (d ∷ []) a.aside) d []
  pub small : IsSmall m.layout d

-- The duties put aside are about other rows than the new work.
apart_from : (a : Actor) (x : ℕ) (d : Duty) → BeginsWork x d → HasNoneAbout a x
    → ((y : ℕ) → count_by (is_about y) a.aside ≤ 1) → (y : ℕ)
    → one_if (is_about y d) + count_by (is_about y) a.aside ≤ 1
apart_from a x d begins alone few y =
    let this : one_if (is_about y d) ≡ one_if (x == y) = ap one_if (begins.about y) in
    elim (eqb_tells x y) [
      | inl same ↦
          let none : HasNoneAbout a y = subst (HasNoneAbout a) same.1 alone in
          omega (arith, this, none, one_if_low (x == y))
      | inr other ↦
          let none : one_if (x == y) ≡ 0 = ap one_if other.0 in
          omega (arith, this, none, few y)
    ]

-- A piece of work fits any thread that runs. It is no exit, and any chain fits it.
record PieceFits (d : Duty) : Type 0 where
  fits : (used : ℕ) → Agenda used Running (d ∷ [])
  stays : has_leave (d ∷ []) ≡ false
  settled : (head : ℕ) → IsSettled head (d ∷ [])

piece_fits : (d : Duty) → is_piece d ≡ true → PieceFits d
piece_fits Settle piece = absurd cc
piece_fits (Leave i n) piece = absurd cc
piece_fits (Scan i n) piece = absurd cc
piece_fits (TakeFound w n) piece = absurd cc
piece_fits Finish piece = absurd cc
piece_fits _ piece = record { fits = λ used. refl; stays = refl; settled = λ head. tt }

-- An agenda of one duty that weighs nothing.
pub one_light : (d : Duty) → weighs_any d ≡ false → list_any weighs_any (d ∷ []) ≡ false
one_light d light = ap (λ (b : Bool). b || false) light

module _ {p : Accounts} {n : ℕ} {m : Machine} {t : ℕ} {a : Actor} where
  -- A ready thread takes up work about a row that none of its open work is about.
  pub work_begins : (x : ℕ) (d : Duty) (account : Account) → Counts p n m → IsReady m t a → HasNoneAbout a x
      → TakesUp m t a x d account → Counts (with_account p t account) n (with_actor m t (working a (d ∷ []) a.aside))
  work_begins x d account counts ready alone new =
      let core = counts.kept.core in
      let begins = new.begins in
      let piece = piece_fits d begins.piece in
      let old = (core.each t a ready.found).2 in
      let sits : Sits m t a (d ∷ []) account = record {
        holds = record { each = new.holds };
        bounded = new.bounded;
        exited = λ e. absurd (false≢true (sym piece.stays ∙ e));
        aside = record {
          waits = still_wait m t a (d ∷ []) a.aside a.aside old.waits;
          apart = apart_from a x d begins alone (λ y. omega (arith, old.apart y));
          pieces = inr begins.piece;
        };
        knows = new.knows;
        behind = tt;
        locks = new.locks;
        fits = piece.fits a.used;
        light = one_light d begins.light;
      } in
      record {
        kept = kept_sits (d ∷ []) account counts.kept (ready_rests core ready) sits (piece.settled a.head);
        ranges =
            working_ranges n m t a (d ∷ []) a.aside counts.ranges ready.found (new.small, tt)
            (counts.ranges.aside t a ready.found);
        no_flight = flight_with p t account counts.no_flight new.no_flight;
      }

-- ---- accounts

-- The account has the reference that it loses.
has_one : (account : Account) (x : ℕ) (k : Holding) (object : ℕ) → 1 ≤ account AsCaller x
    → one_if (same_holding AsCaller k && (x == object)) ≤ account k object
has_one account x (ByVariable depth v) object some = omega arith
has_one account x InFlight object some = omega arith
has_one account x AsCaller object some =
    elim (eqb_tells x object) [
      | inl same ↦
          let here : 1 ≤ account AsCaller object = subst (λ (y : ℕ). 1 ≤ account AsCaller y) same.1 some in
          omega (arith, here, one_if_low (x == object))
      | inr other ↦ let none : one_if (x == object) ≡ 0 = ap one_if other.0 in omega (arith, none)
    ]

-- ---- retains and releases

-- the references that an agenda of one duty makes
pub one_makes : (k : Holding) (y : ℕ) (d : Duty)
    → sum_by (λ (e : Duty). one_if (lacks e k y)) (d ∷ []) ≡ one_if (lacks d k y) + 0
one_makes k y d = sum_by-cons (λ (e : Duty). one_if (lacks e k y)) d []

-- The invariant and the ranges hold after a ready thread begins to retain an object that it holds or may borrow.
pub retains_begin : RetainsBegin
retains_begin p n m t a x counts ready alone at_hand few =
    let core = counts.kept.core in
    let holds = ready_holds core ready in
    let bounded = (core.each t a ready.found).0.bounded in
    let backed = at_hand_backed x core ready alone at_hand in
    work_begins x (RetainLoad x AsCaller) (with_one_more (p t) AsCaller x) counts ready alone (record {
      begins = record { about = λ y. refl; piece = refl; light = refl };
      no_flight = λ object. omega (arith, counts.no_flight t object);
      holds = λ k object. omega (arith, holds.each k object);
      bounded = bounded_more m.layout (p t) x bounded few;
      locks =
          more_locks (p t) m t a (working a (RetainLoad x AsCaller ∷ []) a.aside) x (core.each t a ready.found).0.locks
          refl (λ k y. omega (arith, one_makes k y (RetainLoad x AsCaller)));
      knows = backed_still m t a x (RetainLoad x AsCaller) backed;
      small =
          row_small m.layout x (RetainLoad x AsCaller) (backed_row t a x core backed)
          (λ y. refl) (omega arith);
    })

-- The invariant and the ranges hold after a ready thread begins to give up a reference that it holds.
pub releases_begin : ReleasesBegin
releases_begin p n m t a x counts ready alone some may =
    let core = counts.kept.core in
    let holds = ready_holds core ready in
    let bounded = (core.each t a ready.found).0.bounded in
    work_begins x (ReleaseLoad x AsCaller) (with_one_less (p t) AsCaller x) counts ready alone (record {
      begins = record { about = λ y. refl; piece = refl; light = refl };
      no_flight = λ object. omega (arith, counts.no_flight t object);
      holds = λ k object. omega (arith, holds.each k object, has_one (p t) x k object some);
      bounded = bounded_less m.layout (p t) x bounded;
      locks =
          less_locks (p t) m t a (working a (ReleaseLoad x AsCaller ∷ []) a.aside) x (core.each t a ready.found).0.locks
          refl (λ k y. omega (arith, one_makes k y (ReleaseLoad x AsCaller))) (omega (
            arith,
            one_makes AsCaller x (ReleaseLoad x AsCaller),
            lacks_counted a.aside AsCaller x,
            alone,
          )) may;
      knows = tt;
      small =
          row_small m.layout x (ReleaseLoad x AsCaller) (held_row x core ready alone some)
          (λ y. refl) (omega arith);
    })
