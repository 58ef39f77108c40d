-- A ready thread that has put nothing aside begins what it does in one go: to settle, to claim a mark, or to leave. And
-- a ready thread asks for an object's kind.
use Rattle.std.proofs.Common.{◌≡◌, ℕ, ◌<◌, true, false, [], ◌∷◌, inl, inr, refl, ap, subst, arith}
use Rattle.std.specs.Prelude.{◌⊎◌, count_by}
use Rattle.std.proofs.lemmas.Bool.{false≢true}
use Rattle.brc_model.specs.declared.duty.Holding.{Holding}
use Rattle.brc_model.specs.declared.duty.Duty.{Duty}
use Rattle.brc_model.specs.declared.duty.Duty.TheVariants.{Settle, Leave, ClaimMark, MarksLoad, KindLoad}
use Rattle.brc_model.specs.declared.actor.Status.TheVariants.{Running}
use Rattle.brc_model.specs.Layout.{row_count}
use Rattle.brc_model.specs.declared.actor.Actor.{Actor}
use Rattle.brc_model.specs.Machine.{Life, Machine, with_actor}
use Rattle.brc_model.specs.References.{one_if}
use Rattle.brc_model.specs.Accounts.{Account, Accounts, lacks, extra, HoldsNone}
use Rattle.brc_model.specs.Knowledge.{MayRead, HeadFits}
use Rattle.brc_model.specs.OpenWork.{dies_by, is_about, has_leave, Agenda, IsSettled}
use Rattle.brc_model.specs.Gates.{LocksFit}
use Rattle.brc_model.specs.Invariant.{CoreInvariant, Invariant}
use Rattle.brc_model.specs.Ranges.{IsSmall}
use Rattle.brc_model.specs.Counting.{Counts, working, IsReady, HasNoneAbout, IsAtHand}
use Rattle.brc_model.specs.CountingLaws.{SettlesBegin, ClaimsBegin, MarkLoadsBegin, ExitsBegin, IsFirstOfChain, KindsAreAsked, ChainsAreThere}
use Rattle.brc_model.proofs.Basics.Bag.{one_if_low}
use Rattle.brc_model.proofs.Frame.Leaves.{locked_lives}
use Rattle.brc_model.proofs.Limits.Ranges.{row_small, head_small}
use Rattle.brc_model.proofs.Keeping.FirstOfChain.{first_counts, first_chained, chained_row}
use Rattle.brc_model.proofs.Keeping.Rearranging.{still_wait}
use Rattle.brc_model.proofs.Keeping.Replaced.{with_account_itself}
use Rattle.brc_model.proofs.Keeping.Sits.{Sits}
use Rattle.brc_model.proofs.Keeping.Kept.{kept_sits}
use Rattle.brc_model.proofs.Keeping.WorkAside.{working_ranges}
use Rattle.brc_model.proofs.Keeping.WorkBegins.{ready_rests, ready_holds, at_hand_backed, backed_row, backed_still, one_makes, work_begins, one_light}
use Rattle.brc_model.proofs.Keeping.Weightless.{weighs_any}

-- ---- chains

-- The head of a thread's chain is a row of the machine, plus 1, or 0. A row that the thread has locked lives, so nobody
-- finalises it.
pub chains_there : ChainsAreThere
chains_there p n m t a counts found =
    let core = counts.kept.core in
    let chain = (core.each t a found).0.chain in
    record {
      head = head_small t a core found;
      first = λ x first. first_chained t a x core found first;
      locked = λ x is.
          let none : one_if (dies_by (m.life x) t) ≡ 0 =
          ap (λ (l : Life). one_if (dies_by l t)) (locked_lives t a x core found is) in
          record {
            later = λ first.
                omega (
                  arith,
                  first_counts m.memory t a.head x chain.chained chain.linked first,
                  chain.once x,
                  none,
                );
            duties = omega (arith, chain.once x, none);
          };
    }

-- ---- work in one go

-- A duty that makes and gives up no reference, and weighs nothing.
pub record BeginsAlone (d : Duty) : Type 0 where
  pub lacks : (k : Holding) (object : ℕ) → lacks d k object ≡ false
  pub extra : (k : Holding) (object : ℕ) → extra d k object ≡ false
  pub light : weighs_any d ≡ false

-- What the thread has to show besides.
pub record TakesAlone (p : Accounts) (m : Machine) (t : ℕ) (a : Actor) (d : Duty) : Type 0 where
  pub begins : BeginsAlone d
  pub exited : has_leave (d ∷ []) ≡ true → HoldsNone (p t)
  pub knows : HeadFits (with_actor m t (working a (d ∷ []) a.aside)) t (working a (d ∷ []) a.aside) d []
  pub fits : Agenda a.used Running (d ∷ [])
  pub settled : IsSettled a.head (d ∷ [])
  pub small : IsSmall m.layout d

-- The thread still holds the list that it has locked, whatever it does that makes no reference.
pub same_locks : (account : Account) (m : Machine) (t : ℕ) (a : Actor) (d : Duty) → LocksFit account m t a
    → ((k : Holding) (y : ℕ) → lacks d k y ≡ false) → LocksFit account m t (working a (d ∷ []) a.aside)
same_locks account m t a d locks none y e =
    let it = locks y e in
    let no : one_if (lacks d it.by y) ≡ 0 = ap one_if (none it.by y) in
    record {
      by = it.by;
      held_so = omega (arith, it.held_so, one_makes it.by y d, no);
      gate = it.gate;
    }

module _ {p : Accounts} {n : ℕ} {m : Machine} {t : ℕ} {a : Actor} where
  -- A ready thread that has put nothing aside takes up such a duty.
  pub alone_begins : (d : Duty) → Counts p n m → IsReady m t a → a.aside ≡ [] → TakesAlone p m t a d
      → Counts p n (with_actor m t (working a (d ∷ []) a.aside))
  alone_begins d counts ready none new =
      let core = counts.kept.core in
      let begins = new.begins in
      let old = core.each t a ready.found in
      let sits : Sits m t a (d ∷ []) (p t) = record {
        holds = record {
          each = λ k object.
              omega (
                arith,
                (ready_holds core ready).each k object,
                ap one_if (begins.lacks k object),
                ap one_if (begins.extra k object),
              );
        };
        bounded = old.0.bounded;
        exited = λ e. (new.exited e, none);
        aside = record {
          waits = still_wait m t a (d ∷ []) a.aside a.aside old.2.waits;
          apart = λ y.
              let empty : count_by (is_about y) a.aside ≡ 0 = ap (count_by (is_about y)) none in
              omega (arith, empty, one_if_low (is_about y d));
          pieces = inl none;
        };
        knows = new.knows;
        behind = tt;
        locks = same_locks (p t) m t a d old.0.locks begins.lacks;
        fits = new.fits;
        light = one_light d begins.light;
      } in
      record {
        kept =
            subst (λ (q : Accounts). Invariant q n (with_actor m t (working a (d ∷ []) a.aside)))
            (with_account_itself p t) (kept_sits (d ∷ []) (p t) counts.kept (ready_rests core ready) sits new.settled);
        ranges =
            working_ranges n m t a (d ∷ []) a.aside counts.ranges ready.found (new.small, tt)
            (counts.ranges.aside t a ready.found);
        no_flight = counts.no_flight;
      }

-- The invariant and the ranges hold after a ready thread begins to settle its chain.
pub settles_begin : SettlesBegin
settles_begin p n m t a counts ready none some =
    alone_begins Settle counts ready none (record {
      begins = record { lacks = λ k object. refl; extra = λ k object. refl; light = refl };
      exited = λ e. absurd (false≢true e);
      knows = some;
      fits = refl;
      settled = tt;
      small = record { row = λ y e. absurd (false≢true e); cells = omega arith };
    })

-- The invariant and the ranges hold after a ready thread begins to claim the mark of a row of its block.
pub claims_begin : ClaimsBegin
claims_begin p n m t a x counts ready none own there =
    alone_begins (ClaimMark x) counts ready none (record {
      begins = record { lacks = λ k object. refl; extra = λ k object. refl; light = refl };
      exited = λ e. absurd (false≢true e);
      knows = own;
      fits = refl;
      settled = tt;
      small = row_small m.layout x (ClaimMark x) there (λ y. refl) (omega arith);
    })

-- The invariant and the ranges hold after a ready thread begins to load a mark word of its block.
pub mark_loads_begin : MarkLoadsBegin
mark_loads_begin p n m t a w counts ready none there =
    alone_begins (MarksLoad w) counts ready none (record {
      begins = record { lacks = λ k object. refl; extra = λ k object. refl; light = refl };
      exited = λ e. absurd (false≢true e);
      knows = there;
      fits = refl;
      settled = tt;
      small = record { row = λ y e. absurd (false≢true e); cells = omega arith };
    })

-- The invariant and the ranges hold after a ready thread that holds nothing begins to leave.
pub exits_begin : ExitsBegin
exits_begin p n m t a counts ready none empty holds =
    alone_begins (Leave 0 a.used) counts ready none (record {
      begins = record { lacks = λ k object. refl; extra = λ k object. refl; light = refl };
      exited = λ e. holds;
      knows = tt;
      fits = (refl, refl, refl);
      settled = (empty, tt);
      small = record { row = λ y e. absurd (false≢true e); cells = omega arith };
    })

-- ---- a look at a kind

module _ {p : Accounts} {n : ℕ} {m : Machine} {t : ℕ} {a : Actor} where
  -- The thread may look at the object for whose kind it asks.
  asked_looks : (x : ℕ) → CoreInvariant p n m → IsReady m t a → HasNoneAbout a x
      → IsAtHand (p t) m a x ⊎ IsFirstOfChain a x → MayRead m t a x
  asked_looks x core ready alone (inl at_hand) = inl (at_hand_backed x core ready alone at_hand)
  asked_looks x core ready alone (inr first) = inr (first_chained t a x core ready.found first)

  asked_row : (x : ℕ) → CoreInvariant p n m → IsReady m t a → HasNoneAbout a x
      → IsAtHand (p t) m a x ⊎ IsFirstOfChain a x → x < row_count m.layout
  asked_row x core ready alone (inl at_hand) = backed_row t a x core (at_hand_backed x core ready alone at_hand)
  asked_row x core ready alone (inr first) = chained_row t a x core ready.found first

-- New work leaves what the thread may look at.
pub looks_still : (m : Machine) (t : ℕ) (a : Actor) (x : ℕ) (d : Duty) → MayRead m t a x
    → MayRead (with_actor m t (working a (d ∷ []) a.aside)) t (working a (d ∷ []) a.aside) x
looks_still m t a x d (inl backed) = inl (backed_still m t a x d backed)
looks_still m t a x d (inr chained) = inr chained

-- The invariant and the ranges hold after a ready thread begins to ask for the kind of an object that it holds or may
-- borrow, or of the first one of its chain.
pub kinds_asked : KindsAreAsked
kinds_asked p n m t a x counts ready alone asks =
    let core = counts.kept.core in
    let holds = ready_holds core ready in
    let looks = asked_looks x core ready alone asks in
    subst (λ (q : Accounts). Counts q n (with_actor m t (working a (KindLoad x ∷ []) a.aside)))
    (with_account_itself p t) (work_begins x (KindLoad x) (p t) counts ready alone (record {
      begins = record { about = λ y. refl; piece = refl; light = refl };
      no_flight = counts.no_flight t;
      holds = λ k object. omega (arith, holds.each k object);
      bounded = (core.each t a ready.found).0.bounded;
      locks = same_locks (p t) m t a (KindLoad x) (core.each t a ready.found).0.locks (λ k y. refl);
      knows = looks_still m t a x (KindLoad x) looks;
      small =
          row_small m.layout x (KindLoad x) (asked_row x core ready alone asks) (λ y. refl) (omega arith);
    }))
