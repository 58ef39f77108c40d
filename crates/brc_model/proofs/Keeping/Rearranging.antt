-- A thread puts its only duty aside, or takes back a duty that it has put aside. Nothing else changes, and the
-- invariant holds as before.
use Rattle.std.proofs.Common.{◌≡◌, ℕ, ◌+◌, true, false, cond, List, [], ◌∷◌, ◌++◌, inr, Some, refl, sym, ap, ◌∙◌, subst, arith}
use Rattle.std.specs.Prelude.{slice_get, count_by, sum_by}
use Rattle.std.proofs.lemmas.Bool.{false≢true}
use Rattle.std.proofs.lemmas.List.Sums.{sum_by-cons, sum_by-append}
use Rattle.brc_model.specs.declared.duty.Holding.{Holding}
use Rattle.brc_model.specs.declared.duty.Duty.{Duty}
use Rattle.brc_model.specs.declared.duty.Duty.TheVariants.{Die, Settle, Leave, Scan, TakeFound, Finish, BirthField, BirthLocal}
use Rattle.brc_model.specs.declared.actor.Status.{Status}
use Rattle.brc_model.specs.declared.actor.Status.TheVariants.{Running, Leaving, Gone}
use Rattle.brc_model.specs.declared.actor.Actor.{Actor}
use Rattle.brc_model.specs.Machine.{Machine, with_actor}
use Rattle.brc_model.specs.References.{one_if}
use Rattle.brc_model.specs.RowInvariant.{waits, carries, merges, decides, agenda_weight}
use Rattle.brc_model.specs.Accounts.{Accounts, extra, lacks, extra_of, lacks_of, extra_aside, lacks_aside}
use Rattle.brc_model.specs.Knowledge.{HeadFits, HeadOf, BehindOf}
use Rattle.brc_model.specs.OpenWork.{Later, Agenda, AgendaFits, has_leave, exits, is_about, about_of, finalised, scans, may_wait, AllWait, AsideFits, IsSettled}
use Rattle.brc_model.specs.Invariant.{looks, kind_stored, field_stored, BlankFits, CoreInvariant, Invariant}
use Rattle.brc_model.proofs.Basics.Lists.{written_actor}
use Rattle.brc_model.proofs.Frame.Aside.{waiting_piece}
use Rattle.brc_model.proofs.Frame.Known.{LeavesRow, known_kept}
use Rattle.brc_model.specs.Counting.{with_account, working}
use Rattle.brc_model.proofs.Keeping.Replaced.{with_account_itself, replaced_core}

-- ---- a duty that may wait

waiting_later : (used : ℕ) (status : Status) (d : Duty) → may_wait d ≡ true
    → Agenda used status (d ∷ []) → Later used status []
waiting_later used status Settle waits fits = absurd cc
waiting_later used status _ waits fits = cc

later_waiting : (used : ℕ) (status : Status) (d : Duty) → may_wait d ≡ true
    → Later used status [] → Agenda used status (d ∷ [])
later_waiting used status Settle waits fits = absurd cc
later_waiting used status _ waits fits = cc

waiting_hand : (d : Duty) (x : ℕ) → may_wait d ≡ true → finalised (d ∷ []) x ≡ 0
waiting_hand (Die y) x waits = absurd cc
waiting_hand _ x waits = cc

waiting_scans : (d : Duty) (x : ℕ) → may_wait d ≡ true → scans x (d ∷ []) ≡ false
waiting_scans (Scan y n) x waits = absurd cc
waiting_scans (TakeFound w n) x waits = absurd cc
waiting_scans _ x waits = refl

waiting_settled : (head : ℕ) (d : Duty) → may_wait d ≡ true → IsSettled head (d ∷ [])
waiting_settled head Settle waits = absurd cc
waiting_settled head (Leave x n) waits = absurd cc
waiting_settled head (Scan x n) waits = absurd cc
waiting_settled head (TakeFound x n) waits = absurd cc
waiting_settled head Finish waits = absurd cc
waiting_settled head _ waits = tt

waiting_stores : (d : Duty) (x : ℕ) → may_wait d ≡ true
    → (kind_stored (d ∷ []) x ≡ false) × (field_stored (d ∷ []) x ≡ false)
waiting_stores (BirthField y h) x waits = absurd cc
waiting_stores (BirthLocal y h) x waits = absurd cc
waiting_stores _ x waits = (refl, refl)

-- ---- what the other duties know

-- Rearranging its work leaves everything unchanged that a thread's duties rely on.
all_left : (m : Machine) (t : ℕ) (a : Actor) (agenda aside : List Duty) (x : ℕ)
    → LeavesRow m (with_actor m t (working a agenda aside)) t a (working a agenda aside) x
all_left m t a agenda aside x = record {
  layout = refl;
  status = refl;
  local = λ owns. refl;
  merged = λ was. was;
  references = λ k. omega arith;
  stopped = λ u was. was;
  born = λ was. was;
}

still_known : (m : Machine) (t : ℕ) (a : Actor) (agenda aside : List Duty) (d : Duty) → may_wait d ≡ true
    → HeadFits m t a d []
    → HeadFits (with_actor m t (working a agenda aside)) t (working a agenda aside) d []
still_known m t a agenda aside d waits knows =
    known_kept m (with_actor m t (working a agenda aside)) t a (working a agenda aside) d [] waits
    (λ x about. all_left m t a agenda aside x)
    (λ retains x locked. (locked, record { kind = refl; cells = λ i. refl })) knows

-- The duties put aside still know what they know.
pub still_wait : (m : Machine) (t : ℕ) (a : Actor) (agenda aside ds : List Duty) → AllWait m t a ds
    → AllWait (with_actor m t (working a agenda aside)) t (working a agenda aside) ds
still_wait m t a agenda aside [] waits = tt
still_wait m t a agenda aside (d ∷ ds) waits =
    (waits.0, still_known m t a agenda aside d waits.0 waits.1, still_wait m t a agenda aside ds waits.2)

-- ---- both directions

-- What rearranged work has to show: each weight is what it was before, and so is what the work makes and gives up; and
-- the new agenda fits.
pub record Rearranges (m : Machine) (t : ℕ) (a : Actor) (agenda aside : List Duty) : Type 0 where
  pub running : a.status ≡ Running
  pub stays : has_leave agenda ≡ false
  pub weighs : (f : Duty → ℕ) → sum_by f agenda + sum_by f aside ≡ agenda_weight f a
  pub lacks_same : (k : Holding) (x : ℕ) → one_if (lacks_of agenda k x) + lacks_aside aside k x
      ≡ one_if (lacks_of a.agenda k x) + lacks_aside a.aside k x
  pub extra_same : (k : Holding) (x : ℕ) → one_if (extra_of agenda k x) + extra_aside aside k x
      ≡ one_if (extra_of a.agenda k x) + extra_aside a.aside k x
  pub hands : (x : ℕ) → finalised agenda x ≡ finalised a.agenda x
  pub knows : HeadOf (with_actor m t (working a agenda aside)) t (working a agenda aside) agenda
  pub behind : BehindOf (with_actor m t (working a agenda aside)) t agenda
  pub fits : Agenda a.used Running agenda
  pub others : AsideFits (with_actor m t (working a agenda aside)) t (working a agenda aside)
  pub blanks : BlankFits m.layout m.memory t a.used agenda
  pub scans_on : (x : ℕ) → scans x a.agenda ≡ true → scans x agenda ≡ true
  pub settled : IsSettled a.head agenda

module _ {p : Accounts} {n : ℕ} {m : Machine} where
  pub rearranged : (t : ℕ) (a : Actor) (agenda aside : List Duty) → Invariant p n m → slice_get m.actors t ≡ Some a
      → Rearranges m t a agenda aside → Invariant p n (with_actor m t (working a agenda aside))
  rearranged t a agenda aside kept found new =
      let b = working a agenda aside in
      let old = (kept.core.each t a found).0 in
      let core : CoreInvariant (with_account p t (p t)) n (with_actor m t b) =
      replaced_core t a b (p t) kept.core found (record {
        fits = (
          record {
            word = old.word;
            holds = record {
              each = λ k x. omega (arith, old.holds.each k x, new.lacks_same k x, new.extra_same k x);
            };
            bounded = old.bounded;
            exited = λ e. absurd (false≢true (sym (ap (λ (s : Status). exits s agenda) new.running ∙ new.stays) ∙ e));
            head_fits = new.knows;
            behind = new.behind;
            chain = record {
              chained = old.chain.chained;
              linked = old.chain.linked;
              once = λ x. omega (arith, old.chain.once x, new.hands x);
            };
            locks = λ x e.
                let it = old.locks x e in
                record {
                  by = it.by;
                  held_so = omega (arith, it.held_so, new.weighs (λ d. one_if (lacks d it.by x)));
                  gate = it.gate;
                };
            lent = old.lent;
          },
          subst (λ (s : Status). AgendaFits b s) (sym new.running) new.fits,
          new.others,
        );
        used = refl;
        locked = refl;
        lent = refl;
        blanks = new.blanks;
        waits = λ x. new.weighs (waits x);
        carries = λ x. new.weighs (carries x);
        merges = λ x. new.weighs (merges x);
        decides = λ x. new.weighs (decides x);
        looks = λ x. new.weighs (looks x);
        finalises = λ x f few. new.weighs f;
        scans = new.scans_on;
      }) in
      record {
        core = subst (λ (q : Accounts). CoreInvariant q n (with_actor m t b)) (with_account_itself p t) core;
        settled =
            λ u c is. written_actor (λ w q. IsSettled q.head q.agenda) m.actors t a b found new.settled kept.settled u c
            is;
      }

-- ---- a duty is put aside

alone_stays : (a : Actor) (status : Status) (d : Duty) → may_wait d ≡ true → a.agenda ≡ d ∷ []
    → AgendaFits a status → status ≡ Running
alone_stays a Gone d waits is fits = absurd (let wrong : [] ≡ d ∷ [] = sym fits.0 ∙ is in cc)
alone_stays a Running d waits is fits =
    waiting_later a.used Running d waits (subst (Agenda a.used Running) is fits)
alone_stays a Leaving d waits is fits =
    waiting_later a.used Leaving d waits (subst (Agenda a.used Leaving) is fits)

module _ {p : Accounts} {n : ℕ} {m : Machine} where
  -- A thread puts the only duty of its agenda aside, if that duty may wait.
  pub put_aside : (t : ℕ) (a : Actor) (d : Duty) → Invariant p n m → slice_get m.actors t ≡ Some a → a.agenda ≡ d ∷ []
      → may_wait d ≡ true → Invariant p n (with_actor m t (working a [] (d ∷ a.aside)))
  put_aside t a d kept found is waits =
      let fits = kept.core.each t a found in
      let running = alone_stays a a.status d waits is fits.1 in
      let knows : HeadFits m t a d [] = subst (HeadOf m t a) is fits.0.head_fits in
      let blanks : BlankFits m.layout m.memory t a.used (d ∷ []) =
      subst (BlankFits m.layout m.memory t a.used) is (kept.core.blanks t a found) in
      rearranged t a [] (d ∷ a.aside) kept found (record {
        running = running;
        stays = refl;
        weighs = λ f.
            let old : sum_by f a.agenda ≡ sum_by f (d ∷ []) = ap (sum_by f) is in
            omega (arith, old, sum_by-cons f d [], sum_by-cons f d a.aside);
        lacks_same = λ k x.
            let old : one_if (lacks_of a.agenda k x) ≡ one_if (lacks d k x) =
            ap (λ (l : List Duty). one_if (lacks_of l k x)) is in
            omega (arith, old, sum_by-cons (λ (e : Duty). cond (lacks e k x) 1 0) d a.aside);
        extra_same = λ k x.
            let old : one_if (extra_of a.agenda k x) ≡ one_if (extra d k x) =
            ap (λ (l : List Duty). one_if (extra_of l k x)) is in
            omega (arith, old, sum_by-cons (λ (e : Duty). cond (extra e k x) 1 0) d a.aside);
        hands = λ x. sym (ap (λ (l : List Duty). finalised l x) is ∙ waiting_hand d x waits);
        knows = tt;
        behind = tt;
        fits = refl;
        others = record {
          waits = (
            waits,
            still_known m t a [] (d ∷ a.aside) d waits knows,
            still_wait m t a [] (d ∷ a.aside) a.aside fits.2.waits,
          );
          apart = λ x.
              let old : one_if (about_of x a.agenda) ≡ one_if (is_about x d) =
              ap (λ (l : List Duty). one_if (about_of x l)) is in
              omega (arith, fits.2.apart x, old, sum_by-cons (λ (e : Duty). cond (is_about x e) 1 0) d a.aside);
          pieces = inr tt;
        };
        blanks = record {
          kinds = λ x block past none. blanks.kinds x block past (waiting_stores d x waits).0;
          fields = λ x block past none. blanks.fields x block past (waiting_stores d x waits).1;
        };
        scans_on = λ x scanned.
            absurd (false≢true (sym (ap (scans x) is ∙ waiting_scans d x waits) ∙ scanned));
        settled = tt;
      })

-- ---- a duty is taken back

pub sum_split : (f : Duty → ℕ) (before after : List Duty) (d : Duty)
    → sum_by f (before ++ d ∷ after) ≡ f d + sum_by f (before ++ after)
sum_split f before after d =
    omega (
      arith,
      sum_by-append f before (d ∷ after),
      sum_by-append f before after,
      sum_by-cons f d after,
    )

-- The duty that the thread takes back may wait and knows what it needs, and so do the duties that stay aside.
record Split (m : Machine) (t : ℕ) (a : Actor) (d : Duty) (others : List Duty) : Type 0 where
  waits : may_wait d ≡ true
  knows : HeadFits m t a d []
  stay : AllWait m t a others

split_off : (m : Machine) (t : ℕ) (a : Actor) (before after : List Duty) (d : Duty)
    → AllWait m t a (before ++ d ∷ after)
    → Split m t a d (before ++ after)
split_off m t a [] after d all = record { waits = all.0; knows = all.1; stay = all.2 }
split_off m t a (e ∷ before) after d all =
    let rest = split_off m t a before after d all.2 in
    record { waits = rest.waits; knows = rest.knows; stay = (all.0, all.1, rest.stay) }

waiting_leave : (d : Duty) → may_wait d ≡ true → has_leave (d ∷ []) ≡ false
waiting_leave (Leave x n) waits = absurd cc
waiting_leave _ waits = refl

-- A thread whose exit isn't under way is running.
stays_running : (status : Status) (agenda : List Duty) → (exits status agenda ≡ true → ⊥) → status ≡ Running
stays_running Running agenda stays = refl
stays_running Leaving agenda stays = absurd (stays refl)
stays_running Gone agenda stays = absurd (stays refl)

module _ {p : Accounts} {n : ℕ} {m : Machine} where
  -- A thread with an empty agenda takes back a duty that it has put aside.
  pub take_back : (t : ℕ) (a : Actor) (before after : List Duty) (d : Duty) → Invariant p n m
      → slice_get m.actors t ≡ Some a → a.agenda ≡ [] → a.aside ≡ before ++ d ∷ after
      → Invariant p n (with_actor m t (working a (d ∷ []) (before ++ after)))
  take_back t a before after d kept found none is =
      let fits = kept.core.each t a found in
      let others = before ++ after in
      let it = split_off m t a before after d (subst (AllWait m t a) is fits.2.waits) in
      let one : sum_by (λ (e : Duty). 1) a.aside ≡ 1 + sum_by (λ (e : Duty). 1) others =
      ap (sum_by (λ (e : Duty). 1)) is ∙ sum_split (λ (e : Duty). 1) before after d in
      let stays : exits a.status a.agenda ≡ true → ⊥ = λ e.
      let empty : sum_by (λ (e : Duty). 1) a.aside ≡ 0 = ap (sum_by (λ (e : Duty). 1)) (fits.0.exited e).1 in
      absurd (omega (arith, empty, one)) in
      let running = stays_running a.status a.agenda stays in
      rearranged t a (d ∷ []) others kept found (record {
        running = running;
        stays = waiting_leave d it.waits;
        weighs = λ f.
            let old : sum_by f a.agenda ≡ 0 = ap (sum_by f) none in
            let all : sum_by f a.aside ≡ f d + sum_by f others = ap (sum_by f) is ∙ sum_split f before after d in
            omega (arith, old, all, sum_by-cons f d []);
        lacks_same = λ k x.
            let old : one_if (lacks_of a.agenda k x) ≡ 0 = ap (λ (l : List Duty). one_if (lacks_of l k x)) none in
            let all : lacks_aside a.aside k x ≡ one_if (lacks d k x) + lacks_aside others k x =
            ap (λ (l : List Duty). lacks_aside l k x) is
            ∙ sum_split (λ (e : Duty). cond (lacks e k x) 1 0) before after d in
            omega (arith, old, all);
        extra_same = λ k x.
            let old : one_if (extra_of a.agenda k x) ≡ 0 = ap (λ (l : List Duty). one_if (extra_of l k x)) none in
            let all : extra_aside a.aside k x ≡ one_if (extra d k x) + extra_aside others k x =
            ap (λ (l : List Duty). extra_aside l k x) is
            ∙ sum_split (λ (e : Duty). cond (extra e k x) 1 0) before after d in
            omega (arith, old, all);
        hands = λ x. waiting_hand d x it.waits ∙ sym (ap (λ (l : List Duty). finalised l x) none);
        knows = still_known m t a (d ∷ []) others d it.waits it.knows;
        behind = tt;
        fits = later_waiting a.used Running d it.waits refl;
        others = record {
          waits = still_wait m t a (d ∷ []) others others it.stay;
          apart = λ x.
              let all : count_by (is_about x) a.aside ≡ one_if (is_about x d) + count_by (is_about x) others =
              ap (count_by (is_about x)) is ∙ sum_split (λ (e : Duty). cond (is_about x e) 1 0) before after d in
              omega (arith, fits.2.apart x, all);
          pieces = inr (waiting_piece d it.waits);
        };
        blanks =
            let old = subst (BlankFits m.layout m.memory t a.used) none (kept.core.blanks t a found) in
            record {
              kinds = λ x block past stored. old.kinds x block past refl;
              fields = λ x block past stored. old.fields x block past refl;
            };
        scans_on = λ x scanned. absurd (false≢true (sym (ap (scans x) none) ∙ scanned));
        settled = waiting_settled a.head d it.waits;
      })
