-- Changes of a hand's view at which no word changes: the hand turns to other work, or it begins a retain, a release or
-- a birth. First it puts its next duty aside, which may wait.
use Rattle.std.proofs.Common.{Some, ◌≡◌, ◌⊎◌, ℕ, ◌+◌, ◌<◌, ◌≤◌, true, List, [], ◌∷◌, ◌++◌, length, set, inl, inr, refl, sym, ap, ◌∙◌, subst, arith}
use Rattle.std.specs.Prelude.{◌==◌, not, count_by}
use Rattle.std.specs.List.{filter}
use Rattle.std.proofs.lemmas.Bool.Decides.{eqb_tells}
use Rattle.std.proofs.lemmas.List.{set-set}
use Rattle.std.proofs.lemmas.List.Sums.{count_by-le-length}
use mathlib.Core.Option.{some}
use lib.ListN.{get_elem?}
use Rattle.brc_model.specs.declared.duty.Holding.TheVariants.{ByVariable, AsCaller}
use Rattle.brc_model.specs.declared.duty.Duty.{Duty}
use Rattle.brc_model.specs.declared.duty.Duty.TheVariants.{RetainLoad, ReleaseLoad, BirthKind}
use Rattle.brc_model.specs.declared.layout.Layout.{Layout}
use Rattle.brc_model.specs.Layout.{row_at, IsCounted}
use Rattle.brc_model.specs.Kinds.{kind_of_word, is_counted_kind}
use Rattle.brc_model.specs.Duties.{cells_of}
use Rattle.brc_model.specs.Machine.{has_room, with_actor}
use Rattle.brc_model.specs.Accounts.{Account, Accounts}
use Rattle.brc_model.specs.OpenWork.{is_about}
use Rattle.brc_model.specs.Counting.{Counts, with_account, with_one_more, with_one_less, working}
use Rattle.brc_model.specs.CountingLaws.{WorkIsPutAside, WorkIsTakenBack, RetainsBegin, ReleasesBegin, BirthsBegin, ImmortalsAreFree}
use Rattle.brc_table.specs.Plan.{Plan}
use Rattle.brc_table.specs.declared.view.View.{View}
use Rattle.brc_table.specs.Views.{open_work, turned, with_reference, without_reference, retaining, releasing, next_row, bearing, rested, with_work, with_next}
use Rattle.brc_table.specs.Rule.{Stands}
use Rattle.brc_table.specs.Hands.{most_references, HoldsOne, MayUse, KeepsLock, HasNoWork, MayWait, IsRunning}
use Rattle.brc_table.specs.Begins.{Passes, KeepsButWork, Becomes}
use Rattle.brc_table.proofs.Lists.{set_view}
use Rattle.brc_table.proofs.Accounts.{with_account_same, with_account_other, with_account_itself, count_with_reference, count_without_reference}
use Rattle.brc_table.proofs.Passing.{passes_on, becomes_same, waiting_uses}
use Rattle.brc_table.proofs.AtHand.{is_ready, alone, can_give_up, with_spare, has_at_hand, with_at_hand}
use Rattle.brc_table.proofs.Changing.{passes}
use Rattle.brc_table.proofs.ThreadsKept.{threads_same}
use Rattle.brc_table.proofs.Picked.{PassesNone, PassesOne, passes_one, count_more}

-- ---- other work

module _ (plan : Plan) (words : List ℕ) (views : List View) (id : ℕ) (v : View) (old : Stands plan words views)
    (here : get_elem? views id ≡ some v) where
  -- The rule holds again if the machine with the hand's new work has the invariant, and the new account has the
  -- references that the hand lists.
  pub begun : (agenda aside : List Duty) (references : List ℕ) (in_field : ℕ) (account : Account)
      → Counts (with_account old.accounts v.thread account) (1 + old.machine.layout.workers)
      (with_actor old.machine v.thread (working v.actor agenda aside))
      → ((y : ℕ) → IsCounted v.layout y → account AsCaller y ≡ count_by (λ z. z == y) references)
      → ((depth i y : ℕ) → account (ByVariable depth i) y ≡ 0)
      → Passes plan words
      (set views id (record (with_work v agenda aside) { references = references; in_field = in_field })) v.taken
      v.actor.locked old.machine
  begun agenda aside references in_field account counts holding none =
      let p = old.accounts in
      let t = v.thread in
      let u : View = record (with_work v agenda aside) { references = references; in_field = in_field } in
      let own = with_account_same p t account in
      passes plan words views id v u old here words (record {
        accounts = with_account p t account;
        machine = with_actor old.machine t u.actor;
        counts = counts;
        layout_same = refl;
        length_is = refl;
        reads = old.reads;
        actors = refl;
        thread_same = refl;
        told_same = refl;
        given_more = λ k is. is;
        gone_stays = λ gone. (gone, refl);
        lends_none = old.lends_none id v here;
        joined_here = old.joined id v here;
        holding = λ y counted.
            ap (λ (a : Account). a AsCaller y) own
            ∙ holding y (subst (λ (l : Layout). IsCounted l y) (sym (old.same_layout id v here)) counted);
        others = with_account_other p t account;
        no_variables = λ k depth i y. elim (eqb_tells k t) [
          | inl this ↦
              ap (λ (j : ℕ). with_account p t account j (ByVariable depth i) y) this.1
              ∙ (ap (λ (a : Account). a (ByVariable depth i) y) own ∙ none depth i y)
          | inr apart ↦
              ap (λ (a : Account). a (ByVariable depth i) y) (with_account_other p t account k apart.1)
              ∙ old.no_variables k depth i y
        ];
        kinds_stay = λ y word more is. is;
        cells_stay = λ other y w apart is guards. (guards, λ i. refl);
        kinds_here = λ y word more seen. old.kinds_seen id y word v here more seen;
        cells_here = λ y i word guards seen. old.cells_seen id y i word v here guards seen;
        threads = λ i there. threads_same plan words views i v u old there refl refl refl;
      }) v.taken v.actor.locked (λ x which. refl)

  -- The same of a hand that keeps its references, and hears what a field holds.
  pub rearranged_with : (agenda aside : List Duty) (in_field : ℕ)
      → Counts old.accounts (1 + old.machine.layout.workers)
      (with_actor old.machine v.thread (working v.actor agenda aside))
      → Passes plan words (set views id (record (with_work v agenda aside) { in_field = in_field })) v.taken
      v.actor.locked old.machine
  rearranged_with agenda aside in_field counts =
      begun agenda aside v.references in_field (old.accounts v.thread)
      (subst (λ (p : Accounts). Counts p (1 + old.machine.layout.workers)
      (with_actor old.machine v.thread (working v.actor agenda aside)))
      (sym (with_account_itself old.accounts v.thread)) counts)
      (λ y counted. old.holding id v y here (subst (λ (l : Layout). IsCounted l y) (old.same_layout id v here) counted))
      (old.no_variables v.thread)

  -- The same of a hand that keeps its references.
  pub rearranged : (agenda aside : List Duty)
      → Counts old.accounts (1 + old.machine.layout.workers)
      (with_actor old.machine v.thread (working v.actor agenda aside))
      → Passes plan words (set views id (with_work v agenda aside)) v.taken v.actor.locked old.machine
  rearranged agenda aside counts = rearranged_with agenda aside v.in_field counts

-- ---- all work put aside

rested_from : WorkIsPutAside → (plan : Plan) (v : View) (ds : List Duty) → v.actor.agenda ≡ ds → MayWait ds
    → Becomes plan v (with_work v [] (ds ++ v.actor.aside))
rested_from law plan v [] is may =
    becomes_same plan v (with_next v []) (ap (with_next v) is)
rested_from law plan v (d ∷ []) is may =
    record {
      passes = λ words views id stands here.
          rearranged plan words views id v stands here [] (d ∷ v.actor.aside)
          (law stands.accounts (1 + stands.machine.layout.workers) stands.machine v.thread v.actor d stands.counts
          (stands.same_actor id v here) is may);
      same = refl;
      in_field = λ y locks. refl;
      uses = waiting_uses v (with_work v [] (d ∷ v.actor.aside)) (subst MayWait (sym is) may) refl;
    }
rested_from law plan v (d ∷ e ∷ ds) is may = absurd may

-- A hand whose next duty may wait puts all its work aside.
pub rested_becomes : WorkIsPutAside → (plan : Plan) (v : View) → MayWait v.actor.agenda
    → Becomes plan v (rested v)
rested_becomes law plan v may = rested_from law plan v v.actor.agenda refl may

-- A hand that has put all its work aside may go on to other work.
pub then_begins : WorkIsPutAside → (plan : Plan) (v u : View) → MayWait v.actor.agenda → KeepsButWork v u
    → ((x : ℕ) → v.actor.locked ≡ Some x → u.in_field ≡ v.in_field)
    → ((words : List ℕ) (views : List View) (id : ℕ) (stands : Stands plan words views)
    → get_elem? views id ≡ some (rested v)
    → Passes plan words (set views id u) v.taken v.actor.locked stands.machine)
    → Becomes plan v u
then_begins law plan v u may same in_field next = record {
  passes = λ words views id stands here.
      let rest = (rested_becomes law plan v may).passes words views id stands here in
      passes_on stands.machine rest.stands.machine rest.fields
      (subst (λ (l : List View). Passes plan words l v.taken v.actor.locked rest.stands.machine)
      (set-set views id (rested v) u)
      (next words (set views id (rested v)) id rest.stands (set_view views id v (rested v) here)));
  same = same;
  in_field = in_field;
  uses = waiting_uses v u may (ap (λ (w : View). w.actor.locked) same);
}

-- ---- turning to other work

turned_at : WorkIsTakenBack → (plan : Plan) (v : View) (x : ℕ) (words : List ℕ) (views : List View) (id : ℕ)
    → (stands : Stands plan words views) → get_elem? views id ≡ some (rested v)
    → PassesNone (is_about x) (open_work v) ⊎ PassesOne (is_about x) (open_work v)
    → Passes plan words (set views id (turned v x)) v.taken v.actor.locked stands.machine
turned_at law plan v x words views id stands here (inl none) =
    (becomes_same plan (rested v) (turned v x)
    (ap (λ (ds : List Duty). with_work v [] ds) (sym none.left)
    ∙ ap (λ (ds : List Duty). with_work v ds (filter (λ d. not (is_about x d)) (open_work v)))
    (sym none.passed))).passes words views id stands here
turned_at law plan v x words views id stands here (inr one) =
    let taken =
    rearranged plan words views id (rested v) stands here (one.found ∷ []) (one.before ++ one.after)
    (law stands.accounts (1 + stands.machine.layout.workers) stands.machine v.thread (rested v).actor one.before
    one.after one.found stands.counts (stands.same_actor id (rested v) here) refl one.whole) in
    subst (λ (ds : List Duty). Passes plan words
    (set views id (with_work v ds (filter (λ d. not (is_about x d)) (open_work v)))) v.taken v.actor.locked
    stands.machine)
    (sym one.passed)
    (subst (λ (ds : List Duty). Passes plan words (set views id (with_work v (one.found ∷ []) ds))
    v.taken v.actor.locked stands.machine) (sym one.left) taken)

-- A hand turns to its work about a row: it puts its next duty aside, and takes back the one about the row, if there is
-- one.
pub turned_becomes : WorkIsPutAside → WorkIsTakenBack → (plan : Plan) (v : View) (x : ℕ) → MayWait v.actor.agenda
    → Becomes plan v (turned v x)
turned_becomes put take plan v x may =
    then_begins put plan v (turned v x) may refl (λ y locks. refl) (λ words views id stands here.
    let fits =
    (stands.counts.kept.core.each v.thread (rested v).actor (stands.same_actor id (rested v) here)).2 in
    let few : count_by (is_about x) (open_work v) ≤ 1 = omega (arith, fits.apart x) in
    turned_at take plan v x words views id stands here (passes_one (is_about x) (open_work v) few))

-- ---- new work

-- A hand begins to retain an object that it may use.
pub retaining_becomes : WorkIsPutAside → RetainsBegin → ImmortalsAreFree → (plan : Plan) (v : View) (x : ℕ)
    → IsRunning v → HasNoWork v x → MayUse v x → length v.references < most_references
    → Becomes plan v (retaining v x)
retaining_becomes put law free plan v x running none may few =
    then_begins put plan v (retaining v x) running.1 refl (λ y locks. refl)
    (λ words views id stands here.
    let usable =
    has_at_hand free plan words views id v x
    (record { stands = stands; here = here; running = running.0; free = none }) may in
    let s = usable.stands in
    let t = v.thread in
    let told = s.same_layout id (rested v) here in
    with_at_hand usable
    (begun plan words views id (rested v) s here (RetainLoad x AsCaller ∷ []) (open_work v)
    (with_reference v.layout x v.references) v.in_field (with_one_more (s.accounts t) AsCaller x)
    (law s.accounts (1 + s.machine.layout.workers) s.machine t (rested v).actor x s.counts
    (is_ready plan words views id v s here running.0) (alone v x none) usable.at_hand
    (λ counted. omega (
      arith,
      s.holding id (rested v) x here counted,
      count_by-le-length (λ (y : ℕ). y == x) v.references,
      few,
    )))
    (λ y counted. omega (
      arith,
      s.holding id (rested v) y here (subst (λ (l : Layout). IsCounted l y) told counted),
      count_with_reference v.layout x y v.references counted,
    ))
    (λ depth i y. omega (arith, s.no_variables t depth i y))))

-- A hand begins to give up a reference that it holds.
pub releasing_becomes : WorkIsPutAside → ReleasesBegin → ImmortalsAreFree → (plan : Plan) (v : View) (x : ℕ)
    → IsRunning v → HasNoWork v x → HoldsOne v x → KeepsLock v x → Becomes plan v (releasing v x)
releasing_becomes put law free plan v x running none holding keeps =
    then_begins put plan v (releasing v x) running.1 refl (λ y locks. refl)
    (λ words views id stands here.
    let spare =
    can_give_up free plan words views id v x
    (record { stands = stands; here = here; running = running.0; free = none }) holding keeps in
    let s = spare.stands in
    let t = v.thread in
    let told = s.same_layout id (rested v) here in
    with_spare spare
    (begun plan words views id (rested v) s here (ReleaseLoad x AsCaller ∷ []) (open_work v)
    (without_reference v.layout x v.references) v.in_field (with_one_less (s.accounts t) AsCaller x)
    (law s.accounts (1 + s.machine.layout.workers) s.machine t (rested v).actor x s.counts
    (is_ready plan words views id v s here running.0) (alone v x none) spare.more spare.keeps)
    (λ y counted. omega (
      arith,
      s.holding id (rested v) y here (subst (λ (l : Layout). IsCounted l y) told counted),
      count_without_reference v.layout x y v.references counted,
    ))
    (λ depth i y. omega (arith, s.no_variables t depth i y))))

-- A worker's hand with a row left begins the birth of an object.
pub bearing_becomes : WorkIsPutAside → BirthsBegin → (plan : Plan) (v : View) (word : ℕ) → IsRunning v
    → 0 < v.thread → has_room v.layout v.thread v.actor.used ≡ true → is_counted_kind (kind_of_word word) ≡ true
    → cells_of word ≤ v.layout.cells → Becomes plan v (bearing v word)
bearing_becomes put law plan v word running worker room kind few =
    then_begins put plan v (bearing v word) running.1 refl (λ y locks. refl)
    (λ words views id stands here.
    let s = stands in
    let m = s.machine in
    let t = v.thread in
    let told = s.same_layout id (rested v) here in
    begun plan words views id (rested v) s here (BirthKind (next_row v) AsCaller word ∷ []) (open_work v)
    (next_row v ∷ v.references) v.in_field (with_one_more (s.accounts t) AsCaller (next_row v))
    (subst (λ (l : Layout).
    Counts (with_account s.accounts t (with_one_more (s.accounts t) AsCaller (row_at l t v.actor.used)))
    (1 + m.layout.workers)
    (with_actor m t (working v.actor (BirthKind (row_at l t v.actor.used) AsCaller word ∷ []) (open_work v))))
    (sym told)
    (law s.accounts (1 + m.layout.workers) m t (rested v).actor word s.counts
    (is_ready plan words views id v s here running.0) worker
    (subst (λ (l : Layout). has_room l t v.actor.used ≡ true) told room) kind
    (subst (λ (l : Layout). cells_of word ≤ l.cells) told few)))
    (λ y counted. omega (
      arith,
      s.holding id (rested v) y here (subst (λ (l : Layout). IsCounted l y) told counted),
      count_more (next_row v) y v.references,
    ))
    (λ depth i y. omega (arith, s.no_variables t depth i y)))
