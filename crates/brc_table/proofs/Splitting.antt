-- Main gives out a worker's hand, with one of its references to the root, and the rule holds again.
use Rattle.std.proofs.Common.{◌≡◌, ◌≢◌, ℕ, ◌+◌, ◌<◌, ◌≤◌, Bool, true, false, Option, List, [], ◌∷◌, ◌++◌, length, set, inl, inr, Some, refl, sym, ap, ◌∙◌, subst, arith, None}
use Rattle.std.specs.Prelude.{◌==◌, ◌||◌, ◌&&◌, nat_lt, slice_get, All}
use Rattle.std.proofs.lemmas.Bool.{cases_Bool, eq-eqb, lt-leb, false≢true}
use Rattle.std.proofs.lemmas.Bool.Decides.{eqb_tells}
use Rattle.std.proofs.lemmas.List.{length-set}
use mathlib.Core.Option.{some, some-injective}
use lib.ListN.{get_elem?}
use Rattle.atomic_table.specs.Table.{State, Splits}
use Rattle.atomic_table.proofs.Lists.{at_set, set_else, at_longer, at_last}
use Rattle.brc_model.specs.declared.duty.Holding.TheVariants.{ByVariable, AsCaller}
use Rattle.brc_model.specs.declared.address.Address.TheVariants.{KindOf, Cell, Field}
use Rattle.brc_model.specs.declared.layout.Layout.{Layout}
use Rattle.brc_model.specs.Layout.{first_immortal_list, first_number, is_immortal_row, IsCounted, root_row}
use Rattle.brc_model.specs.AbstractState.{PassOn, ByThread}
use Rattle.brc_model.specs.References.{reference_of}
use Rattle.brc_model.specs.Accounts.{Account, Accounts, HoldsNone}
use Rattle.brc_model.specs.Machine.{Machine, idle_actor, with_moves}
use Rattle.brc_model.specs.Counting.{Counts, MayGiveUp, with_account, with_one_less, with_one_more}
use Rattle.brc_model.specs.CountingLaws.{ReferencesAreHandedOver}
use Rattle.brc_table.specs.Plan.{Plan}
use Rattle.brc_table.specs.declared.view.View.{View}
use Rattle.brc_table.specs.Views.{holds, is_given, giving, worker_view}
use Rattle.brc_table.specs.Rule.{Guards, IsGone, Stands}
use Rattle.brc_table.specs.Homes.{TableStands}
use Rattle.brc_table.proofs.NoneAbout.{has_none}
use Rattle.brc_table.proofs.FirstHand.{is_first}
use Rattle.brc_table.proofs.FieldsKept.{fields_kept, fields_longer}
use Rattle.brc_table.specs.KnownWords.{knows_kind, known_cell, has_started, started_word, knows_gone}
use Rattle.brc_table.specs.Threads.{thread_word, ThreadsStand}
use Rattle.brc_table.specs.Giving.{MayGive}
use Rattle.brc_table.proofs.Lists.{set_view, at_end}
use Rattle.brc_table.proofs.Picked.{count_more, count_less}
use Rattle.brc_table.proofs.Accounts.{with_account_same, with_account_other}

-- ---- the hands afterwards

module _ (law : ReferencesAreHandedOver) (plan : Plan) (words : List ℕ) (views : List View) (id : ℕ) (v : View)
    (t : ℕ) (may : MayGive v t) (old : Stands plan words views) (here : get_elem? views id ≡ some v) where
  abbrev main_after : View
  main_after = giving v t

  abbrev worker : View
  worker = worker_view v.layout t

  abbrev hands : List View
  hands = set views id main_after ++ worker ∷ []

  -- A hand is main's, the new one, or another one as it was.
  data Whose (other : ℕ) (z : View) : Type 0 where
    Mains : other ≡ id → main_after ≡ z → Whose other z
    Another : other ≢ id → get_elem? views other ≡ some z → Whose other z
    New : other ≡ length views → worker ≡ z → Whose other z

  whose : (other : ℕ) (z : View) → get_elem? hands other ≡ some z → Whose other z
  whose other z is = elim (at_end (set views id main_after) worker z other is) [
    | inl there ↦ elim (at_set views id other main_after z there) [
      | inl same ↦ Mains same.0 same.1
      | inr apart ↦ Another apart.0 apart.1
    ]
    | inr new ↦ New (new.0 ∙ length-set views id main_after) new.1
  ]

  -- They are all there.
  main_there : get_elem? hands id ≡ some main_after
  main_there =
      at_longer (set views id main_after) (worker ∷ []) id main_after (set_view views id v main_after here)

  worker_there : get_elem? hands (length views) ≡ some worker
  worker_there = at_last (set views id main_after) worker (length views) (length-set views id main_after)

  another_there : (other : ℕ) (z : View) → other ≢ id → get_elem? views other ≡ some z
      → get_elem? hands other ≡ some z
  another_there other z apart is =
      at_longer (set views id main_after) (worker ∷ []) other z (set_else views id other main_after apart ∙ is)

  -- ---- their threads

  t_apart : t ≢ v.thread
  t_apart e = absurd (omega (arith, e, may.is_main, may.some_worker))

  -- Another hand's thread isn't main,
  not_main : (other : ℕ) (z : View) → other ≢ id → get_elem? views other ≡ some z → z.thread ≢ v.thread
  not_main other z apart is e = apart (old.one_hand other id z v is here e)

  -- nor the worker, whose hand wasn't given out.
  not_worker : (other : ℕ) (z : View) → get_elem? views other ≡ some z → z.thread ≢ t
  not_worker other z is e =
      let positive : 0 < z.thread = omega (arith, e, may.some_worker) in
      let given = old.given_out id other v z here may.is_main is positive in
      false≢true (sym may.not_given ∙ (ap (λ (k : ℕ). is_given k v) (sym e) ∙ given))

  -- ---- the machine and the accounts afterwards

  abbrev p : Accounts
  p = old.accounts

  abbrev machine : Machine
  machine =
      with_moves old.machine (PassOn (reference_of v.thread AsCaller root_row) (ByThread t AsCaller) ∷ [])

  abbrev less : Account
  less = with_one_less (p v.thread) AsCaller root_row

  abbrev more : Account
  more = with_one_more (p t) AsCaller root_row

  abbrev after : Accounts
  after = with_account (with_account p v.thread less) t more

  after_main : after v.thread ≡ less
  after_main =
      with_account_other (with_account p v.thread less) t more v.thread (λ e. t_apart (sym e))
      ∙ with_account_same p v.thread less

  after_worker : after t ≡ more
  after_worker = with_account_same (with_account p v.thread less) t more

  after_others : (k : ℕ) → k ≢ v.thread → k ≢ t → after k ≡ p k
  after_others k apart other =
      with_account_other (with_account p v.thread less) t more k other
      ∙ with_account_other p v.thread less k apart

  -- The worker has done nothing, and holds nothing.
  worker_idle : (slice_get old.machine.actors t ≡ Some (idle_actor 0)) × HoldsNone (p t)
  worker_idle =
      let known : t ≤ old.machine.layout.workers =
      subst (λ (l : Layout). t ≤ l.workers) (old.same_layout id v here) may.known_worker in
      old.idle t (omega (arith, known)) (λ other z is e. not_worker other z is e)

  root_counted : IsCounted old.machine.layout root_row
  root_counted =
      let l = old.machine.layout in
      ap (λ (b : Bool). b && nat_lt root_row (first_number l))
      (lt-leb (first_immortal_list l) root_row (omega arith))

  -- If main has locked the root, it has another reference to it.
  keeps_root : MayGiveUp (p v.thread) v.actor root_row
  keeps_root e =
      elim (may.keeps e) [
        | inl immortal ↦
            absurd (false≢true (sym root_counted
            ∙ subst (λ (l : Layout). is_immortal_row l root_row ≡ true) (old.same_layout id v here) immortal))
        | inr two ↦ omega (arith, old.holding id v root_row here root_counted, two)
      ]

  counts : Counts after (1 + old.machine.layout.workers) machine
  counts =
      law p (1 + old.machine.layout.workers) old.machine v.thread t v.actor (idle_actor 0) root_row old.counts
      (old.same_actor id v here) worker_idle.0 (λ e. t_apart (sym e)) (has_none v root_row may.no_work) refl refl
      root_counted
      (omega (arith, old.holding id v root_row here root_counted, may.holds_root))
      keeps_root
      (omega (arith, worker_idle.1 AsCaller root_row))

  -- ---- each part of the rule

  acts_after : (other : ℕ) (z : View) → Whose other z → slice_get machine.actors z.thread ≡ Some z.actor
  acts_after other z (Mains same is) =
      subst (λ (w : View). slice_get machine.actors w.thread ≡ Some w.actor) is (old.same_actor id v here)
  acts_after other z (Another apart is) = old.same_actor other z is
  acts_after other z (New same is) =
      subst (λ (w : View). slice_get machine.actors w.thread ≡ Some w.actor) is worker_idle.0

  told_after : (other : ℕ) (z : View) → Whose other z → z.layout ≡ machine.layout
  told_after other z (Mains same is) =
      subst (λ (w : View). w.layout ≡ machine.layout) is (old.same_layout id v here)
  told_after other z (Another apart is) = old.same_layout other z is
  told_after other z (New same is) = subst (λ (w : View). w.layout ≡ machine.layout) is (old.same_layout id v here)

  lends_after : (other : ℕ) (z : View) → Whose other z → z.actor.lent ≡ None
  lends_after other z (Mains same is) = subst (λ (w : View). w.actor.lent ≡ None) is (old.lends_none id v here)
  lends_after other z (Another apart is) = old.lends_none other z is
  lends_after other z (New same is) = subst (λ (w : View). w.actor.lent ≡ None) is refl

  kinds_after : (other x word : ℕ) (z : View) → Whose other z → 0 < word → knows_kind x word z ≡ true
      → old.machine.memory (KindOf x) ≡ word
  kinds_after other x word z (Mains same is) high seen =
      old.kinds_seen id x word v here high (subst (λ (w : View). knows_kind x word w ≡ true) (sym is) seen)
  kinds_after other x word z (Another apart is) high seen = old.kinds_seen other x word z is high seen
  kinds_after other x word z (New same is) high seen =
      absurd (false≢true (subst (λ (w : View). knows_kind x word w ≡ true) (sym is) seen))

  cells_after : (other x i word : ℕ) (z : View) → Whose other z → Guards machine z x → known_cell x i z ≡ Some word
      → old.machine.memory (Cell x i) ≡ word
  cells_after other x i word z (Mains same is) guards seen =
      old.cells_seen id x i word v here (subst (λ (w : View). Guards machine w x) (sym is) guards)
      (subst (λ (w : View). known_cell x i w ≡ Some word) (sym is) seen)
  cells_after other x i word z (Another apart is) guards seen = old.cells_seen other x i word z is guards seen
  cells_after other x i word z (New same is) guards seen =
      absurd (let wrong : None ≡ Some word = subst (λ (w : View). known_cell x i w ≡ Some word) (sym is) seen in cc)

  holding_after : (other : ℕ) (z : View) (x : ℕ) → Whose other z → IsCounted machine.layout x
      → after z.thread AsCaller x ≡ holds z x
  holding_after other z x (Mains same is) counted =
      subst (λ (w : View). after w.thread AsCaller x ≡ holds w x) is
      (ap (λ (a : Account). a AsCaller x) after_main
      ∙ omega (arith, old.holding id v x here counted, count_less root_row x v.references))
  holding_after other z x (Another apart is) counted =
      ap (λ (a : Account). a AsCaller x)
      (after_others z.thread (not_main other z apart is) (not_worker other z is))
      ∙ old.holding other z x is counted
  holding_after other z x (New same is) counted =
      subst (λ (w : View). after w.thread AsCaller x ≡ holds w x) is
      (ap (λ (a : Account). a AsCaller x) after_worker
      ∙ omega (arith, worker_idle.1 AsCaller x, count_more root_row x []))

  none_after : (k depth i x : ℕ) → after k (ByVariable depth i) x ≡ 0
  none_after k depth i x = elim (eqb_tells k t) [
    | inl this ↦
        ap (λ (j : ℕ). after j (ByVariable depth i) x) this.1
        ∙ (ap (λ (a : Account). a (ByVariable depth i) x) after_worker ∙ omega (arith, old.no_variables t depth i x))
    | inr other ↦ elim (eqb_tells k v.thread) [
      | inl main ↦
          ap (λ (j : ℕ). after j (ByVariable depth i) x) main.1
          ∙ (ap (λ (a : Account). a (ByVariable depth i) x) after_main
          ∙ omega (arith, old.no_variables v.thread depth i x))
      | inr apart ↦
          ap (λ (a : Account). a (ByVariable depth i) x) (after_others k apart.1 other.1) ∙ old.no_variables k depth i x
    ]
  ]

  -- The threads of main's hand and of the new one.
  main_thread : (z : View) → main_after ≡ z → z.thread ≡ v.thread
  main_thread z is = sym (ap (λ (w : View). w.thread) is)

  worker_thread : (z : View) → worker ≡ z → z.thread ≡ t
  worker_thread z is = sym (ap (λ (w : View). w.thread) is)

  apart_after : (one other : ℕ) (w z : View) → Whose one w → Whose other z → w.thread ≡ z.thread → one ≡ other
  apart_after one other w z (Mains same is) (Mains same' is') e = same ∙ sym same'
  apart_after one other w z (Mains same is) (Another apart is') e =
      absurd (not_main other z apart is' (sym e ∙ main_thread w is))
  apart_after one other w z (Mains same is) (New same' is') e =
      absurd (t_apart (sym (worker_thread z is') ∙ (sym e ∙ main_thread w is)))
  apart_after one other w z (Another apart is) (Mains same' is') e =
      absurd (not_main one w apart is (e ∙ main_thread z is'))
  apart_after one other w z (Another apart is) (Another apart' is') e = old.one_hand one other w z is is' e
  apart_after one other w z (Another apart is) (New same' is') e =
      absurd (not_worker one w is (e ∙ worker_thread z is'))
  apart_after one other w z (New same is) (Mains same' is') e =
      absurd (t_apart (sym (worker_thread w is) ∙ (e ∙ main_thread z is')))
  apart_after one other w z (New same is) (Another apart' is') e =
      absurd (not_worker other z is' (sym e ∙ worker_thread w is))
  apart_after one other w z (New same is) (New same' is') e = same ∙ sym same'

  idle_after : (k : ℕ) → k < 1 + machine.layout.workers
      → ((other : ℕ) (z : View) → get_elem? hands other ≡ some z → z.thread ≡ k → ⊥)
      → (slice_get machine.actors k ≡ Some (idle_actor 0)) × HoldsNone (after k)
  idle_after k low none =
      let no_main : k ≢ v.thread = λ e. none id main_after main_there (sym e) in
      let no_worker : k ≢ t = λ e. none (length views) worker worker_there (sym e) in
      let idle = old.idle k low (λ other z is e.
      none other z (another_there other z (λ same. no_main (sym e ∙ ap (λ (w : View). w.thread)
      (some-injective z v (sym is ∙ (ap (get_elem? views) same ∙ here))))) is) e) in
      (idle.0, subst HoldsNone (sym (after_others k no_main no_worker)) idle.1)

  -- Main has given out the worker's hand, and those that it gave out before.
  worker_given : is_given t main_after ≡ true
  worker_given = ap (λ (b : Bool). b || is_given t v) (eq-eqb t t refl)

  still_given : (k : ℕ) → is_given k v ≡ true → is_given k main_after ≡ true
  still_given k given = elim (t == k) as (λ b. (b || is_given k v) ≡ true) [
    | true ↦ refl
    | false ↦ given
  ]

  given_after : (one other : ℕ) (main z : View) → Whose one main → main.thread ≡ 0 → Whose other z → 0 < z.thread
      → is_given z.thread main ≡ true
  given_after one other main z (Mains same is) first (Mains same' is') later =
      absurd (omega (arith, later, main_thread z is', may.is_main))
  given_after one other main z (Mains same is) first (Another apart is') later =
      subst (λ (w : View). is_given z.thread w ≡ true) is
      (still_given z.thread (old.given_out id other v z here may.is_main is' later))
  given_after one other main z (Mains same is) first (New same' is') later =
      subst (λ (w : View). is_given z.thread w ≡ true) is
      (subst (λ (k : ℕ). is_given k main_after ≡ true) (sym (worker_thread z is')) worker_given)
  given_after one other main z (Another apart is) first whose_z later =
      absurd (not_main one main apart is (first ∙ sym may.is_main))
  given_after one other main z (New same is) first whose_z later =
      absurd (omega (arith, first, worker_thread main is, may.some_worker))

  joined_after : (other : ℕ) (z : View) → Whose other z → All (IsGone machine.actors) z.joined
  joined_after other z (Mains same is) =
      subst (λ (w : View). All (IsGone machine.actors) w.joined) is (old.joined id v here)
  joined_after other z (Another apart is) = old.joined other z is
  joined_after other z (New same is) =
      subst (λ (w : View). All (IsGone machine.actors) w.joined) is (λ k d low. absurd (omega (arith, low)))

  -- No thread's word changes.
  not_given_before : (k : ℕ) → is_given k main_after ≡ false → is_given k v ≡ false
  not_given_before k none = elim (cases_Bool (is_given k v)) [
    | inl given ↦ absurd (false≢true (sym none ∙ still_given k given))
    | inr not ↦ not
  ]

  main_started : (k : ℕ) → is_given k main_after ≡ true → has_started k v ≡ true
  main_started k given = elim (eqb_tells t k) [
    | inl same ↦ ap (λ (j : ℕ). has_started j v) (sym same.1) ∙ may.started
    | inr apart ↦
        old.threads.given_started id k v here (sym (ap (λ (b : Bool). b || is_given k v) apart.0) ∙ given)
  ]

  threads_after : ThreadsStand machine.layout words hands
  threads_after =
      let threads = old.threads in
      record {
        started = λ other z is. elim (whose other z is) [
          | Mains same this ↦
              subst (λ (w : View). 0 < thread_word words w.thread) this (threads.started id v here)
          | Another apart there ↦ threads.started other z there
          | New same this ↦
              subst (λ (w : View). 0 < thread_word words w.thread) this
              (threads.started_seen id t v here
              (subst (λ (l : Layout). t ≤ l.workers) (old.same_layout id v here) may.known_worker) may.started)
        ];
        started_seen = λ other k z is low seen. elim (whose other z is) [
          | Mains same this ↦
              threads.started_seen id k v here low (subst (λ (w : View). has_started k w ≡ true) (sym this) seen)
          | Another apart there ↦ threads.started_seen other k z there low seen
          | New same this ↦
              absurd (false≢true (subst (λ (w : View). has_started k w ≡ true) (sym this) seen))
        ];
        given_started = λ other k z is given. elim (whose other z is) [
          | Mains same this ↦
              subst (λ (w : View). has_started k w ≡ true) this
              (main_started k (subst (λ (w : View). is_given k w ≡ true) (sym this) given))
          | Another apart there ↦ threads.given_started other k z there given
          | New same this ↦ absurd (false≢true (subst (λ (w : View). is_given k w ≡ true) (sym this) given))
        ];
        gone_seen = λ other k z is low seen. elim (whose other z is) [
          | Mains same this ↦
              threads.gone_seen id k v here low (subst (λ (w : View). knows_gone k w ≡ true) (sym this) seen)
          | Another apart there ↦ threads.gone_seen other k z there low seen
          | New same this ↦
              absurd (false≢true (subst (λ (w : View). knows_gone k w ≡ true) (sym this) seen))
        ];
        unstarted = λ other k z is first pos low none. elim (whose other z is) [
          | Mains same this ↦
              threads.unstarted id k v here may.is_main pos low
              (not_given_before k (subst (λ (w : View). is_given k w ≡ false) (sym this) none))
              ∙ ap (started_word k) this
          | Another apart there ↦ threads.unstarted other k z there first pos low none
          | New same this ↦ absurd (omega (arith, first, worker_thread z this, may.some_worker))
        ];
      }

  pub given_out : Stands plan words hands
  given_out = record {
    accounts = after;
    machine = machine;
    counts = counts;
    layout_is = old.layout_is;
    plain = old.plain;
    lines = old.lines;
    length_is = old.length_is;
    reads = old.reads;
    same_actor = λ other z is. acts_after other z (whose other z is);
    same_layout = λ other z is. told_after other z (whose other z is);
    lends_none = λ other z is. lends_after other z (whose other z is);
    first_kinds = old.first_kinds;
    kinds_seen = λ other x word z is high seen. kinds_after other x word z (whose other z is) high seen;
    cells_seen = λ other x i word z is guards seen.
        cells_after other x i word z (whose other z is) guards seen;
    holding = λ other z x is counted. holding_after other z x (whose other z is) counted;
    no_variables = none_after;
    one_hand = λ one other w z is that same. apart_after one other w z (whose one w is) (whose other z that) same;
    idle = idle_after;
    given_out = λ one other main z is first that later.
        given_after one other main z (whose one main is) first (whose other z that) later;
    joined = λ other z is. joined_after other z (whose other z is);
    threads = threads_after;
  }

  -- Its machine has the fields of the old one.
  pub same_fields : (x : ℕ) → given_out.machine.memory (Field x) ≡ old.machine.memory (Field x)
  unfolding given_out
  same_fields x = refl

-- What a table asks of main's seat that is cut in two.
pub splits : {T : Type 0} → ReferencesAreHandedOver → (plan : Plan) (id : ℕ) (v : View) (t : ℕ) → MayGive v t
    → Splits (λ (s : State (Option T) View). TableStands plan s.words s.homes s.views) id v (giving v t)
    (worker_view v.layout t)
splits law plan id v t may = λ s holds here.
    let old = holds.stands in
    let now = given_out law plan s.words s.views id v t may old here in
    let mains =
    fields_kept old.machine old.machine s.homes s.views id v (giving v t) holds.fields here refl
    (record { taken = refl; in_field = λ x locks. refl; locked = refl; used = λ x uses. uses }) (λ x which. refl) in
    record {
      stands = now;
      fields =
          fields_longer old.machine now.machine s.homes (set s.views id (giving v t))
          (worker_view v.layout t) mains refl
          refl (now.layout_is ∙ sym old.layout_is) (same_fields law plan s.words s.views id v t may old here);
      first = λ only.
          let none : t ∷ v.given ≡ [] =
          ap (λ (z : View). z.given) (is_first plan.layout (hands law plan s.words s.views id v t may old here) id
          (giving v t) (main_there law plan s.words s.views id v t may old here) only) in absurd cc;
    }
