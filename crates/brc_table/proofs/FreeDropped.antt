-- A hand that has nothing to do gives up its references to immortal objects: no count has them, and no word changes.
use Rattle.std.proofs.Common.{◌≡◌, ℕ, zero, suc, ◌+◌, ◌-◌, ◌<◌, ◌≤◌, Bool, true, cond, None, Some, List, [], ◌∷◌, ◌++◌, set, inl, inr, refl, sym, ap, ◌∙◌, subst, arith}
use Rattle.std.specs.Prelude.{◌==◌, ◌||◌, ◌&&◌, count_by, nat_le, nat_lt}
use Rattle.std.proofs.lemmas.Bool.{cases_Bool, cases_lt, eq-eqb, eqb-true, ne_eqb, leb-true, le-leb, ltb-true, lt-ltb}
use Rattle.std.proofs.lemmas.Bool.Decides.{eqb_tells}
use Rattle.std.proofs.lemmas.List.{set-set}
use Rattle.std.proofs.lemmas.Option.{slice_get_within}
use mathlib.Core.Option.{some}
use lib.ListN.{get_elem?}
use Rattle.atomic_table.proofs.Lists.{set_again}
use Rattle.brc_word.specs.Words.{immortal_local, local_word}
use Rattle.brc_model.specs.declared.duty.Holding.TheVariants.{ByVariable, AsCaller}
use Rattle.brc_model.specs.declared.duty.Duty.{Duty}
use Rattle.brc_model.specs.declared.duty.Duty.TheVariants.{ReleaseLoad}
use Rattle.brc_model.specs.declared.address.Address.{Address}
use Rattle.brc_model.specs.declared.address.Address.TheVariants.{Local, Gate, KindOf, Cell, Field}
use Rattle.brc_model.specs.declared.layout.Layout.{Layout}
use Rattle.brc_model.specs.Layout.{none_row, first_immortal_list, first_number, is_immortal_row}
use Rattle.brc_model.specs.Duties.{continuation, ready}
use Rattle.brc_model.specs.References.{one_if}
use Rattle.brc_model.specs.declared.actor.Actor.{Actor}
use Rattle.brc_model.specs.Machine.{Machine, same_address, written, is_running, life_by, actor_by, machine_by_duty, with_actor}
use Rattle.brc_model.specs.Accounts.{Account, Accounts}
use Rattle.brc_model.specs.OpenWork.{is_about, about_of}
use Rattle.brc_model.specs.Counting.{Counts, with_account, with_one_less, working, HasNoneAbout}
use Rattle.brc_model.specs.CountingLaws.{DutiesAreKept, ReleasesBegin}
use Rattle.brc_table.specs.Plan.{Plan}
use Rattle.brc_table.specs.declared.view.View.{View}
use Rattle.brc_table.specs.Rule.{Stands}
use Rattle.brc_table.specs.Calls.{IsFree}
use Rattle.brc_table.proofs.Lists.{and_first, and_second, slice_get-set_same}
use Rattle.brc_table.proofs.Accounts.{with_account_same, with_account_other, immortal_apart}
use Rattle.brc_table.proofs.Stepping.{same_is}
use Rattle.brc_table.proofs.ThreadsKept.{threads_same}
use Rattle.brc_table.proofs.Changing.{guards_before, Changes, changed, changed_accounts, changed_machine}
use Rattle.brc_table.proofs.Duties.{runs_on}

-- ---- immortal rows

-- The immortal rows have numbers: none's row has 0, and then come the immortal lists.
abbrev pub immortal_at : Layout → ℕ → ℕ
immortal_at layout zero = none_row
immortal_at layout (suc s) = first_immortal_list layout + s

at_immortal : (layout : Layout) (j : ℕ) → j < 1 + layout.immortal_lists
    → is_immortal_row layout (immortal_at layout j) ≡ true
at_immortal layout zero low = refl
at_immortal layout (suc s) low =
    let first = first_immortal_list layout in
    let x = first + s in
    ap (λ (b : Bool). b || (nat_le first x && nat_lt x (first_number layout)))
    (ne_eqb x none_row (λ e. absurd (omega (arith, e))))
    ∙ (ap (λ (b : Bool). b && nat_lt x (first_number layout)) (le-leb first x (omega arith))
    ∙ lt-ltb x (first_number layout) (omega (arith, low)))

-- The row has such a number.
pub record IsNumbered (layout : Layout) (x : ℕ) : Type 0 where
  pub number : ℕ
  pub low : number < 1 + layout.immortal_lists
  pub is : x ≡ immortal_at layout number

-- Each immortal row does.
pub immortal_numbered : (layout : Layout) (x : ℕ) → is_immortal_row layout x ≡ true → IsNumbered layout x
immortal_numbered layout x immortal =
    elim (cases_Bool (x == none_row)) [
      | inl none ↦ record { number = 0; low = omega arith; is = eqb-true x none_row none }
      | inr other ↦
          let first = first_immortal_list layout in
          let behind = sym (ap (λ (b : Bool). b || (nat_le first x && nat_lt x (first_number layout))) other)
          ∙ immortal in
          let low = leb-true first x (and_first (nat_le first x) (nat_lt x (first_number layout)) behind) in
          let high = ltb-true x (first_number layout)
          (and_second (nat_le first x) (nat_lt x (first_number layout)) behind) in
          record { number = suc (x - first); low = omega (arith, low, high); is = omega (arith, low) }
    ]

-- ---- references to immortal objects are dropped

-- Writing the word that is there changes no word.
unwritten : (memory : Address → ℕ) (a b : Address) → written memory a (memory a) b ≡ memory b
unwritten memory a b =
    elim (cases_Bool (same_address a b)) [
      | inl one ↦ ap (λ (e : Bool). cond e (memory a) (memory b)) one ∙ ap memory (same_is a b one)
      | inr other ↦ ap (λ (e : Bool). cond e (memory a) (memory b)) other
    ]

-- The rule holds with accounts in which the hand's thread has no reference to the immortal objects with the first n
-- numbers, and fields are as before.
pub record HasDropped (plan : Plan) (words : List ℕ) (views : List View) (v : View) (before : Machine) (n : ℕ) : Type 0
  where
    pub stands : Stands plan words views
    pub fields : (y : ℕ) → stands.machine.memory (Field y) ≡ before.memory (Field y)
    pub none : (j : ℕ) → j < n → stands.accounts v.thread AsCaller (immortal_at v.layout j) ≡ 0

-- The thread has just k references to the next one.
record HasJust (plan : Plan) (words : List ℕ) (views : List View) (v : View) (before : Machine) (n k : ℕ) : Type 0 where
  done : HasDropped plan words views v before n
  just : done.stands.accounts v.thread AsCaller (immortal_at v.layout n) ≡ k

module _ (kept : DutiesAreKept) (law : ReleasesBegin) (plan : Plan) (words : List ℕ) (id : ℕ) (v : View)
    (free : IsFree v) (unlocked : v.actor.locked ≡ None) (before : Machine) (views : List View)
    (here : get_elem? views id ≡ some v) where
  module _ (j : ℕ) (low : j < 1 + v.layout.immortal_lists) (k : ℕ)
      (has : HasJust plan words views v before j (suc k)) where
    abbrev s : Stands plan words views
    s = has.done.stands

    abbrev m : Machine
    m = s.machine

    abbrev n : ℕ
    n = 1 + m.layout.workers

    abbrev t : ℕ
    t = v.thread

    abbrev a : Actor
    a = v.actor

    abbrev x : ℕ
    x = immortal_at v.layout j

    abbrev busy : Actor
    busy = working a (ReleaseLoad x AsCaller ∷ []) v.actor.aside

    abbrev less : Account
    less = with_one_less (s.accounts t) AsCaller x

    abbrev p : Accounts
    p = with_account s.accounts t less

    immortal : is_immortal_row m.layout x ≡ true
    immortal = subst (λ (l : Layout). is_immortal_row l x ≡ true) (s.same_layout id v here) (at_immortal v.layout j low)

    immortal_word : m.memory (Local x) ≡ local_word 0 immortal_local
    immortal_word = s.counts.kept.core.immortal_words x immortal

    alone : HasNoneAbout a x
    alone =
        omega (
          arith,
          ap (λ (ds : List Duty). one_if (about_of x ds)) free.agenda,
          ap (count_by (is_about x)) free.aside,
        )

    begun : Counts p n (with_actor m t busy)
    begun =
        law s.accounts n m t a x s.counts
        (record { found = s.same_actor id v here; running = free.running; agenda = free.agenda }) alone
        (omega (arith, has.just))
        (λ e. let wrong : None ≡ Some x = sym unlocked ∙ e in absurd cc)

    after : Counts p n (machine_by_duty (with_actor m t busy) t busy (ReleaseLoad x AsCaller) [])
    after =
        (kept p n (with_actor m t busy) t busy (ReleaseLoad x AsCaller) [] begun (record {
          found = slice_get-set_same m.actors t busy (slice_get_within m.actors t a (s.same_actor id v here));
          agenda = refl;
          alive = runs_on v free.running;
        })).1

    -- what is left to do after the local word was loaded
    abbrev left_to_do : ℕ → List Duty
    left_to_do word =
        ready v.actor.head
        (continuation m.layout t (is_running v.actor.status) v.actor.head (ReleaseLoad x AsCaller) word ++ [])

    -- Nothing is left to do.
    rests : left_to_do (m.memory (Local x)) ≡ v.actor.agenda
    rests = ap left_to_do immortal_word ∙ sym free.agenda

    abbrev dropped : Machine
    dropped = machine_by_duty (with_actor m t busy) t busy (ReleaseLoad x AsCaller) []

    -- Each row lives as before.
    still : (y : ℕ) → dropped.life y ≡ m.life y
    still y =
        ap (λ (word : ℕ). life_by m.life t (ReleaseLoad x AsCaller)
        (continuation m.layout t (is_running v.actor.status) v.actor.head (ReleaseLoad x AsCaller) word) y)
        immortal_word

    -- The machine after the release of the immortal object is one in which the hand is as before.
    abbrev changes : Changes plan words views v v s words
    changes = record {
      accounts = p;
      machine = machine_by_duty (with_actor m t busy) t busy (ReleaseLoad x AsCaller) [];
      counts = after;
      layout_same = refl;
      length_is = refl;
      reads = λ b there. unwritten m.memory (Local x) b ∙ s.reads b there;
      actors =
          set-set m.actors t busy
          (actor_by m.layout t busy (ReleaseLoad x AsCaller) [] (m.memory (Local x)))
          ∙ ap (λ (ds : List Duty). set m.actors t (working a ds a.aside)) rests;
      thread_same = refl;
      told_same = refl;
      given_more = λ u is. is;
      gone_stays = λ gone. (gone, refl);
      lends_none = s.lends_none id v here;
      joined_here = s.joined id v here;
      holding = λ y counted.
          ap (λ (account : Account). account AsCaller y) (with_account_same s.accounts t less)
          ∙ omega (arith, s.holding id v y here counted, immortal_apart m.layout x y immortal counted);
      others = with_account_other s.accounts t less;
      no_variables = λ u depth i y. elim (eqb_tells u t) [
        | inl this ↦
            ap (λ (w : ℕ). with_account s.accounts t less w (ByVariable depth i) y) this.1
            ∙ (ap (λ (account : Account). account (ByVariable depth i) y) (with_account_same s.accounts t less)
            ∙ omega (arith, s.no_variables t depth i y))
        | inr apart ↦
            ap (λ (account : Account). account (ByVariable depth i) y) (with_account_other s.accounts t less u apart.1)
            ∙ s.no_variables u depth i y
      ];
      kinds_stay = λ y word more is. unwritten m.memory (Local x) (KindOf y) ∙ is;
      cells_stay = λ other y w apart is guards. (
        guards_before m dropped w y (still y) (unwritten m.memory (Local x) (Gate y)) guards,
        λ i. unwritten m.memory (Local x) (Cell y i),
      );
      kinds_here = λ y word more seen.
          unwritten m.memory (Local x) (KindOf y) ∙ s.kinds_seen id y word v here more seen;
      cells_here = λ y i word guards seen.
          unwritten m.memory (Local x) (Cell y i)
          ∙ s.cells_seen id y i word v here
          (guards_before m dropped v y (still y) (unwritten m.memory (Local x) (Gate y)) guards) seen;
      threads = λ i there. threads_same plan words views i v v s there refl refl refl;
    }

    -- how many references the thread has to the object with a number, after the release
    left_over : (i : ℕ)
        → (changed plan words views id v v s here words changes).accounts t AsCaller (immortal_at v.layout i)
        ≡ less AsCaller (immortal_at v.layout i)
    left_over i =
        ap (λ (q : Accounts). q t AsCaller (immortal_at v.layout i))
        (changed_accounts plan words views id v v s here words changes)
        ∙ ap (λ (account : Account). account AsCaller (immortal_at v.layout i)) (with_account_same s.accounts t less)

    -- The thread has one reference to the object less.
    drops_one : HasJust plan words views v before j k
    drops_one =
        subst (λ (l : List View). HasJust plan words l v before j k) (set_again views id v here) (record {
          done = record {
            stands = changed plan words views id v v s here words changes;
            fields = λ y.
                ap (λ (w : Machine). w.memory (Field y)) (changed_machine plan words views id v v s here words changes)
                ∙ (unwritten m.memory (Local x) (Field y) ∙ has.done.fields y);
            none = λ i under. left_over i ∙ omega (arith, has.done.none i under);
          };
          just =
              left_over j
              ∙ (let one : one_if (x == x) ≡ 1 = ap one_if (eq-eqb x x refl) in omega (arith, has.just, one));
        })

  -- The thread has no reference to the object.
  drops_all : (j : ℕ) → j < 1 + v.layout.immortal_lists → (k : ℕ) → HasJust plan words views v before j k
      → HasJust plan words views v before j 0
  drops_all j low zero has = has
  drops_all j low (suc k) has = drops_all j low k (drops_one j low k has)

  drops_next : (j : ℕ) → j < 1 + v.layout.immortal_lists → HasDropped plan words views v before j
      → HasDropped plan words views v before (suc j)
  drops_next j low has =
      let all = drops_all j low (has.stands.accounts v.thread AsCaller (immortal_at v.layout j))
      (record { done = has; just = refl }) in
      record {
        stands = all.done.stands;
        fields = all.done.fields;
        none = λ i under.
            elim (cases_lt i j) [
              | inl first ↦ all.done.none i first
              | inr last ↦
                  let same : i ≡ j = omega (arith, under, last) in
                  ap (λ (w : ℕ). all.done.stands.accounts v.thread AsCaller (immortal_at v.layout w)) same ∙ all.just
            ];
      }

  -- The thread has no reference to any of the first immortal objects.
  pub drops_first : (n : ℕ) → n ≤ 1 + v.layout.immortal_lists → HasDropped plan words views v before 0
      → HasDropped plan words views v before n
  drops_first zero low has = has
  drops_first (suc n) low has = drops_next n (omega (arith, low)) (drops_first n (omega (arith, low)) has)
