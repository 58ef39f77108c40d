-- What the words of threads say is kept: if no word changes, and at each step of a hand.
use Rattle.std.proofs.Common.{◌≡◌, ◌≢◌, ◌⊎◌, ℕ, ◌<◌, ◌≤◌, Bool, true, false, List, [], ◌∷◌, ◌++◌, length, set, ⊎_elim, inl, inr, refl, sym, ap, ◌∙◌, subst, arith}
use Rattle.std.specs.Prelude.{◌==◌, ◌&&◌, ◌||◌, if◌then◌else◌}
use Rattle.std.specs.List.{list_any}
use Rattle.std.proofs.lemmas.Bool.{cases_Bool, eqb-true, false≢true}
use Rattle.std.proofs.lemmas.Bool.Decides.{eqb_tells}
use Rattle.std.proofs.lemmas.List.{get_or-set_same, get_or-set_other}
use Rattle.std.proofs.lemmas.List.Folds.{list_any-append}
use Rattle.std.proofs.lemmas.Option.{slice_get_within}
use mathlib.Core.Option.{some}
use lib.ListN.{get_elem?}
use Rattle.atomic_table.proofs.Lists.{at_set}
use Rattle.brc_model.specs.declared.address.Address.{Address}
use Rattle.brc_model.specs.declared.address.Address.TheVariants.{Local, Shared, Gate, KindOf, Marks, Cell, Field, Resource, ThreadWord}
use Rattle.brc_model.specs.declared.layout.Layout.{Layout}
use Rattle.brc_model.specs.Machine.{same_address}
use Rattle.brc_model.specs.Counting.{IsPlainLayout}
use Rattle.brc_table.specs.declared.view.View.{View}
use Rattle.brc_model.specs.declared.event.WordEvent.{WordEvent}
use Rattle.brc_table.specs.Plan.{Plan}
use Rattle.brc_table.specs.Places.{place, HasWord, IsObjectWord, FewFirstRows}
use Rattle.brc_table.specs.Views.{is_given}
use Rattle.brc_table.specs.KnownWords.{starts, has_started, started_word, shows_gone, knows_gone}
use Rattle.brc_table.specs.Rule.{thread_reading, Stands}
use Rattle.brc_table.specs.Threads.{thread_word, ThreadsStand}
use Rattle.brc_table.proofs.Lists.{and_first, and_second}
use Rattle.brc_table.proofs.Places.{place_apart}

-- ---- one hand's view changes

-- The hand, which is main's, has started the worker, whose hand isn't given out.
pub record StartsThread (words after : List ℕ) (v u : View) (t : ℕ) : Type 0 where
  pub main : v.thread ≡ 0
  pub waits : thread_word words t ≤ 1
  pub starts : thread_word after t ≡ 1
  pub seen : has_started t u ≡ true

-- Another thread is as it was.
pub record LeavesThread (words after : List ℕ) (v u : View) (t : ℕ) : Type 0 where
  pub word : thread_word after t ≡ thread_word words t
  pub seen : has_started t u ≡ has_started t v

-- What a step of the hand has to show.
pub record KeepsThreads (layout : Layout) (words after : List ℕ) (v u : View) : Type 0 where
  pub thread : u.thread ≡ v.thread
  pub given : (t : ℕ) → is_given t u ≡ is_given t v
  pub still_started : (t : ℕ) → has_started t v ≡ true → has_started t u ≡ true
  pub others : (t : ℕ) → t ≤ layout.workers → t ≢ v.thread
      → LeavesThread words after v u t ⊎ StartsThread words after v u t
  pub own : 0 < thread_word words v.thread → 0 < thread_word after v.thread
  pub own_gone : thread_word words v.thread ≡ 3 → thread_word after v.thread ≡ 3
  pub gone : (t : ℕ) → t ≤ layout.workers → knows_gone t u ≡ true
      → (knows_gone t v ≡ true) ⊎ (thread_word after t ≡ 3)

module _ (plan : Plan) (words after : List ℕ) (views : List View) (id : ℕ) (v u : View)
    (old : Stands plan words views) (here : get_elem? views id ≡ some v)
    (keeps : KeepsThreads old.machine.layout words after v u) where
  abbrev workers : ℕ
  workers = old.machine.layout.workers

  -- A hand's thread is main or a worker.
  known : (other : ℕ) (w : View) → get_elem? views other ≡ some w → w.thread ≤ workers
  known other w is =
      omega (
        arith,
        slice_get_within old.machine.actors w.thread w.actor (old.same_actor other w is),
        old.counts.kept.core.threads,
      )

  -- A thread that is started stays so, and one that is gone, too.
  more : (t : ℕ) → t ≤ workers → 0 < thread_word words t → 0 < thread_word after t
  more t low pos = elim (eqb_tells t v.thread) [
    | inl same ↦
        subst (λ (k : ℕ). 0 < thread_word after k) (sym same.1)
        (keeps.own (subst (λ (k : ℕ). 0 < thread_word words k) same.1 pos))
    | inr apart ↦ elim (keeps.others t low apart.1) [
      | inl leaves ↦ omega (arith, leaves.word, pos)
      | inr starts ↦ omega (arith, starts.starts)
    ]
  ]

  still_gone : (t : ℕ) → t ≤ workers → thread_word words t ≡ 3 → thread_word after t ≡ 3
  still_gone t low is = elim (eqb_tells t v.thread) [
    | inl same ↦
        ap (thread_word after) same.1 ∙ keeps.own_gone (ap (thread_word words) (sym same.1) ∙ is)
    | inr apart ↦ elim (keeps.others t low apart.1) [
      | inl leaves ↦ leaves.word ∙ is
      | inr starts ↦ absurd (omega (arith, starts.waits, is))
    ]
  ]

  seen_here : (t : ℕ) → t ≤ workers → has_started t u ≡ true → 0 < thread_word after t
  seen_here t low seen = elim (eqb_tells t v.thread) [
    | inl same ↦
        subst (λ (k : ℕ). 0 < thread_word after k) (sym same.1) (keeps.own (old.threads.started id v here))
    | inr apart ↦ elim (keeps.others t low apart.1) [
      | inl leaves ↦ more t low (old.threads.started_seen id t v here low (sym leaves.seen ∙ seen))
      | inr starts ↦ omega (arith, starts.starts)
    ]
  ]

  gone_here : (t : ℕ) → t ≤ workers → knows_gone t u ≡ true → thread_word after t ≡ 3
  gone_here t low seen = elim (keeps.gone t low seen) [
    | inl before ↦ still_gone t low (old.threads.gone_seen id t v here low before)
    | inr now ↦ now
  ]

  not_given_before : (t : ℕ) → is_given t u ≡ false → is_given t v ≡ false
  not_given_before t none = elim (cases_Bool (is_given t v)) [
    | inl given ↦ absurd (false≢true (sym none ∙ (keeps.given t ∙ given)))
    | inr not ↦ not
  ]

  main_here : (t : ℕ) → v.thread ≡ 0 → 0 < t → t ≤ workers → is_given t u ≡ false
      → thread_word after t ≡ started_word t u
  main_here t first pos low none =
      elim (keeps.others t low (λ e. omega (arith, e, first, pos))) [
        | inl leaves ↦
            leaves.word
            ∙ (old.threads.unstarted id t v here first pos low (not_given_before t none)
            ∙ ap (λ (b : Bool). if b then 1 else 0) (sym leaves.seen))
        | inr starts ↦ starts.starts ∙ sym (ap (λ (b : Bool). if b then 1 else 0) starts.seen)
      ]

  main_elsewhere : (other t : ℕ) (main : View) → other ≢ id → get_elem? views other ≡ some main → main.thread ≡ 0
      → 0 < t → t ≤ workers → is_given t main ≡ false → thread_word after t ≡ started_word t main
  main_elsewhere other t main apart is first pos low none =
      let this : t ≢ v.thread =
      λ e.
      let given = old.given_out other id main v is first here (omega (arith, e, pos)) in
      false≢true (sym none ∙ (ap (λ (k : ℕ). is_given k main) e ∙ given)) in
      elim (keeps.others t low this) [
        | inl leaves ↦ leaves.word ∙ old.threads.unstarted other t main is first pos low none
        | inr starts ↦ absurd (apart (old.one_hand other id main v is here (first ∙ sym starts.main)))
      ]

  pub threads_kept : ThreadsStand old.machine.layout after (set views id u)
  threads_kept = record {
    started = λ other w is.
        ⊎_elim
        (λ e. subst (λ (x : View). 0 < thread_word after x.thread) e.1
        (subst (λ (k : ℕ). 0 < thread_word after k) (sym keeps.thread) (keeps.own (old.threads.started id v here))))
        (λ e. more w.thread (known other w e.1) (old.threads.started other w e.1))
        (at_set views id other u w is);
    started_seen = λ other t w is low seen.
        ⊎_elim
        (λ e. seen_here t low (ap (has_started t) e.1 ∙ seen))
        (λ e. more t low (old.threads.started_seen other t w e.1 low seen))
        (at_set views id other u w is);
    given_started = λ other t w is given.
        ⊎_elim
        (λ e. ap (has_started t) (sym e.1)
        ∙ keeps.still_started t (old.threads.given_started id t v here (sym (keeps.given t)
        ∙ (ap (is_given t) e.1 ∙ given))))
        (λ e. old.threads.given_started other t w e.1 given)
        (at_set views id other u w is);
    gone_seen = λ other t w is low seen.
        ⊎_elim
        (λ e. gone_here t low (ap (knows_gone t) e.1 ∙ seen))
        (λ e. still_gone t low (old.threads.gone_seen other t w e.1 low seen))
        (at_set views id other u w is);
    unstarted = λ other t main is first pos low none.
        ⊎_elim
        (λ e. subst (λ (x : View). thread_word after t ≡ started_word t x) e.1
        (main_here t (sym keeps.thread ∙ (ap (λ (x : View). x.thread) e.1 ∙ first)) pos low
        (ap (is_given t) e.1 ∙ none)))
        (λ e. main_elsewhere other t main e.0 e.1 first pos low none)
        (at_set views id other u main is);
  }

-- ---- no word changes

-- The hand turns to other work.
pub threads_same : (plan : Plan) (words : List ℕ) (views : List View) (id : ℕ) (v u : View)
    → (old : Stands plan words views) → get_elem? views id ≡ some v → u.thread ≡ v.thread → u.given ≡ v.given
    → u.trace ≡ v.trace → ThreadsStand old.machine.layout words (set views id u)
threads_same plan words views id v u old here thread given trace =
    threads_kept plan words words views id v u old here (record {
      thread = thread;
      given = λ t. ap (list_any (λ k. k == t)) given;
      still_started = λ t is. ap (list_any (starts t)) trace ∙ is;
      others = λ t low apart. inl (record { word = refl; seen = ap (list_any (starts t)) trace });
      own = λ pos. pos;
      own_gone = λ is. is;
      gone = λ t low seen. inl (sym (ap (list_any (shows_gone t)) trace) ∙ seen);
    })

-- ---- steps

or_false : (b : Bool) → (b || false) ≡ b
or_false true = refl
or_false false = refl

-- Says whether the list has such an element, with one more at its end.
pub any_more : {A : Type 0} (p : A → Bool) (xs : List A) (x : A) → list_any p (xs ++ x ∷ []) ≡ (list_any p xs || p x)
any_more p xs x = list_any-append p xs (x ∷ []) ∙ ap (λ (b : Bool). list_any p xs || b) (or_false (p x))

-- A list that has such an element still has one.
pub any_still : {A : Type 0} (p : A → Bool) (xs : List A) (x : A) → list_any p xs ≡ true
    → list_any p (xs ++ x ∷ []) ≡ true
any_still p xs x is = any_more p xs x ∙ ap (λ (b : Bool). b || p x) is

-- An element that isn't such adds none.
pub any_same : {A : Type 0} (p : A → Bool) (xs : List A) (x : A) → p x ≡ false → list_any p (xs ++ x ∷ [])
    ≡ list_any p xs
any_same p xs x none = any_more p xs x ∙ (ap (λ (b : Bool). list_any p xs || b) none ∙ or_false (list_any p xs))

-- An object's word isn't a thread's.
object_apart : (a : Address) (t : ℕ) → IsObjectWord a → same_address a (ThreadWord t) ≡ false
object_apart (Local x) t object = refl
object_apart (Shared x) t object = refl
object_apart (Gate x) t object = refl
object_apart (KindOf x) t object = refl
object_apart (Marks u w) t object = refl
object_apart (Cell x i) t object = refl
object_apart (Field x) t object = absurd object
object_apart (Resource x) t object = absurd object
object_apart (ThreadWord u) t object = absurd object

-- The hand has made a step, and keeps its thread and the hands that it has given out.
pub record Steps (v u : View) (e : WordEvent) : Type 0 where
  pub thread : u.thread ≡ v.thread
  pub given : u.given ≡ v.given
  pub trace : u.trace ≡ v.trace ++ e ∷ []

-- A step on an object's word leaves the words of threads.
pub object_step : (layout : Layout) (words : List ℕ) (v u : View) (e : WordEvent) (left : ℕ)
    → IsPlainLayout layout → FewFirstRows layout → v.thread ≤ layout.workers → Steps v u e → IsObjectWord e.address
    → HasWord layout e.address → KeepsThreads layout words (set words (place layout e.address) left) v u
object_step layout words v u e left plain few known steps object has =
    let stays : (t : ℕ) → t ≤ layout.workers
    → thread_word (set words (place layout e.address) left) t ≡ thread_word words t =
    λ t low.
    get_or-set_other words (place layout e.address) t left 0
    (λ same. place_apart layout e.address (ThreadWord t) plain few has (omega (arith, low))
    (object_apart e.address t object) (sym same)) in
    record {
      thread = steps.thread;
      given = λ t. ap (list_any (λ k. k == t)) steps.given;
      still_started = λ t is. ap (list_any (starts t)) steps.trace ∙ any_still (starts t) v.trace e is;
      others = λ t low apart. inl (record {
        word = stays t low;
        seen =
            ap (list_any (starts t)) steps.trace
            ∙ any_same (starts t) v.trace e
            (ap (λ (b : Bool). b && ((e.found == 0) && (e.left == 1))) (object_apart e.address t object));
      });
      own = λ pos. omega (arith, stays v.thread known, pos);
      own_gone = λ is. stays v.thread known ∙ is;
      gone = λ t low seen.
          inl (sym (ap (list_any (shows_gone t)) steps.trace
          ∙ any_same (shows_gone t) v.trace e
          (ap (λ (b : Bool). b && (e.left == 3)) (object_apart e.address t object))) ∙ seen);
    }

-- What a step on the word of the thread `t` shows: it doesn't start the thread, and leaves the word, unless it is the
-- hand's own thread's.
pub record StepsOnThread (words : List ℕ) (v : View) (e : WordEvent) (t left : ℕ) : Type 0 where
  pub address : e.address ≡ ThreadWord t
  pub quiet : ((e.found == 0) && (e.left == 1)) ≡ false
  pub gone : e.left ≡ 3 → left ≡ 3
  pub whose : (t ≡ v.thread) ⊎ (left ≡ thread_word words t)
  pub stays : 0 < thread_word words t → 0 < left
  pub stays_gone : thread_word words t ≡ 3 → left ≡ 3

-- What a thread's word says isn't 0.
pub reading_some : (word : ℕ) → 0 < thread_reading word
reading_some word = elim (eqb_tells word 0) [
  | inl none ↦
      let one : thread_reading word ≡ 1 = ap (λ (b : Bool). if b then 1 else word) none.0 in omega (arith, one)
  | inr pos ↦
      let same : thread_reading word ≡ word = ap (λ (b : Bool). if b then 1 else word) pos.0 in
      omega (arith, same, pos.1)
]

pub says_three : (word : ℕ) → thread_reading word ≡ 3 → word ≡ 3
says_three word is = elim (eqb_tells word 0) [
  | inl none ↦
      let one : thread_reading word ≡ 1 = ap (λ (b : Bool). if b then 1 else word) none.0 in
      absurd (omega (arith, one, is))
  | inr pos ↦
      let same : thread_reading word ≡ word = ap (λ (b : Bool). if b then 1 else word) pos.0 in
      sym same ∙ is
]

pub and_none : (b c : Bool) → c ≡ false → (b && c) ≡ false
and_none true c e = e
and_none false c e = refl

-- A step on a thread's word keeps what the words of threads say.
pub thread_step : (layout : Layout) (words : List ℕ) (v u : View) (e : WordEvent) (t left : ℕ) → t < length words
    → Steps v u e → StepsOnThread words v e t left
    → KeepsThreads layout words (set words t left) v u
thread_step layout words v u e t left there steps on =
    let after = set words t left in
    let here : thread_word after t ≡ left = get_or-set_same words t left 0 there in
    let elsewhere : (k : ℕ) → k ≢ t → thread_word after k ≡ thread_word words k =
    λ k apart. get_or-set_other words t k left 0 apart in
    let none : (k : ℕ) → starts k e ≡ false =
    λ k. and_none (same_address e.address (ThreadWord k)) ((e.found == 0) && (e.left == 1)) on.quiet in
    record {
      thread = steps.thread;
      given = λ k. ap (list_any (λ j. j == k)) steps.given;
      still_started = λ k is. ap (list_any (starts k)) steps.trace ∙ any_still (starts k) v.trace e is;
      others = λ k low apart. inl (record {
        word = elim (eqb_tells k t) [
          | inl same ↦ elim on.whose [
            | inl mine ↦ absurd (apart (same.1 ∙ mine))
            | inr kept ↦
                ap (thread_word after) same.1 ∙ (here ∙ (kept ∙ ap (thread_word words) (sym same.1)))
          ]
          | inr other ↦ elsewhere k other.1
        ];
        seen = ap (list_any (starts k)) steps.trace ∙ any_same (starts k) v.trace e (none k);
      });
      own = λ pos. elim (eqb_tells v.thread t) [
        | inl same ↦
            subst (λ (k : ℕ). 0 < thread_word after k) (sym same.1)
            (omega (arith, here, on.stays (subst (λ (k : ℕ). 0 < thread_word words k) same.1 pos)))
        | inr other ↦ omega (arith, elsewhere v.thread other.1, pos)
      ];
      own_gone = λ is. elim (eqb_tells v.thread t) [
        | inl same ↦
            ap (thread_word after) same.1
            ∙ (here ∙ on.stays_gone (ap (thread_word words) (sym same.1) ∙ is))
        | inr other ↦ elsewhere v.thread other.1 ∙ is
      ];
      gone = λ k low seen.
          let parts : (knows_gone k v || shows_gone k e) ≡ true =
          sym (ap (list_any (shows_gone k)) steps.trace ∙ any_more (shows_gone k) v.trace e) ∙ seen in
          elim (cases_Bool (knows_gone k v)) [
            | inl before ↦ inl before
            | inr not ↦
                let now : shows_gone k e ≡ true = sym (ap (λ (b : Bool). b || shows_gone k e) not) ∙ parts in
                let at : (t == k) ≡ true =
                sym (ap (λ (a : Address). same_address a (ThreadWord k)) on.address)
                ∙ and_first (same_address e.address (ThreadWord k)) (e.left == 3) now in
                let left_is =
                eqb-true e.left 3 (and_second (same_address e.address (ThreadWord k)) (e.left == 3) now) in
                inr (ap (thread_word after) (sym (eqb-true t k at))
                ∙ (here ∙ on.gone left_is))
          ];
    }
