-- The laws of a table beside the counts follow from those of the counting machine whose words and threads are the
-- table's.
use Rattle.std.proofs.Common.{◌≡◌, ◌≢◌, ◌⊎◌, ℕ, zero, suc, ◌+◌, ◌<◌, ◌≤◌, Bool, cond, List, [], ◌∷◌, None, Some, inl, inr, refl, sym, ap, ◌∙◌, subst, arith}
use Rattle.std.specs.Prelude.{◌||◌, ◌==◌, slice_get, slice_index}
use Rattle.std.specs.List.{list_any}
use Rattle.std.proofs.lemmas.Bool.{false≢true, eq-eqb, ne_eqb, cases_lt}
use Rattle.std.proofs.lemmas.List.Folds.{list_any-append}
use Rattle.std.proofs.lemmas.Option.{slice_get_within}
use mathlib.Core.Option as home
use mathlib.Core.Option.{some, some-injective, some-ne-none}
use lib.ListN.{get_elem?}
use Rattle.brc_model.specs.declared.duty.Duty.{Duty}
use Rattle.brc_model.specs.declared.duty.Holding.TheVariants.{AsCaller}
use Rattle.brc_model.specs.declared.actor.Status.{Status}
use Rattle.brc_model.specs.declared.actor.Status.TheVariants.{Running, Leaving, Gone}
use Rattle.brc_model.specs.declared.address.Address.{Address}
use Rattle.brc_model.specs.declared.address.Address.TheVariants.{Local, Gate, KindOf, Cell, ThreadWord}
use Rattle.brc_model.specs.declared.layout.Layout.{Layout}
use Rattle.brc_model.specs.Layout.{row_count, block_of, index_of, root_row, IsCounted}
use Rattle.brc_model.specs.Duties.{address_of, new_word}
use Rattle.brc_model.specs.Knowledge.{status_word}
use Rattle.brc_model.specs.declared.actor.Actor.{Actor}
use Rattle.brc_model.specs.Machine.{Machine, machine_by_duty, written}
use Rattle.brc_model.specs.Progress.{Runs}
use Rattle.brc_model.specs.Watched.{looks_at, scans_over}
use Rattle.brc_model.specs.Watched as machine
use Rattle.brc_model.specs.CountingLaws.{ComesNext, AccountsAreThere}
use Rattle.brc_model.specs.GuardLaws as guard
use Rattle.brc_model.specs.References.{one_if}
use Rattle.brc_model.specs.FieldLaws.{UsesField, needs_field}
use Rattle.brc_model.proofs.Basics.Blocks.{block_within}
use Rattle.brc_model.proofs.Basics.Lists.{some_is}
use Rattle.brc_model.proofs.Basics.Written.{written_here}
use Rattle.brc_table.specs.Plan.{Plan}
use Rattle.brc_table.specs.Agreeing.{row_mark}
use Rattle.brc_table.proofs.RowMarks.{mark_reads}
use Rattle.brc_table.specs.declared.view.View.{View}
use Rattle.brc_table.specs.Places.{place, HasWord}
use Rattle.brc_table.specs.Views.{holds}
use Rattle.brc_table.specs.Homes.{times_in, times_taken, IsHome}
use Rattle.brc_table.specs.Rule.{thread_reading, reading, Stands}
use Rattle.brc_table.specs.Threads.{thread_word}
use Rattle.brc_table.specs.Guarding.{thread_says, IsWatched, ByRunning, ByExit, ByLook, SetMarksAreWatched, ChangesWord, OnlyHoldersChangeCells, OnlyHoldersSwapCells, OnlyRunningOwnersCount, GoneHandsHoldNothing, GoneWordsTell, ViewsKeepTheLayout, RootIsAList, TakenFieldsAreAlone}
use Rattle.brc_table.proofs.Lists.{there_is}
use Rattle.brc_table.proofs.ThreadHands.{thread_is}
use Rattle.brc_table.proofs.Picked.{count_more}
use Rattle.brc_table.proofs.Ending.{status_gone}

-- The word of a thread that runs.
word_runs : (s : Status) → status_word s ≡ 1 → s ≡ Running
word_runs Running e = refl
word_runs Leaving e = absurd (omega (arith, e))
word_runs Gone e = absurd (omega (arith, e))

module _ (plan : Plan) (words : List ℕ) (views : List View) (s : Stands plan words views) where
  abbrev m : Machine
  m = s.machine

  abbrev n : ℕ
  n = 1 + m.layout.workers

  -- ---- marks

  -- The word of a running thread says that it runs.
  running_says : (t : ℕ) → t < n → (a : Actor) → slice_get m.actors t ≡ Some a → a.status ≡ Running
      → thread_says words t ≡ 1
  running_says t low a found runs =
      sym (s.reads (ThreadWord t) low)
      ∙ ((s.counts.kept.core.each t a found).0.word ∙ ap status_word runs)

  -- The thread of a row's block is one of the threads.
  block_low : (x : ℕ) → block_of m.layout x < n
  block_low x = omega (arith, block_within m.layout x s.counts.kept.core.some_rows)

  watched_so : (x : ℕ) → machine.IsWatched m x → IsWatched m.layout words views x
  watched_so x (machine.ByRunning runs) =
      ByRunning (running_says (block_of m.layout x) (block_low x) runs.0 runs.1 runs.2)
  watched_so x (machine.ByExit a found leaves scans) =
      elim (thread_is plan words views s (block_of m.layout x) a found) [
        | inl hand ↦
            ByExit hand.0.id hand.0.view hand.0.here hand.0.thread
            (ap (λ (b : Actor). b.status) (sym hand.1) ∙ leaves)
            (ap (λ (b : Actor). list_any (scans_over (index_of m.layout (block_of m.layout x) x)) b.agenda) (sym hand.1)
            ∙ scans)
        | inr idle ↦
            let wrong : Running ≡ Leaving = ap (λ (b : Actor). b.status) (sym idle) ∙ leaves in absurd cc
      ]
  watched_so x (machine.ByLook t a found looks) = elim (thread_is plan words views s t a found) [
    | inl hand ↦
        ByLook hand.0.id hand.0.view hand.0.here
        (list_any-append (looks_at x) hand.0.view.actor.agenda hand.0.view.actor.aside
        ∙ (ap (λ (b : Actor). list_any (looks_at x) b.agenda || list_any (looks_at x) b.aside) (sym hand.1) ∙ looks))
    | inr idle ↦
        absurd (false≢true (ap (λ (b : Actor). list_any (looks_at x) b.agenda || list_any (looks_at x) b.aside) (sym
        idle)
        ∙ looks))
  ]

  -- The thread of a word that says so runs.
  says_running : (t : ℕ) → t < n → thread_says words t ≡ 1 → Runs m t
  says_running t low says =
      let (a, found) = there_is m.actors t (omega (arith, low, s.counts.kept.core.threads)) in
      let word = (s.counts.kept.core.each t a found).0.word in
      (a, found, word_runs a.status (sym word ∙ (s.reads (ThreadWord t) low ∙ says)))

-- ---- words that change

module _ (plan : Plan) (words : List ℕ) (views : List View) (v : View) (d : Duty) (a : Address)
    (it : ChangesWord plan words views v d a) where
  abbrev now : Machine
  now = it.stands.machine

  next : ComesNext now v.thread v.actor d it.rest
  next = record { found = it.stands.same_actor it.id v it.here; agenda = it.agenda; alive = it.alive }

  has : HasWord now.layout a
  has = subst (λ (l : Layout). HasWord l a) (sym it.stands.layout_is) it.there

  -- The machine's word changes, too.
  changed : ((word : ℕ) → reading a word ≡ word)
      → (machine_by_duty now v.thread v.actor d it.rest).memory a ≢ now.memory a
  changed plain same =
      let found : now.memory a ≡ slice_index words (place plan.layout a) =
      it.stands.reads a has ∙ plain (slice_index words (place now.layout a))
      ∙ ap (λ (l : Layout). slice_index words (place l a)) it.stands.layout_is in
      let at : address_of now.layout v.thread v.actor.head d ≡ a =
      subst (λ (l : Layout). address_of l v.thread v.actor.head d ≡ a) (sym it.stands.layout_is) it.at in
      let after : (machine_by_duty now v.thread v.actor d it.rest).memory a
      ≡ new_word now.layout v.thread v.actor.head d (now.memory a) =
      ap (λ (b : Address). written now.memory b (new_word now.layout v.thread v.actor.head d (now.memory b)) a) at
      ∙ written_here now.memory a (new_word now.layout v.thread v.actor.head d (now.memory a)) in
      it.other
      (ap (λ (l : Layout). new_word l v.thread v.actor.head d (slice_index words (place plan.layout a)))
      (sym it.stands.layout_is)
      ∙ (ap (new_word now.layout v.thread v.actor.head d) (sym found) ∙ (sym after ∙ (same ∙ found))))

-- ---- the laws

pub marks_are_watched : guard.QueuedMarksAreWatched → SetMarksAreWatched
marks_are_watched law plan words views x s there set =
    let same = s.layout_is in
    let there' : x < row_count s.machine.layout = subst (λ (l : Layout). x < row_count l) (sym same) there in
    subst (λ (l : Layout). IsWatched l words views x) same
    (watched_so plan words views s x (law s.accounts (1 + s.machine.layout.workers) s.machine x s.counts
    (λ none.
    set (sym (ap (λ (l : Layout). row_mark l words x) same)
    ∙ (sym (mark_reads plan words views s x there') ∙ none)))))

pub holders_change : guard.CellsAreGuarded → OnlyHoldersChangeCells
holders_change law plan words views v d x i it =
    let s = it.stands in
    elim (law s.accounts (1 + s.machine.layout.workers) s.machine v.thread v.actor d it.rest x i s.counts
    (next plan words views v d (Cell x i) it) (changed plan words views v d (Cell x i) it (λ word. refl))) [
      | inl holds ↦
          let there = has plan words views v d (Cell x i) it in
          let mine : holds.actor ≡ v.actor = some_is holds.actor v.actor (sym holds.found
          ∙ s.same_actor it.id v it.here) in
          inl (
            ap (λ (b : Actor). b.locked) (sym mine) ∙ holds.locked,
            sym (s.reads (Gate x) there.0) ∙ holds.gate,
          )
      | inr dies ↦ inr dies.1
    ]

-- A lock that a hand has is in the gate's word.
pub holders_swap : AccountsAreThere → OnlyHoldersSwapCells
holders_swap law plan words views id v x i word s here may = elim may.changes [
  | inl locked ↦
      let found = s.same_actor id v here in
      let fits = (s.counts.kept.core.each v.thread v.actor found).0.locks x locked in
      let there = law s.accounts (1 + s.machine.layout.workers) s.machine v.thread v.actor fits.by x s.counts found
      (omega (arith, fits.held_so)) in
      inl (locked, sym (s.reads (Gate x) there) ∙ fits.gate)
  | inr first ↦ inr first
]

pub owners_count : guard.OwnersCountAlone → OnlyRunningOwnersCount
owners_count law plan words views v d x it says =
    let s = it.stands in
    let same = s.layout_is in
    let says' : thread_says words (block_of s.machine.layout x) ≡ 1 =
    subst (λ (l : Layout). thread_says words (block_of l x) ≡ 1) (sym same) says in
    let runs =
    says_running plan words views s (block_of s.machine.layout x)
    (block_low plan words views s x) says' in
    subst (λ (l : Layout). v.thread ≡ block_of l x) same
    (law s.accounts (1 + s.machine.layout.workers) s.machine v.thread v.actor d it.rest x s.counts
    (next plan words views v d (Local x) it) runs (changed plan words views v d (Local x) it (λ word. refl)))

-- A thread with nothing to do and no lock uses no field.
uses_none : (a : Actor) (x : ℕ) → a.agenda ≡ [] → a.locked ≡ None → UsesField a x → ⊥
uses_none a x agenda unlocked (inl locked) = let wrong : None ≡ Some x = sym unlocked ∙ locked in absurd cc
uses_none a x agenda unlocked (inr needs) = absurd (false≢true (sym (ap (list_any (needs_field x)) agenda) ∙ needs))

-- A list that has no number is empty.
none_listed : (rows : List ℕ) → ((x : ℕ) → 1 ≤ times_in x rows → ⊥) → rows ≡ []
none_listed [] none = refl
none_listed (x ∷ rows) none =
    let one : one_if (x == x) ≡ 1 = ap one_if (eq-eqb x x refl) in
    absurd (none x (omega (arith, count_more x x rows, one)))

-- A hand whose thread is gone holds nothing, and uses no field, so it has taken none.
pub gone_hold : {T : Type 0} → guard.GoneThreadsHoldNothing → GoneHandsHoldNothing T
gone_hold law plan words homes views id v table here gone =
    let s = table.stands in
    let it = law s.accounts (1 + s.machine.layout.workers) s.machine v.thread v.actor s.counts (s.same_actor id v here)
    gone in
    record {
      none = λ x counted.
          sym (s.holding id v x here (subst (λ (l : Layout). IsCounted l x) (sym s.layout_is) counted))
          ∙ it.none AsCaller x;
      agenda = it.agenda;
      aside = it.aside;
      settled = it.settled;
      unlocked = it.unlocked;
      none_taken = none_listed v.taken (λ x taken. uses_none v.actor x it.agenda it.unlocked
          (table.fields.used id x v here taken));
    }

-- ---- gone threads

-- The word of a thread that is gone.
pub reading_three : (word : ℕ) → thread_reading word ≡ 3 → word ≡ 3
reading_three zero e = absurd (omega (arith, e))
reading_three (suc k) e =
    sym (ap (λ (b : Bool). cond b 1 (suc k)) (ne_eqb (suc k) 0 (λ zero_is. absurd (omega (arith, zero_is))))) ∙ e

-- A thread's word says that it is gone exactly if its hand does.
pub gone_words : GoneWordsTell
gone_words = record {
  told = λ plan words views id v s here gone.
      let found = s.same_actor id v here in
      let low = slice_get_within s.machine.actors v.thread v.actor found in
      reading_three (thread_word words v.thread)
      (sym (s.reads (ThreadWord v.thread) (omega (arith, low, s.counts.kept.core.threads)))
      ∙ ((s.counts.kept.core.each v.thread v.actor found).0.word ∙ ap status_word gone));
  gone = λ plan words views t s there says.
      let under : t < 1 + s.machine.layout.workers =
      omega (arith, there, ap (λ (l : Layout). l.workers) s.layout_is) in
      let (a, found) = there_is s.machine.actors t (omega (arith, under, s.counts.kept.core.threads)) in
      let is_gone : a.status ≡ Gone =
      status_gone a.status (sym (s.counts.kept.core.each t a found).0.word
      ∙ (s.reads (ThreadWord t) under ∙ ap thread_reading says)) in
      elim (thread_is plan words views s t a found) [
        | inl hand ↦ record {
          id = hand.0.id;
          view = hand.0.view;
          here = hand.0.here;
          thread = hand.0.thread;
          status = ap (λ (b : Actor). b.status) (sym hand.1) ∙ is_gone;
        }
        | inr idle ↦
            let wrong : Running ≡ Gone = ap (λ (b : Actor). b.status) (sym idle) ∙ is_gone in absurd cc
      ];
}

-- ---- sizes and fields

-- Each view has the table's layout.
pub views_keep : ViewsKeepTheLayout
views_keep plan words views id v s here = s.same_layout id v here ∙ s.layout_is

-- The root's kind word is the machine's.
pub root_is : RootIsAList
root_is plan words views s = sym (s.reads (KindOf root_row) (omega arith)) ∙ s.first_kinds root_row (omega arith)

-- Some hand has taken the row's field.
record IsTaken (views : List View) (x : ℕ) : Type 0 where
  id : ℕ
  view : View
  here : get_elem? views id ≡ some view
  taken : 1 ≤ times_taken x view

-- A field that neither the first hand nor another one has taken is at home.
home_in : (v : View) (views : List View) (x : ℕ) → times_taken x v ≡ 0 → IsHome views x → IsHome (v ∷ views) x
home_in v views x none rest zero w is = ap (times_taken x) (sym (some-injective v w is)) ∙ none
home_in v views x none rest (suc id) w is = rest id w is

-- Some hand has taken a field, or the field is at home.
taken_or_home : (views : List View) (x : ℕ) → IsTaken views x ⊎ IsHome views x
taken_or_home [] x = inr (λ id v is. absurd (some-ne-none v (sym is)))
taken_or_home (v ∷ views) x = elim (cases_lt 0 (times_taken x v)) [
  | inl taken ↦ inl (record { id = 0; view = v; here = refl; taken = omega (arith, taken) })
  | inr none ↦ elim (taken_or_home views x) [
    | inl found ↦ inl (record { id = suc found.id; view = found.view; here = found.here; taken = found.taken })
    | inr rest ↦ inr (home_in v views x (omega (arith, none)) rest)
  ]
]

-- A field that isn't at home is with one hand.
pub taken_alone : {T : Type 0} → TakenFieldsAreAlone T
taken_alone plan words homes views x table there out = elim (taken_or_home views x) [
  | inl found ↦ record {
    id = found.id;
    view = found.view;
    here = found.here;
    once = omega (arith, found.taken, table.fields.once found.id x found.view found.here);
    used = table.fields.used found.id x found.view found.here found.taken;
    others = λ other w is apart. elim (cases_lt 0 (times_taken x w)) [
      | inl taken ↦
          absurd (apart (table.fields.alone other found.id x w found.view is found.here (omega (arith, taken))
          found.taken))
      | inr none ↦ omega (arith, none)
    ];
  }
  | inr at_home ↦
      let there' : x < row_count table.stands.machine.layout =
      subst (λ (l : Layout). x < row_count l) (sym table.stands.layout_is) there in
      let held = table.fields.at_home x there' at_home in
      absurd (some-ne-none held.field (some-injective (some held.field) home.none (sym held.there ∙ out)))
]
