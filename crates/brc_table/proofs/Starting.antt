-- Main starts a worker: it stores that the worker's thread runs. The machine stays as it is, since a thread that isn't
-- started counts as running.
use Rattle.std.proofs.Common.{◌≡◌, ◌≢◌, ℕ, ◌+◌, ◌<◌, ◌≤◌, Bool, true, false, cond, Option, List, [], ◌∷◌, length, set, None, inl, inr, refl, sym, ap, ◌∙◌, subst, arith}
use Rattle.std.specs.Prelude.{◌==◌, ◌&&◌, ◌||◌}
use Rattle.std.proofs.lemmas.Bool.{cases_Bool, eq-eqb, ne_eqb}
use Rattle.std.proofs.lemmas.Bool.Decides.{eqb_tells}
use Rattle.std.proofs.lemmas.List.{length-set, get_or-set_same, get_or-set_other}
use Rattle.std.proofs.lemmas.List.Sums.{fold-append}
use mathlib.Core.Option.{some}
use lib.ListN.{get_elem?}
use Rattle.atomic_table.specs.Table.{State, keeps, Me, Allows}
use Rattle.brc_model.specs.declared.address.Address.{Address}
use Rattle.brc_model.specs.declared.address.Address.TheVariants.{ThreadWord}
use Rattle.brc_model.specs.declared.layout.Layout.{Layout}
use Rattle.brc_model.specs.Machine.{Machine, same_address, written}
use Rattle.brc_model.specs.CountingLaws.{AccountsAreThere, ChainsAreThere}
use Rattle.brc_table.specs.declared.view.View.{View}
use Rattle.brc_model.specs.declared.event.WordEvent.{WordEvent}
use Rattle.brc_table.specs.Plan.{Plan}
use Rattle.brc_table.specs.Places.{HasWord}
use Rattle.brc_table.specs.Views.{RowsAreThere}
use Rattle.brc_table.specs.KnownWords.{shows_kind, cell_known, starts, has_started, started_word, shows_gone}
use Rattle.brc_table.specs.Threads.{thread_word}
use Rattle.brc_table.specs.Homes.{TableStands}
use Rattle.brc_table.specs.Begins.{Passes}
use Rattle.brc_table.specs.Rule.{thread_reading, Stands}
use Rattle.brc_table.specs.Giving.{MayStart, starting, StoresRunning}
use Rattle.brc_table.proofs.FirstHand.{with_event}
use Rattle.brc_table.proofs.RowsThere.{rows_there}
use Rattle.brc_table.proofs.Changing.{Changes, passes}
use Rattle.brc_table.proofs.FieldsKept.{fields_kept}
use Rattle.brc_table.proofs.FewRows.{few_first}
use Rattle.brc_table.proofs.Lists.{set_view, set_itself}
use Rattle.brc_table.proofs.Stepping.{same_is, written_reads}
use Rattle.brc_table.proofs.ThreadsKept.{KeepsThreads, threads_kept, any_same, any_still, any_more}
use Rattle.brc_table.proofs.ThreadWords.{thread_within}

-- Storing what a word is leaves all words as they are.
pub unwritten : (memory : Address → ℕ) (a b : Address) (word : ℕ) → memory a ≡ word → written memory a word b ≡ memory b
unwritten memory a b word is = elim (cases_Bool (same_address a b)) [
  | inl same ↦ ap (λ (e : Bool). cond e word (memory b)) same ∙ (sym is ∙ ap memory (same_is a b same))
  | inr other ↦ ap (λ (e : Bool). cond e word (memory b)) other
]

-- A worker's word before main stores 1 is 0 or 1, which say the same.
started_low : (b : Bool) → cond b 1 0 ≤ 1
started_low true = omega arith
started_low false = omega arith

reads_one : (word : ℕ) → word ≤ 1 → thread_reading word ≡ 1
reads_one word low = elim (eqb_tells word 0) [
  | inl none ↦ ap (λ (b : Bool). cond b 1 word) none.0
  | inr pos ↦ ap (λ (b : Bool). cond b 1 word) pos.0 ∙ omega (arith, low, pos.1)
]

none_gone : (b : Bool) → (b && false) ≡ false
none_gone true = refl
none_gone false = refl

-- Main has started the thread then.
pub seen_after : (v : View) (t : ℕ) → has_started t (starting v t) ≡ true
seen_after v t =
    let event : WordEvent = record { address = ThreadWord t; found = started_word t v; left = 1 } in
    any_more (starts t) v.trace event ∙ elim (cases_Bool (has_started t v)) [
      | inl before ↦ ap (λ (b : Bool). b || starts t event) before
      | inr not ↦
          let zero_found : (started_word t v == 0) ≡ true = ap (λ (b : Bool). cond b 1 0 == 0) not in
          ap (λ (b : Bool). b || starts t event) not
          ∙ (ap (λ (b : Bool). b && ((started_word t v == 0) && true)) (eq-eqb t t refl)
          ∙ ap (λ (b : Bool). b && true) zero_found)
    ]

module _ (accounts : AccountsAreThere) (chains : ChainsAreThere) (plan : Plan) (v : View) (t : ℕ)
    (may : MayStart v t) where
  abbrev after : View
  after = starting v t

  abbrev event : WordEvent
  event = record { address = ThreadWord t; found = started_word t v; left = 1 }

  module _ (words : List ℕ) (views : List View) (id : ℕ) (s : Stands plan words views)
      (here : get_elem? views id ≡ some v) where
    abbrev m : Machine
    m = s.machine

    low : t ≤ m.layout.workers
    low = subst (λ (l : Layout). t ≤ l.workers) (s.same_layout id v here) may.known_worker

    word_is : thread_word words t ≡ started_word t v
    word_is = s.threads.unstarted id t v here may.is_main may.some_worker low may.not_given

    has : HasWord m.layout (ThreadWord t)
    has = omega (arith, low)

    runs : m.memory (ThreadWord t) ≡ 1
    runs =
        s.reads (ThreadWord t) has
        ∙ reads_one (thread_word words t) (omega (arith, word_is, started_low (has_started t v)))

    there : t < length words
    there = omega (arith, thread_within m.layout t s.plain low, s.length_is)

    elsewhere : (k : ℕ) → k ≢ t → thread_word (set words t 1) k ≡ thread_word words k
    elsewhere k apart = get_or-set_other words t k 1 0 apart

    main_apart : v.thread ≢ t
    main_apart e = omega (arith, e, may.is_main, may.some_worker)

    keeps_threads : KeepsThreads m.layout words (set words t 1) v after
    keeps_threads = record {
      thread = refl;
      given = λ k. refl;
      still_started = λ k is. any_still (starts k) v.trace event is;
      others = λ k below apart. elim (eqb_tells k t) [
        | inl same ↦ inr (record {
          main = may.is_main;
          waits = omega (arith, ap (thread_word words) same.1, word_is, started_low (has_started t v));
          starts = ap (thread_word (set words t 1)) same.1 ∙ get_or-set_same words t 1 0 there;
          seen = ap (λ (j : ℕ). has_started j after) same.1 ∙ seen_after v t;
        })
        | inr other ↦ inl (record {
          word = elsewhere k other.1;
          seen =
              any_same (starts k) v.trace event
              (ap (λ (b : Bool). b && ((started_word t v == 0) && true)) (ne_eqb t k (λ e. other.1 (sym e))));
        })
      ];
      own = λ pos. omega (arith, elsewhere v.thread main_apart, pos);
      own_gone = λ is. elsewhere v.thread main_apart ∙ is;
      gone = λ k below seen.
          inl (sym (any_same (shows_gone k) v.trace event (none_gone (t == k))) ∙ seen);
    }

    changes : Changes plan words views v after s (set words t 1)
    changes = record {
      accounts = s.accounts;
      machine = m;
      counts = s.counts;
      layout_same = refl;
      length_is = length-set words t 1;
      reads = λ b there_b.
          sym (unwritten m.memory (ThreadWord t) b 1 runs)
          ∙ written_reads m.layout words m.memory (ThreadWord t) 1 1 s.plain
          (few_first s.accounts (1 + m.layout.workers) m s.counts) s.length_is refl has s.reads b there_b;
      actors = sym (set_itself m.actors v.thread v.actor (s.same_actor id v here));
      thread_same = refl;
      told_same = refl;
      given_more = λ k is. is;
      gone_stays = λ gone. (gone, refl);
      lends_none = s.lends_none id v here;
      joined_here = s.joined id v here;
      holding = λ x counted. s.holding id v x here counted;
      others = λ k apart. refl;
      no_variables = s.no_variables;
      kinds_stay = λ x word more is. is;
      cells_stay = λ other x w apart is guards. (guards, λ i. refl);
      kinds_here = λ x word more seen.
          s.kinds_seen id x word v here more (sym (any_same (shows_kind x word) v.trace event refl) ∙ seen);
      cells_here = λ x i word guards seen.
          s.cells_seen id x i word v here guards (sym (fold-append (cell_known x i) None v.trace (event ∷ [])) ∙ seen);
      threads = λ k there_k.
          threads_kept plan words (set words t 1) views k v after s there_k keeps_threads;
    }

    pub passes_started : Passes plan (set words t 1) (set views id after) v.taken
        v.actor.locked m
    unfolding changes
    passes_started =
        passes plan words views id v after s here (set words t 1) changes v.taken v.actor.locked
        (λ x which. refl)

  -- The store is allowed.
  pub start_allowed : {T : Type 0} (fields id index : ℕ) (me : Me (Option T) View) → me.0 ≡ v → index ≡ t
      → Allows (λ (s : State (Option T) View). TableStands plan s.words s.homes s.views) fields id me index
      (λ found. 1)
      (λ found after. StoresRunning t me after)
  start_allowed fields id index me is_me at s holds homes here below =
      let mine : get_elem? s.views id ≡ some v = here ∙ ap some is_me in
      let w = starting v t in
      let before = holds.stands.machine in
      let moved : Passes plan (set s.words index 1) (set s.views id w) v.taken v.actor.locked before =
      subst (λ (k : ℕ). Passes plan (set s.words k 1) (set s.views id w) v.taken v.actor.locked before) (sym at)
      (passes_started s.words s.views id holds.stands mine) in
      let rows : RowsAreThere w =
      rows_there accounts chains plan (set s.words index 1) (set s.views id w) id w moved.stands
      (set_view s.views id v w mine) in (
        w,
        keeps,
        tt,
        record {
          stands = moved.stands;
          fields =
              fields_kept before moved.stands.machine s.homes s.views id v w holds.fields mine
              (moved.stands.layout_is ∙ sym holds.stands.layout_is)
              (record { taken = refl; in_field = λ x locks. refl; locked = refl; used = λ x uses. uses }) moved.fields;
          first =
              with_event plan.layout (set s.views id w) id w v.trace
              (record { address = ThreadWord t; found = started_word t v; left = 1 })
              (set_view s.views id v w mine) refl;
        },
        subst (λ (u : View). StoresRunning t (u, me.1) (w, me.1)) (sym is_me) (refl, refl, rows),
      )
