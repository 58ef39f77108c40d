-- A hand looks what a thread's word says, and the rule holds again: no word changes.
use Rattle.std.proofs.Common.{◌≡◌, ◌⊎◌, ℕ, ◌+◌, ◌<◌, ◌≤◌, Bool, true, false, cond, Option, List, [], ◌∷◌, length, set, None, inl, inr, refl, sym, ap, ◌∙◌, subst, arith}
use Rattle.std.specs.Prelude.{◌==◌, ◌&&◌, ◌||◌, slice_index}
use Rattle.std.specs.List.{list_any}
use Rattle.std.proofs.lemmas.Bool.{cases_Bool, cases_lt, eq-eqb, false≢true}
use Rattle.std.proofs.lemmas.Bool.Decides.{eqb_tells}
use Rattle.std.proofs.lemmas.List.{length-set}
use Rattle.std.proofs.lemmas.List.Sums.{fold-append}
use Rattle.std.proofs.lemmas.Option.{slice_get_cases}
use mathlib.Core.Option.{some}
use lib.ListN.{get_elem?}
use Rattle.atomic_table.specs.Table.{State, keeps, Me, Allows}
use Rattle.brc_model.specs.declared.actor.Status.{Status}
use Rattle.brc_model.specs.declared.actor.Status.TheVariants.{Running, Leaving, Gone}
use Rattle.brc_model.specs.declared.address.Address.TheVariants.{ThreadWord}
use Rattle.brc_model.specs.declared.layout.Layout.{Layout}
use Rattle.brc_model.specs.Knowledge.{status_word}
use Rattle.brc_model.specs.Machine.{Machine}
use Rattle.brc_model.specs.CountingLaws.{AccountsAreThere, ChainsAreThere}
use Rattle.brc_table.specs.declared.view.View.{View}
use Rattle.brc_model.specs.declared.event.WordEvent.{WordEvent}
use Rattle.brc_table.specs.Plan.{Plan}
use Rattle.brc_table.specs.Places.{HasWord}
use Rattle.brc_table.specs.Views.{is_given, RowsAreThere}
use Rattle.brc_table.specs.KnownWords.{shows_kind, cell_known, starts, has_started, shows_gone}
use Rattle.brc_table.specs.Threads.{thread_word}
use Rattle.brc_table.specs.Homes.{TableStands}
use Rattle.brc_table.specs.Begins.{Passes}
use Rattle.brc_table.specs.Rule.{thread_reading, Stands}
use Rattle.brc_table.specs.Ending.{SeesEnd}
use Rattle.brc_table.specs.Peeks.{peeked, NeverStarted, Peeks}
use Rattle.brc_table.proofs.FirstHand.{with_event}
use Rattle.brc_table.proofs.RowsThere.{rows_there}
use Rattle.brc_table.proofs.Changing.{Changes, passes}
use Rattle.brc_table.proofs.Joining.{joined_gone}
use Rattle.brc_table.proofs.FieldsKept.{fields_kept}
use Rattle.brc_table.proofs.FewRows.{few_first}
use Rattle.brc_table.proofs.Lists.{set_view, set_itself}
use Rattle.brc_table.proofs.Starting.{unwritten}
use Rattle.brc_table.proofs.Stepping.{written_reads}
use Rattle.brc_table.proofs.ThreadsKept.{KeepsThreads, threads_kept, thread_step, any_same, any_still, any_more, and_none}
use Rattle.brc_table.proofs.ThreadWords.{thread_within}

-- ---- what a thread's word may say

status_low : (s : Status) → status_word s ≤ 3
status_low Running = omega arith
status_low Leaving = omega arith
status_low Gone = omega arith

says_low : (word : ℕ) → thread_reading word ≤ 3 → word ≤ 3
says_low word low = elim (eqb_tells word 0) [
  | inl none ↦ omega (arith, none.1)
  | inr pos ↦
      let same : thread_reading word ≡ word = ap (λ (b : Bool). cond b 1 word) pos.0 in omega (arith, same, low)
]

or_true : (b : Bool) → (b || true) ≡ true
or_true true = refl
or_true false = refl

-- A word isn't 0 and 1.
not_both : (word : ℕ) → ((word == 0) && (word == 1)) ≡ false
not_both word = elim (eqb_tells word 0) [
  | inl none ↦ ap (λ (w : ℕ). (w == 0) && (w == 1)) none.1
  | inr pos ↦ ap (λ (b : Bool). b && (word == 1)) pos.0
]

module _ (accounts : AccountsAreThere) (chains : ChainsAreThere) (plan : Plan) (v : View) (t : ℕ)
    (known : t ≤ v.layout.workers) where
  module _ (words : List ℕ) (views : List View) (id : ℕ) (s : Stands plan words views)
      (here : get_elem? views id ≡ some v) where
    abbrev m : Machine
    m = s.machine

    abbrev found : ℕ
    found = thread_word words t

    abbrev after : View
    after = peeked v t found

    abbrev event : WordEvent
    event = record { address = ThreadWord t; found = found; left = found }

    low : t ≤ m.layout.workers
    low = subst (λ (l : Layout). t ≤ l.workers) (s.same_layout id v here) known

    has : HasWord m.layout (ThreadWord t)
    has = omega (arith, low)

    there : t < length words
    there = omega (arith, thread_within m.layout t s.plain low, s.length_is)

    keeps_threads : KeepsThreads m.layout words (set words t found) v after
    keeps_threads =
        thread_step m.layout words v after event t found there (record { thread = refl; given = refl; trace = refl })
        (record {
          address = refl;
          quiet = not_both found;
          gone = λ three. three;
          whose = inr refl;
          stays = λ pos. pos;
          stays_gone = λ is. is;
        })

    changes : Changes plan words views v after s (set words t found)
    changes = record {
      accounts = s.accounts;
      machine = m;
      counts = s.counts;
      layout_same = refl;
      length_is = length-set words t found;
      reads = λ b there_b.
          sym (unwritten m.memory (ThreadWord t) b (thread_reading found) (s.reads (ThreadWord t) has))
          ∙ written_reads m.layout words m.memory (ThreadWord t) found (thread_reading found) s.plain
          (few_first s.accounts (1 + m.layout.workers) m s.counts) s.length_is refl has s.reads b there_b;
      actors = sym (set_itself m.actors v.thread v.actor (s.same_actor id v here));
      thread_same = refl;
      told_same = refl;
      given_more = λ k is. is;
      gone_stays = λ gone. (gone, refl);
      lends_none = s.lends_none id v here;
      joined_here = s.joined id v here;
      holding = λ x counted. s.holding id v x here counted;
      others = λ k apart. refl;
      no_variables = s.no_variables;
      kinds_stay = λ x word more is. is;
      cells_stay = λ other x w apart is guards. (guards, λ i. refl);
      kinds_here = λ x word more seen.
          s.kinds_seen id x word v here more (sym (any_same (shows_kind x word) v.trace event refl) ∙ seen);
      cells_here = λ x i word guards seen.
          s.cells_seen id x i word v here guards (sym (fold-append (cell_known x i) None v.trace (event ∷ [])) ∙ seen);
      threads = λ k there_k.
          threads_kept plan words (set words t found) views k v after s there_k keeps_threads;
    }

    pub passes_peeked : Passes plan (set words t found) (set views id after) v.taken
        v.actor.locked m
    unfolding changes
    passes_peeked =
        passes plan words views id v after s here (set words t found) changes v.taken
        v.actor.locked
        (λ x which. refl)

    -- The word is that of a thread's status, or 0.
    pub found_low : found ≤ 3
    found_low = elim (slice_get_cases m.actors t).1 [
      | inl actor ↦
          let word = (s.counts.kept.core.each t actor.0 actor.2).0.word in
          let says : thread_reading found ≡ status_word actor.0.status = sym (s.reads (ThreadWord t) has) ∙ word in
          says_low found (omega (arith, says, status_low actor.0.status))
      | inr past ↦ absurd (omega (arith, past.0, low, s.counts.kept.core.threads))
    ]

    -- If it is 0, main has neither started the thread nor given out its hand.
    pub never_started : v.thread ≡ 0 → found ≡ 0 → NeverStarted v t
    never_started first none =
        let threads = s.threads in
        let not_started : has_started t v ≡ false = elim (cases_Bool (has_started t v)) [
          | inl started ↦ absurd (omega (arith, none, threads.started_seen id t v here low started))
          | inr not ↦ not
        ] in
        record {
          some_worker = elim (cases_lt 0 t) [
            | inl pos ↦ pos
            | inr main ↦
                let same : v.thread ≡ t = omega (arith, first, main) in
                absurd (omega (
                  arith,
                  none,
                  subst (λ (k : ℕ). 0 < thread_word words k) same
                      (threads.started id v here),
                ))
          ];
          not_given = elim (cases_Bool (is_given t v)) [
            | inl given ↦
                absurd (false≢true (sym not_started ∙ threads.given_started id t v here given))
            | inr not ↦ not
          ];
          not_started = not_started;
        }

  -- The look is allowed.
  pub peek_allowed : {T : Type 0} (fields id index : ℕ) (me : Me (Option T) View) → me.0 ≡ v → index ≡ t
      → Allows (λ (s : State (Option T) View). TableStands plan s.words s.homes s.views) fields id me index
      (λ found. found)
      (λ found after. Peeks t me found after)
  peek_allowed fields id index me is_me at s holds homes here below =
      let mine : get_elem? s.views id ≡ some v = here ∙ ap some is_me in
      let found = slice_index s.words index in
      let same : thread_word s.words t ≡ found = ap (slice_index s.words) (sym at) in
      let w = peeked v t found in
      let before = holds.stands.machine in
      let moved : Passes plan (set s.words index found) (set s.views id w) v.taken v.actor.locked before =
      subst (λ (k : ℕ). Passes plan (set s.words k found) (set s.views id w) v.taken v.actor.locked before) (sym at)
      (subst (λ (k : ℕ). Passes plan (set s.words t k) (set s.views id (peeked v t k)) v.taken v.actor.locked
      before) same
      (passes_peeked s.words s.views id holds.stands mine)) in
      let rows : RowsAreThere w =
      rows_there accounts chains plan (set s.words index found) (set s.views id w) id w moved.stands
      (set_view s.views id v w mine) in (
        w,
        keeps,
        tt,
        record {
          stands = moved.stands;
          fields =
              fields_kept before moved.stands.machine s.homes s.views id v w holds.fields mine
              (moved.stands.layout_is ∙ sym holds.stands.layout_is)
              (record { taken = refl; in_field = λ x locks. refl; locked = refl; used = λ x uses. uses }) moved.fields;
          first =
              with_event plan.layout (set s.views id w) id w v.trace
              (record { address = ThreadWord t; found = found; left = found })
              (set_view s.views id v w mine) refl;
        },
        subst (λ (u : View). Peeks t (u, me.1) found (w, me.1)) (sym is_me) (
          refl,
          refl,
          omega (arith, same, found_low s.words s.views id holds.stands mine),
          λ first none. never_started s.words s.views id holds.stands mine first (same ∙ none),
          λ joined. sym same ∙ joined_gone plan s.words s.views id v t holds.stands mine joined,
          rows,
        ),
      )

-- ---- what the hand has seen

-- It still has seen what it had seen,
pub still_sees : (v : View) (t word k : ℕ) → SeesEnd v k → SeesEnd (peeked v t word) k
still_sees v t word k (inl gone) =
    inl (any_still (shows_gone k) v.trace (record { address = ThreadWord t; found = word; left = word }) gone)
still_sees v t word k (inr never) =
    inr (record {
      some_worker = never.some_worker;
      not_given = never.not_given;
      not_started =
          any_same (starts k) v.trace (record { address = ThreadWord t; found = word; left = word })
          (and_none (t == k) ((word == 0) && (word == 1)) (not_both word))
          ∙ never.not_started;
    })

-- and now also whether the thread is gone, or was never started.
pub sees_now : (v : View) (t word : ℕ) → (word ≡ 0 → NeverStarted v t) → (word ≡ 0) ⊎ (word ≡ 3)
    → SeesEnd (peeked v t word) t
sees_now v t word never (inl none) = still_sees v t word t (inr (never none))
sees_now v t word never (inr three) =
    let event : WordEvent = record { address = ThreadWord t; found = word; left = word } in
    let shows : shows_gone t event ≡ true =
    ap (λ (b : Bool). b && (word == 3)) (eq-eqb t t refl) ∙ eq-eqb word 3 three in
    inl (any_more (shows_gone t) v.trace event
    ∙ (ap (λ (b : Bool). list_any (shows_gone t) v.trace || b) shows ∙ or_true (list_any (shows_gone t) v.trace)))
