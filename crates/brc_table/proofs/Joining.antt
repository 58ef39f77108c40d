-- A hand joins another one, whose thread is gone, and the rule holds again: no word changes.
use Rattle.std.proofs.Common.{◌≡◌, ℕ, zero, suc, ◌+◌, ◌<◌, ◌≤◌, Option, List, [], ◌∷◌, set, refl, sym, ap, ◌∙◌, subst, arith}
use Rattle.std.specs.Prelude.{slice_index_or, All}
use Rattle.std.proofs.lemmas.Option.{slice_get_within}
use mathlib.Core.Option.{some}
use lib.ListN.{get_elem?}
use Rattle.atomic_table.specs.Table.{State, Joins}
use Rattle.atomic_table.proofs.Lists.{set_else, set_again}
use Rattle.brc_model.specs.declared.actor.Status.TheVariants.{Gone}
use Rattle.brc_model.specs.declared.address.Address.TheVariants.{KindOf, ThreadWord}
use Rattle.brc_model.specs.declared.duty.Duty.{Duty}
use Rattle.brc_model.specs.declared.layout.Layout.{Layout}
use Rattle.brc_model.specs.GuardLaws.{GoneThreadsHoldNothing}
use Rattle.brc_model.specs.Invariant.{kind_stored}
use Rattle.brc_model.specs.Knowledge.{status_word}
use Rattle.brc_model.specs.Layout.{row_count, block_of, block_size, index_of}
use Rattle.brc_table.specs.Plan.{Plan}
use Rattle.brc_table.specs.declared.view.View.{View}
use Rattle.brc_table.specs.declared.view.Joined.{Joined}
use Rattle.brc_table.specs.Views.{RowsAreThere, IsJoined}
use Rattle.brc_table.specs.Begins.{Passes}
use Rattle.brc_table.specs.Homes.{TableStands, held_in}
use Rattle.brc_table.specs.Rule.{IsGone, Stands}
use Rattle.brc_table.specs.Threads.{thread_word}
use Rattle.brc_table.specs.Joining.{joining, RowsAreUsed, JoinedHandsAreGone}
use Rattle.brc_table.proofs.FirstHand.{is_first}
use Rattle.brc_table.proofs.Changing.{passes}
use Rattle.brc_table.proofs.Guarding.{reading_three}
use Rattle.brc_table.proofs.Lists.{set_itself, set_view}
use Rattle.brc_table.proofs.FieldsKept.{fields_kept}
use Rattle.brc_table.proofs.ThreadsKept.{threads_same}

-- ---- the step

module _ (plan : Plan) (words : List ℕ) (views : List View) (id : ℕ) (v w : View) (s : Stands plan words views)
    (here : get_elem? views id ≡ some v) (other : ℕ) (there : get_elem? views other ≡ some w) (gone : w.actor.status
    ≡ Gone)
  where
    abbrev hand : Joined
    hand = record { thread = w.thread; used = w.actor.used }

    joined_all : All (IsGone s.machine.actors) (hand ∷ v.joined)
    joined_all zero d low = record { actor = w.actor; found = s.same_actor other w there; gone = gone; used = refl }
    joined_all (suc k) d low = s.joined id v here k d (omega (arith, low))

    pub passes_joined : Passes plan words (set views id (joining v w)) v.taken v.actor.locked s.machine
    passes_joined =
        passes plan words views id v (joining v w) s here words (record {
          accounts = s.accounts;
          machine = s.machine;
          counts = s.counts;
          layout_same = refl;
          length_is = refl;
          reads = s.reads;
          actors = sym (set_itself s.machine.actors v.thread v.actor (s.same_actor id v here));
          thread_same = refl;
          told_same = refl;
          given_more = λ k is. is;
          gone_stays = λ is. (is, refl);
          lends_none = s.lends_none id v here;
          joined_here = joined_all;
          holding = λ x counted. s.holding id v x here counted;
          others = λ k apart. refl;
          no_variables = s.no_variables;
          kinds_stay = λ x word more is. is;
          cells_stay = λ one x z apart is guards. (guards, λ i. refl);
          kinds_here = λ x word more seen. s.kinds_seen id x word v here more seen;
          cells_here = λ x i word guards seen. s.cells_seen id x i word v here guards seen;
          threads = λ k there_k. threads_same plan words views k v (joining v w) s there_k refl refl refl;
        }) v.taken v.actor.locked (λ x which. refl)

-- What a table asks of a seat that takes in another one, whose view stays as it is.
pub joins : {T : Type 0} (plan : Plan) (id other : ℕ) (v w spent : View) → w.actor.status ≡ Gone → w ≡ spent
    → Joins (λ (s : State (Option T) View). TableStands plan s.words s.homes s.views) id v other w (joining v w) spent
joins plan id other v w spent gone same = λ s holds here apart there.
    let found : get_elem? s.views other ≡ some w = sym (set_else s.views id other (joining v w) apart) ∙ there in
    let now = passes_joined plan s.words s.views id v w holds.stands here other found gone in
    subst (λ (l : List View). TableStands plan s.words s.homes l)
    (sym (ap (set (set s.views id (joining v w)) other) (sym same)
    ∙ set_again (set s.views id (joining v w)) other w there))
    (record {
      stands = now.stands;
      fields =
          fields_kept holds.stands.machine now.stands.machine s.homes s.views id v (joining v w) holds.fields here
          (now.stands.layout_is ∙ sym holds.stands.layout_is)
          (record { taken = refl; in_field = λ x locks. refl; locked = refl; used = λ x uses. uses }) now.fields;
      first = λ only.
          let hand : Joined = record { thread = w.thread; used = w.actor.used } in
          let none : hand ∷ v.joined ≡ [] =
          ap (λ (z : View). z.joined) (is_first plan.layout (set s.views id (joining v w)) id (joining v w)
          (set_view s.views id v (joining v w) here) only) in absurd cc;
    })

-- The rows of a hand's duties and references are there as before.
pub joins_there : (v w : View) → RowsAreThere v → RowsAreThere (joining v w)
joins_there v w old = record {
  few = old.few;
  thread = old.thread;
  used = old.used;
  main = old.main;
  held = old.held;
  agenda = old.agenda;
  aside = old.aside;
  work = old.work;
  head = old.head;
  cells = old.cells;
  locked = old.locked;
  unfinalised = old.unfinalised;
  kinds = old.kinds;
}

-- A hand that has taken no field has none.
pub none_held : {T : Type 0} (fields : List (ℕ × Option T)) → held_in fields ≡ [] → fields ≡ []
none_held [] is = refl
none_held (s ∷ ss) is = absurd cc

-- ---- what is known of joined hands

module _ (plan : Plan) (words : List ℕ) (views : List View) (s : Stands plan words views) (hand : Joined)
    (is : IsGone s.machine.actors hand) where
  says_gone : thread_word words hand.thread ≡ 3
  says_gone =
      let low = slice_get_within s.machine.actors hand.thread is.actor is.found in
      reading_three (thread_word words hand.thread)
      (sym (s.reads (ThreadWord hand.thread) (omega (arith, low, s.counts.kept.core.threads)))
      ∙ ((s.counts.kept.core.each hand.thread is.actor is.found).0.word ∙ ap status_word is.gone))

  -- The row, as the machine sees it.
  row_low : (x : ℕ) → x < row_count plan.layout → x < row_count s.machine.layout
  row_low x low = subst (λ (l : Layout). x < row_count l) (sym s.layout_is) low

  row_own : (x : ℕ) → block_of plan.layout x ≡ hand.thread → block_of s.machine.layout x ≡ hand.thread
  row_own x own = subst (λ (l : Layout). block_of l x ≡ hand.thread) (sym s.layout_is) own

  index_is : (x : ℕ) → index_of s.machine.layout hand.thread x ≡ index_of plan.layout hand.thread x
  index_is x = ap (λ (l : Layout). index_of l hand.thread x) s.layout_is

  rows_used : GoneThreadsHoldNothing → RowsAreUsed plan.layout words hand
  rows_used law =
      let core = s.counts.kept.core in
      let uses = core.uses hand.thread is.actor is.found in
      let blanks = core.blanks hand.thread is.actor is.found in
      let none = law s.accounts (1 + s.machine.layout.workers) s.machine hand.thread is.actor s.counts is.found is.gone
      in
      record {
        few =
            subst (λ (l : Layout). hand.used ≤ block_size l hand.thread) s.layout_is
            (subst (λ (n : ℕ). n ≤ block_size s.machine.layout hand.thread) is.used uses.few);
        born = λ x low own below.
            let lives = uses.born x (row_own x own) (omega (arith, below, index_is x, is.used)) in
            omega (arith, core.kind_words x lives, s.reads (KindOf x) (row_low x low));
        unborn = λ x low own above.
            sym (s.reads (KindOf x) (row_low x low))
            ∙ blanks.kinds x (row_own x own) (omega (arith, above, index_is x, is.used))
            (ap (λ (ds : List Duty). kind_stored ds x) none.agenda);
      }

pub joined_are_gone : GoneThreadsHoldNothing → JoinedHandsAreGone
joined_are_gone law = record {
  gone = λ plan words views id v s here k d low.
      says_gone plan words views s (slice_index_or v.joined k d) (s.joined id v here k d low);
  used = λ plan words views id v s here k d low.
      rows_used plan words views s (slice_index_or v.joined k d) (s.joined id v here k d low) law;
}

-- A thread whose hand was joined is gone.
pub joined_gone : (plan : Plan) (words : List ℕ) (views : List View) (id : ℕ) (v : View) (t : ℕ)
    → Stands plan words views → get_elem? views id ≡ some v → IsJoined t v → thread_word words t ≡ 3
joined_gone plan words views id v t s here joined =
    let hand : Joined = record { thread = t; used = joined.0 } in
    says_gone plan words views s hand
    (subst (IsGone s.machine.actors) joined.1.2 (s.joined id v here joined.1.0 hand joined.1.1))
