-- The words and all hands of a table agree about each counted object's references.
use Rattle.std.proofs.Common.{◌≡◌, ◌≢◌, ◌⊎◌, ℕ, ◌+◌, ◌<◌, ◌≤◌, List, Bool, inl, inr, refl, sym, ap, ◌∙◌, subst, arith}
use Rattle.std.specs.Prelude.{◌||◌, slice_index, sum_by}
use Rattle.std.specs.List.{list_any}
use Rattle.std.proofs.lemmas.Bool.{cases_Bool, false≢true}
use Rattle.std.proofs.lemmas.List.Folds.{list_any-append}
use Rattle.std.proofs.lemmas.Option.{slice_get_within}
use Rattle.std.proofs.lemmas.List.Sums.{sum_by-append}
use mathlib.Core.Option.{some}
use lib.ListN.{get_elem?}
use Rattle.brc_word.specs.Words.{owner_part, local_part, biased_part, phase_part, bias}
use Rattle.brc_model.specs.declared.duty.Duty.{Duty}
use Rattle.brc_model.specs.declared.duty.Holding.TheVariants.{AsCaller}
use Rattle.brc_model.specs.declared.address.Address.TheVariants.{Local, Shared, Gate, KindOf, Cell}
use Rattle.brc_model.specs.declared.layout.Layout.{Layout}
use Rattle.brc_model.specs.Layout.{row_count, block_of, IsCounted}
use Rattle.brc_model.specs.AbstractState.{references_to}
use Rattle.brc_model.specs.References.{word_holds}
use Rattle.brc_model.specs.Machine.{mark_of}
use Rattle.brc_table.proofs.RowMarks.{mark_reads}
use Rattle.brc_table.specs.Places.{cell_place}
use Rattle.brc_model.specs.Agreement.{awaits, carries, weighed, HasDuty, SomeThreadHas, OwnerHas, decides_or_merges, has_swapped, IsPhase, biased_total, awaiting}
use Rattle.brc_model.specs.Agreement as model
use Rattle.brc_model.specs.declared.actor.Actor.{Actor}
use Rattle.brc_model.specs.Machine.{Life, Unborn, Live, Dying, Closed, Machine, idle_actor}
use Rattle.brc_model.specs.RowInvariant.{Numbers, Phased, IsDefault, IsQueued, Mode, InOwned, InSwapped, InMerged, IsDead, IsUnborn, RowInvariant}
use Rattle.brc_model.specs.Invariant.{numbers_of}
use Rattle.brc_model.specs.Accounts.{Accounts}
use Rattle.brc_model.specs.Counting.{Counts}
use Rattle.brc_model.specs.CountingLaws.{CountsAgree, CellsHold, over_threads}
use Rattle.brc_model.specs.CountingLaws as laws
use Rattle.brc_table.specs.Plan.{Plan}
use Rattle.brc_table.specs.declared.view.View.{View}
use Rattle.brc_table.specs.Views.{holds, open_work}
use Rattle.brc_table.specs.Rule.{Stands}
use Rattle.brc_table.specs.Agreeing.{local_at, shared_at, row_mark, gives_up, makes, over_work, listed, in_cells, pending, Lives, IsBornAndOpen, is_birth_or_death, IsCountedLocally, SomeHandHas, OwnersHandHas, IsDeadGate, IsFreeOf, AgreesInTable}
use Rattle.brc_table.specs.Ending.{kind_at, gate_at}
use Rattle.brc_table.proofs.Lists.{there_is}
use Rattle.brc_table.proofs.Living.{lives}
use Rattle.brc_table.proofs.Dead.{IsDeadRow, dead_row, makes_none}
use Rattle.brc_table.proofs.ThreadHands.{thread_is}
use Rattle.brc_table.proofs.Summing.{over_each, over_sum, over_none, weight_at, weight_there, over_list, over_hands}
use Rattle.brc_table.proofs.Sharing.{share, share_all, share_one}

-- ---- a row of the machine

-- A row that is default or queued has one pending decrement at most.
phased_one : (n : Numbers) → Phased n → n.mark + n.waiting ≤ 1
phased_one n (IsDefault p w b) = omega (arith, w)
phased_one n (IsQueued p w) = omega (arith, w)

-- So has each live row.
mode_one : (owner : ℕ) (n : Numbers) → Mode owner n → n.mark + n.waiting ≤ 1
mode_one owner n (InOwned o) = phased_one n o.phased
mode_one owner n (InSwapped o) = phased_one n o.phased
mode_one owner n (InMerged o) = o.awaits

-- the references and the pending decrements of a row together
abbrev uses : Machine → ℕ → ℕ
uses m x = references_to x m.abstract.references + awaiting m x

-- The row has references or pending decrements, or lives.
abbrev IsUsed : Machine → ℕ → Type 0
IsUsed m x = (1 ≤ uses m x) ⊎ (m.life x ≡ Live)

-- What a row's counts say, whether it lives or not.
record RowSays (m : Machine) (x : ℕ) : Type 0 where
  total : biased_total m x ≡ references_to x m.abstract.references + awaiting m x + bias
  one_pending : awaiting m x ≤ 1
  default_none : phase_part (m.memory (Shared x)) ≡ 0 → awaiting m x ≡ 0
  default_counts : phase_part (m.memory (Shared x)) ≡ 0 → bias ≤ biased_part (m.memory (Shared x))
  queued_one : IsUsed m x → phase_part (m.memory (Shared x)) ≡ 2 → awaiting m x ≡ 1
  merged_free : IsUsed m x → phase_part (m.memory (Shared x)) ≡ 3 → m.memory (Local x) ≡ 0
  merged_counts : IsUsed m x → phase_part (m.memory (Shared x)) ≡ 3 → bias < biased_part (m.memory (Shared x))
  phase : IsUsed m x → IsPhase (phase_part (m.memory (Shared x)))
  default_local : IsUsed m x → phase_part (m.memory (Shared x)) ≡ 0
      → model.IsCountedLocally m x ⊎ SomeThreadHas m (decides_or_merges x)
  queued_local : IsUsed m x → phase_part (m.memory (Shared x)) ≡ 2
      → model.IsCountedLocally m x ⊎ OwnerHas m x (decides_or_merges x) ⊎ SomeThreadHas m (has_swapped x)

-- An unborn row has the numbers of a dead one.
unborn_dead : (n : Numbers) → IsUnborn n → IsDead n
unborn_dead n row = record {
  local = ap local_part row.local;
  shared = ap biased_part row.shared;
  mark = row.mark;
  references = row.references;
  waiting = row.waiting;
  carried = row.carried;
  merging = row.merging;
  deciding = row.deciding;
}

-- A dead row's counts are zero, and it isn't in use.
dead_says : (m : Machine) (x : ℕ) → IsDead (numbers_of m x) → m.life x ≢ Live → RowSays m x
dead_says m x row dead =
    let none : uses m x ≡ 0 = omega (arith, row.references, row.mark, row.waiting) in
    let unused : IsUsed m x → ⊥ = λ used. elim used [
      | inl more ↦ absurd (omega (arith, none, more))
      | inr live ↦ dead live
    ] in
    record {
      total = omega (arith, row.local, row.shared, row.mark, row.references, row.waiting, row.carried);
      one_pending = omega (arith, none);
      default_none = λ e. omega (arith, none);
      default_counts = λ e. omega (arith, row.shared);
      queued_one = λ used. absurd (unused used);
      merged_free = λ used. absurd (unused used);
      merged_counts = λ used. absurd (unused used);
      phase = λ used. absurd (unused used);
      default_local = λ used. absurd (unused used);
      queued_local = λ used. absurd (unused used);
    }

-- Each row says so, whatever its life.
row_says : CountsAgree → (p : Accounts) (n : ℕ) (m : Machine) (x : ℕ) → Counts p n m → IsCounted m.layout x
    → (l : Life) → m.life x ≡ l → RowInvariant (block_of m.layout x) l (numbers_of m x) → RowSays m x
row_says law p n m x counts is Unborn life row =
    dead_says m x (unborn_dead (numbers_of m x) row)
    (λ e. let wrong : Unborn ≡ Live = sym life ∙ e in absurd cc)
row_says law p n m x counts is Live life row =
    let says = law p n m x counts is (λ e. let wrong : Live ≡ Unborn = sym life ∙ e in absurd cc) in
    record {
      total = says.total;
      one_pending = mode_one (block_of m.layout x) (numbers_of m x) row.mode;
      default_none = λ e. (says.in_default life e).awaiting_none;
      default_counts = λ e. (says.in_default life e).counts;
      queued_one = λ used e. (says.in_queued life e).awaiting_one;
      merged_free = λ used e. (says.in_merged life e).unowned;
      merged_counts = λ used e. (says.in_merged life e).counts;
      phase = λ used. says.phase life;
      default_local = λ used e. (says.in_default life e).local;
      queued_local = λ used e. (says.in_queued life e).local;
    }
row_says law p n m x counts is (Dying t) life row =
    dead_says m x row (λ e. let wrong : Dying t ≡ Live = sym life ∙ e in absurd cc)
row_says law p n m x counts is Closed life row =
    dead_says m x row (λ e. let wrong : Closed ≡ Live = sym life ∙ e in absurd cc)

-- ---- the machine's sums over its hands

-- the weight of an actor's open work
abbrev work_of : (Duty → ℕ) → Actor → ℕ
work_of f a = sum_by f a.agenda + sum_by f a.aside

module _ (plan : Plan) (words : List ℕ) (views : List View) (s : Stands plan words views) where
  abbrev m : Machine
  m = s.machine

  abbrev threads : ℕ
  threads = 1 + s.machine.layout.workers

  -- A hand's thread is one of the machine's.
  low : (id : ℕ) (v : View) → get_elem? views id ≡ some v → v.thread < threads
  low id v here =
      omega (arith, slice_get_within m.actors v.thread v.actor (s.same_actor id v here), s.counts.kept.core.threads)

  -- The open work of all actors, thread by thread.
  over_actors : (f : Duty → ℕ) → weighed f m ≡ over_threads (weight_at (work_of f) m.actors) threads
  over_actors f =
      subst (λ (n : ℕ). weighed f m ≡ over_threads (weight_at (work_of f) m.actors) n) s.counts.kept.core.threads
      (over_list (work_of f) m.actors)

  -- The open work of all threads is that of all hands.
  work : (f : Duty → ℕ) → weighed f m ≡ over_work f views
  work f =
      over_actors f
      ∙ over_hands threads (weight_at (work_of f) m.actors) (λ v. sum_by f (open_work v)) views (record {
        low = low;
        each = λ id v here.
            weight_there (work_of f) m.actors v.thread v.actor (s.same_actor id v here)
            ∙ sym (sum_by-append f v.actor.agenda v.actor.aside);
        apart = s.one_hand;
        idle = λ t under none. weight_there (work_of f) m.actors t (idle_actor 0) (s.idle t under none).0;
      })

  -- The accounts of all threads are what all hands list.
  accounts : (x : ℕ) → IsCounted m.layout x → over_threads (λ t. s.accounts t AsCaller x) threads ≡ listed views x
  accounts x is =
      over_hands threads (λ t. s.accounts t AsCaller x) (λ v. holds v x) views (record {
        low = low;
        each = λ id v here. s.holding id v x here is;
        apart = s.one_hand;
        idle = λ t under none. (s.idle t under none).1 AsCaller x;
      })

  -- A thread's references and work are its account and what it gives up.
  share_at : (x t : ℕ) → t < threads
      → share x m.abstract.references t + weight_at (work_of (makes x)) m.actors t
      ≡ s.accounts t AsCaller x + weight_at (work_of (gives_up x)) m.actors t
  share_at x t under =
      let it = there_is m.actors t (omega (arith, under, s.counts.kept.core.threads)) in
      let fits = s.counts.kept.core.each t it.0 it.1 in
      omega (
        arith,
        share_one x t m.abstract.references (s.accounts t) it.0 fits.0.holds fits.1
            (λ depth i. s.no_variables t depth i x)
            (s.counts.no_flight t x),
        weight_there (work_of (makes x)) m.actors t it.0 it.1,
        weight_there (work_of (gives_up x)) m.actors t it.0 it.1,
      )

  -- The references that cells hold are those that the table's words name.
  held_by_cells : CellsHold → (x : ℕ) → laws.in_cells x m.abstract.references ≡ in_cells m.layout words x
  held_by_cells hold x =
      hold s.accounts threads m x s.counts
      ∙ over_each (λ y. over_threads (λ i. word_holds (m.memory (Cell y i)) x) m.layout.cells)
      (λ y. over_threads (λ i. word_holds (slice_index words (cell_place m.layout y i)) x) m.layout.cells)
      (row_count m.layout)
      (λ y row. over_each (λ i. word_holds (m.memory (Cell y i)) x)
      (λ i. word_holds (slice_index words (cell_place m.layout y i)) x) m.layout.cells
      (λ i cell. ap (λ (w : ℕ). word_holds w x) (s.reads (Cell y i) (row, cell))))

  -- The references are those that cells hold and those that the hands list, without those in the making, and with those
  -- being given up.
  references : CellsHold → (x : ℕ) → IsCounted m.layout x
      → references_to x m.abstract.references + over_work (makes x) views
      ≡ listed views x + in_cells m.layout words x + over_work (gives_up x) views
  references hold x is =
      let bag = m.abstract.references in
      let made = weight_at (work_of (makes x)) m.actors in
      let given = weight_at (work_of (gives_up x)) m.actors in
      let all = share_all x threads bag (record {
        beyond = λ t past k. s.counts.kept.core.beyond t past k x;
      }) in
      let each =
      over_each (λ t. share x bag t + made t) (λ t. s.accounts t AsCaller x + given t) threads (share_at x) in
      omega (
        arith,
        all,
        each,
        over_sum (share x bag) made threads,
        over_sum (λ t. s.accounts t AsCaller x) given threads,
        over_actors (makes x),
        over_actors (gives_up x),
        work (makes x),
        work (gives_up x),
        accounts x is,
        held_by_cells hold x,
      )

  -- ---- the hands behind the machine's threads

  -- A duty of one of the machine's threads is a duty of its hand.
  hand_has : (t : ℕ) (is_such : Duty → Bool) → HasDuty m t is_such
      → (has : SomeHandHas views is_such) × (has.view.thread ≡ t)
  hand_has t is_such duty = elim (thread_is plan words views s t duty.actor duty.found) [
    | inl hand ↦ (
      record {
        id = hand.0.id;
        view = hand.0.view;
        here = hand.0.here;
        listed = list_any-append is_such hand.0.view.actor.agenda hand.0.view.actor.aside
            ∙ (ap (λ (b : Actor). list_any is_such b.agenda || list_any is_such b.aside) (sym hand.1) ∙ duty.listed);
      },
      hand.0.thread,
    )
    | inr idle ↦
        absurd (false≢true (ap (λ (b : Actor). list_any is_such b.agenda || list_any is_such b.aside) (sym idle)
        ∙ duty.listed))
  ]

  -- What the machine says of a local count the words say.
  counted_so : (x : ℕ) → m.memory (Local x) ≡ local_at words x → model.IsCountedLocally m x
      → IsCountedLocally plan.layout words x
  counted_so x local says = record {
    owner = ap owner_part (sym local) ∙ (says.owner ∙ ap (λ (l : Layout). block_of l x + 1) s.layout_is);
    counted = subst (λ (w : ℕ). 1 ≤ local_part w) local says.counted;
  }

  -- What the machine says of an owner's duty is so of its hand.
  owner_so : (x : ℕ) (is_such : Duty → Bool) → m.memory (Local x) ≡ local_at words x → OwnerHas m x is_such
      → OwnersHandHas words views x is_such
  owner_so x is_such local owner =
      let found = hand_has owner.0 is_such owner.2 in
      record {
        has = found.0;
        owner = ap owner_part (sym local) ∙ (owner.1 ∙ ap (λ (t : ℕ). t + 1) (sym found.1));
      }

  -- What it says of a default object is so of the words and the hands.
  default_so : (x : ℕ) → m.memory (Local x) ≡ local_at words x
      → model.IsCountedLocally m x ⊎ SomeThreadHas m (decides_or_merges x)
      → IsCountedLocally plan.layout words x ⊎ SomeHandHas views (decides_or_merges x)
  default_so x local (inl counted) = inl (counted_so x local counted)
  default_so x local (inr duty) = inr (hand_has duty.0 (decides_or_merges x) duty.1).0

  -- What it says of a queued one, too.
  queued_so : (x : ℕ) → m.memory (Local x) ≡ local_at words x
      → model.IsCountedLocally m x ⊎ OwnerHas m x (decides_or_merges x) ⊎ SomeThreadHas m (has_swapped x)
      → IsCountedLocally plan.layout words x ⊎ OwnersHandHas words views x (decides_or_merges x)
      ⊎ SomeHandHas views (has_swapped x)
  queued_so x local (inl counted) = inl (counted_so x local counted)
  queued_so x local (inr (inl owner)) = inr (inl (owner_so x (decides_or_merges x) local owner))
  queued_so x local (inr (inr duty)) = inr (inr (hand_has duty.0 (has_swapped x) duty.1).0)

  -- ---- live objects

  -- An object lives of which words and hands say so.
  lives_so : (x : ℕ) → x < row_count m.layout → IsBornAndOpen words views x → m.life x ≡ Live
  lives_so x there open_row =
      let kind : m.memory (KindOf x) ≡ kind_at words x = s.reads (KindOf x) there in
      let gate : m.memory (Gate x) ≡ gate_at words x = s.reads (Gate x) there in
      lives s.accounts threads m s.counts.kept.core x
      (λ t a found. elim (cases_Bool (list_any (is_birth_or_death x) a.agenda)) [
        | inl has ↦
            let hand = (hand_has t (is_birth_or_death x) (record {
              actor = a;
              found = found;
              listed = ap (λ (b : Bool). b || list_any (is_birth_or_death x) a.aside) has;
            })).0 in
            absurd (false≢true (sym (open_row.settled hand.id hand.view hand.here) ∙ hand.listed))
        | inr none ↦ none
      ])
      (omega (arith, open_row.born, kind)) (λ dead. open_row.open_gate (subst IsDeadGate gate dead))

  -- ---- dying and closed objects

  -- Nobody makes a reference to a dead object.
  none_made : (x : ℕ) → IsDeadRow m x → over_work (makes x) views ≡ 0
  none_made x dead =
      sym (work (makes x))
      ∙ (over_actors (makes x)
      ∙ (over_each (weight_at (work_of (makes x)) m.actors) (λ t. 0) threads (λ t under.
      let it = there_is m.actors t (omega (arith, under, s.counts.kept.core.threads)) in
      weight_there (work_of (makes x)) m.actors t it.0 it.1
      ∙ makes_none s.accounts threads m s.counts.kept.core x dead t it.0 it.1) ∙ over_none threads))

  -- So nobody has one, and none is given up.
  dead_so : CellsHold → (x : ℕ) → IsCounted m.layout x → x < row_count m.layout → IsDeadGate (gate_at words x)
      → IsFreeOf plan.layout words views x
  dead_so hold x counted there says =
      let gate : m.memory (Gate x) ≡ gate_at words x = s.reads (Gate x) there in
      let dead = dead_row s.accounts threads m x s.counts.kept.core counted (subst IsDeadGate (sym gate) says) in
      let refs = references hold x counted in
      let cells : in_cells m.layout words x ≡ in_cells plan.layout words x =
      ap (λ (l : Layout). in_cells l words x) s.layout_is in
      let made = none_made x dead in
      let mark : mark_of m.layout m.memory x ≡ row_mark plan.layout words x =
      mark_reads plan words views s x there ∙ ap (λ (l : Layout). row_mark l words x) s.layout_is in
      record {
        unlisted = omega (arith, refs, made, dead.row.references);
        unnamed = omega (arith, refs, made, dead.row.references, cells);
        unmade = made;
        given_up = omega (arith, refs, made, dead.row.references);
        none_pending = omega (arith, mark, work (awaits x), dead.row.mark, dead.row.waiting);
      }

-- ---- agreement

-- The words and the hands of a table agree about each counted object.
pub agrees_in_table : CountsAgree → CellsHold → (plan : Plan) (words : List ℕ) (views : List View) (x : ℕ)
    → Stands plan words views → IsCounted plan.layout x → x < row_count plan.layout
    → AgreesInTable plan.layout words views x
agrees_in_table law hold plan words views x s is there =
    let m = s.machine in
    let is' : IsCounted m.layout x = subst (λ (l : Layout). IsCounted l x) (sym s.layout_is) is in
    let there' : x < row_count m.layout = subst (λ (l : Layout). x < row_count l) (sym s.layout_is) there in
    let says =
    row_says law s.accounts (1 + m.layout.workers) m x s.counts is' (m.life x) refl (s.counts.kept.core.rows x is') in
    let local : m.memory (Local x) ≡ local_at words x = s.reads (Local x) there' in
    let shared : m.memory (Shared x) ≡ shared_at words x = s.reads (Shared x) there' in
    let mark : mark_of m.layout m.memory x ≡ row_mark plan.layout words x =
    mark_reads plan words views s x there' ∙ ap (λ (l : Layout). row_mark l words x) s.layout_is in
    let phase = ap phase_part shared in
    let biased = ap biased_part shared in
    let carried = work plan words views s (carries x) in
    let awaited = work plan words views s (awaits x) in
    let refs = references plan words views s hold x is' in
    let cells : in_cells m.layout words x ≡ in_cells plan.layout words x =
    ap (λ (l : Layout). in_cells l words x) s.layout_is in
    let awaits_is : awaiting m x ≡ pending plan.layout words views x = omega (arith, mark, awaited) in
    let used_or_live : Lives plan.layout words views x → IsUsed m x = λ is_so. elim is_so [
      | inl used ↦ inl (omega (arith, used, refs, cells, awaits_is))
      | inr open_row ↦ inr (lives_so plan words views s x there' open_row)
    ] in
    record {
      total = omega (arith, says.total, ap local_part local, biased, carried, refs, cells, awaits_is);
      one_pending = omega (arith, says.one_pending, awaits_is);
      default_none = λ e. omega (arith, says.default_none (phase ∙ e), awaits_is);
      default_counts = λ e. omega (arith, says.default_counts (phase ∙ e), biased);
      queued_one = λ used e. omega (arith, says.queued_one (used_or_live used) (phase ∙ e), awaits_is);
      merged_free = λ used e. sym local ∙ says.merged_free (used_or_live used) (phase ∙ e);
      merged_counts = λ used e. omega (arith, says.merged_counts (used_or_live used) (phase ∙ e), biased);
      phase = λ used. subst IsPhase phase (says.phase (used_or_live used));
      default_local = λ used e.
          default_so plan words views s x local (says.default_local (used_or_live used) (phase ∙ e));
      queued_local = λ used e.
          queued_so plan words views s x local (says.queued_local (used_or_live used) (phase ∙ e));
      dead_free = dead_so plan words views s hold x is' there';
    }
