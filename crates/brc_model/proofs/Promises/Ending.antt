-- At the end exactly the counted objects that no cell of an open list names are closed, as their words say.
use Rattle.std.proofs.Common.{◌≡◌, ◌≢◌, ℕ, zero, suc, ◌+◌, ◌<◌, List, [], ◌∷◌, inl, inr, get_or, refl, sym, ap, ◌∙◌, subst, arith}
use Rattle.std.specs.Prelude.{◌==◌}
use Rattle.std.proofs.lemmas.Bool.{eq-eqb, eqb-true, cases_lt}
use Rattle.std.proofs.lemmas.Bool.Decides.{eqb_tells}
use Rattle.std.proofs.lemmas.Option.{slice_get_within, slice_get-get_or}
use Rattle.brc_word.specs.declared.values.TheConstants.{GONE, EMPTY}
use Rattle.brc_word.specs.Words.{closed_word}
use Rattle.brc_model.specs.declared.duty.Duty.{Duty}
use Rattle.brc_model.specs.declared.address.Address.TheVariants.{Gate, KindOf, Cell, Field, ThreadWord}
use Rattle.brc_model.specs.AbstractState.{Holder, ByThread, ByCell, Reference, references_to}
use Rattle.brc_model.specs.References.{held, one_if, word_holds, cell_reference}
use Rattle.brc_model.specs.Layout.{block_of, index_of, IsCounted}
use Rattle.brc_model.specs.Duties.{cells_of}
use Rattle.brc_model.specs.Knowledge.{status_word}
use Rattle.brc_model.specs.declared.actor.Actor.{Actor}
use Rattle.brc_model.specs.Machine.{Life, Unborn, Live, Dying, Closed, Machine, idle_actor}
use Rattle.brc_model.specs.RowInvariant.{IsLive, RowInvariant}
use Rattle.brc_model.specs.Accounts.{Accounts}
use Rattle.brc_model.specs.Gates.{LiveGate, IsFree, IsLocked, GateFits}
use Rattle.brc_model.specs.Invariant.{numbers_of, CellFits, kind_stored, field_stored, CoreInvariant}
use Rattle.brc_model.specs.Counting.{Counts}
use Rattle.brc_model.specs.Ending.{HaveEnded, IsNamed, RowsEnd}
use Rattle.brc_model.proofs.Basics.Bag.{held-cons, held_itself, held-le-references_to, one_if_true, references_to-cons}
use Rattle.brc_model.proofs.Basics.Blocks.{block_within, born_within}
use Rattle.brc_model.proofs.Promises.AtTheEnd.{AreAtEnd, held_by_none, live_referenced, none_dying, closed_free}
use Rattle.brc_model.proofs.Promises.Guarded.{gone_hold_nothing}

-- A bag with references to an object has one of them.
record HasReference (x : ℕ) (bag : List Reference) : Type 0 where
  pub holder : Holder
  pub has : 0 < held (record { holder = holder; object = x }) bag

some_reference : (x : ℕ) (bag : List Reference) → 0 < references_to x bag → HasReference x bag
some_reference x [] some = absurd (omega (arith, some))
some_reference x (q ∷ qs) some = elim (eqb_tells q.object x) [
  | inl this ↦ record {
    holder = q.holder;
    has = subst (λ (y : ℕ). 0 < held (record { holder = q.holder; object = y }) (q ∷ qs)) this.1
        (omega (arith, held_itself q qs));
  }
  | inr other ↦
      let none : one_if (q.object == x) ≡ 0 = ap one_if other.0 in
      let rest = some_reference x qs (omega (arith, some, references_to-cons x q qs, none)) in
      record {
        holder = rest.holder;
        has = omega (arith, rest.has, held-cons (record { holder = rest.holder; object = x }) q qs);
      }
]

-- A cell's word that holds the object names its row.
named_by : (word x : ℕ) → 0 < word_holds word x → word ≡ x + 1
named_by zero x some = absurd (omega (arith, some))
named_by (suc y) x some = let same = eqb-true y x (one_if_true (y == x) some) in omega (arith, same)

-- A cell of a row that isn't live is empty.
closed_is_empty : (l : Life) (word : ℕ) → l ≡ Closed → CellFits l word → word ≡ 0
closed_is_empty Unborn word is fits = fits
closed_is_empty _ word is fits = cc

unborn_is_empty : (l : Life) (word : ℕ) → l ≡ Unborn → CellFits l word → word ≡ 0
unborn_is_empty Unborn word is fits = fits
unborn_is_empty _ word is fits = cc

module _ (p : Accounts) (n : ℕ) (m : Machine) (counts : Counts p n m) (ended : HaveEnded p m) where
  core : CoreInvariant p n m
  core = counts.kept.core

  pub at_end : AreAtEnd p m
  at_end t a found = elim (ended t a found) [
    | inl gone ↦
        let nothing = gone_hold_nothing p n m t a counts found gone in
        let word : m.memory (ThreadWord t) ≡ GONE = (core.each t a found).0.word ∙ ap status_word gone in
        record {
          agenda = nothing.agenda;
          aside = nothing.aside;
          head = nothing.settled;
          none = nothing.none;
          stopped = inl (λ one. omega (arith, one, word));
        }
    | inr idle ↦ record {
      agenda = ap (λ (b : Actor). b.agenda) idle.0;
      aside = ap (λ (b : Actor). b.aside) idle.0;
      head = ap (λ (b : Actor). b.head) idle.0;
      none = idle.1;
      stopped = inr (ap (λ (b : Actor). b.used) idle.0);
    }
  ]

  -- The gate of a live row doesn't say that it is closed.
  live_gate : (x gate : ℕ) → LiveGate m.actors x gate → gate ≡ closed_word → ⊥
  live_gate x gate (IsFree free) is = omega (arith, free, is)
  live_gate x gate (IsLocked t a found locked names) is =
      omega (arith, names, is, slice_get_within m.actors t a found, core.threads, core.few_threads)

  closed_life : (x : ℕ) (l : Life) → m.life x ≡ l → GateFits m.actors x l (m.memory (Gate x))
      → m.memory (Gate x) ≡ closed_word → l ≡ Closed
  closed_life x Unborn is fits closed = absurd (omega (arith, fits, closed))
  closed_life x Live is fits closed = absurd (live_gate x (m.memory (Gate x)) fits closed)
  closed_life x (Dying t) is fits closed = absurd (none_dying x t core at_end is)
  closed_life x Closed is fits closed = refl

  pub is_closed : (x : ℕ) → m.memory (Gate x) ≡ closed_word → m.life x ≡ Closed
  is_closed x closed = closed_life x (m.life x) refl (core.gates x) closed

  -- A cell that names a row is that of a list that isn't closed.
  named : (x y i : ℕ) → 0 < held (cell_reference y i x) m.abstract.references → IsNamed m x
  named x y i has =
      let names : m.memory (Cell y i) ≡ x + 1 =
      named_by (m.memory (Cell y i)) x (omega (arith, has, core.cells_hold y i x)) in
      record {
        list = y;
        cell = i;
        there = born_within y core (λ unborn.
            absurd (omega (arith, names, unborn_is_empty (m.life y) (m.memory (Cell y i)) unborn (core.cells y i))));
        low = elim (cases_lt i (cells_of (m.memory (KindOf y)))) [
          | inl low ↦ omega (arith, low, counts.ranges.kinds y)
          | inr past ↦ absurd (omega (arith, names, core.cells_end y i past))
        ];
        names = names;
        not_closed = λ closed.
            omega (
              arith,
              names,
              closed_is_empty (m.life y) (m.memory (Cell y i)) (is_closed y closed) (core.cells y i),
            );
      }

  held_in : (x : ℕ) (h : Holder) → 0 < held (record { holder = h; object = x }) m.abstract.references → IsNamed m x
  held_in x (ByThread t k) has = absurd (omega (arith, has, held_by_none t k x core at_end))
  held_in x (ByCell y i) has = named x y i has

  -- So a cell names each live row.
  live_named : (x : ℕ) → IsLive (block_of m.layout x) (numbers_of m x) → IsNamed m x
  live_named x live =
      let one = some_reference x m.abstract.references (live_referenced x core at_end live) in
      held_in x one.holder one.has

  -- The kind word of a row that isn't born is 0, and so is its field.
  pub blank_row : (x : ℕ) → m.life x ≡ Unborn → (m.memory (KindOf x) ≡ 0) × (m.memory (Field x) ≡ EMPTY)
  blank_row x unborn =
      let t = block_of m.layout x in
      let within = block_within m.layout x core.some_rows in
      let a = get_or m.actors t (idle_actor 0) in
      let found = slice_get-get_or m.actors t (idle_actor 0) (omega (arith, within, core.threads, core.workers)) in
      elim (cases_lt (index_of m.layout t x) a.used) [
        | inl low ↦ absurd ((core.uses t a found).born x refl low unborn)
        | inr past ↦
            let blank = core.blanks t a found in
            let idle = (at_end t a found).agenda in (
              blank.kinds x refl past (ap (λ (l : List Duty). kind_stored l x) idle),
              blank.fields x refl past (ap (λ (l : List Duty). field_stored l x) idle),
            )
      ]

  left_by : (x : ℕ) (l : Life) → m.life x ≡ l → IsCounted m.layout x → 0 < m.memory (KindOf x)
      → m.memory (Gate x) ≢ closed_word → IsNamed m x
  left_by x Unborn is counted some open_still = absurd (omega (arith, some, (blank_row x is).0))
  left_by x Live is counted some open_still =
      live_named x (subst (λ (l : Life). RowInvariant (block_of m.layout x) l (numbers_of m x)) is
      (core.rows x counted))
  left_by x (Dying t) is counted some open_still = absurd (none_dying x t core at_end is)
  left_by x Closed is counted some open_still =
      absurd (open_still (subst (λ (l : Life). GateFits m.actors x l (m.memory (Gate x))) is (core.gates x)))

pub rows_end : RowsEnd
rows_end p n m x counts ended counted there =
    let core = counts.kept.core in
    record {
      left = left_by p n m counts ended x (m.life x) refl counted;
      closed_born = λ closed.
          core.kind_words x (λ unborn.
          let wrong : Closed ≡ Unborn = sym (is_closed p n m counts ended x closed) ∙ unborn in cc);
      closed_unnamed = λ closed y i names.
          let none = closed_free x core counted (is_closed p n m counts ended x closed) in
          let next : m.memory (Cell y i) ≡ suc x = omega (arith, names) in
          let word : word_holds (m.memory (Cell y i)) x ≡ 1 =
          ap (λ (w : ℕ). word_holds w x) next ∙ ap one_if (eq-eqb x x refl) in
          absurd (omega (
            arith,
            none,
            word,
            core.cells_hold y i x,
            held-le-references_to (cell_reference y i x) m.abstract.references,
          ));
      closed_empty = λ closed i.
          closed_is_empty (m.life x) (m.memory (Cell x i)) (is_closed p n m counts ended x closed) (core.cells x i);
    }
