-- A hand does its first duty, which is one step on a word, and the rule holds again.
use Rattle.std.proofs.Common.{◌≡◌, ◌≢◌, ℕ, ◌+◌, Bool, true, false, cond, Option, None, List, [], ◌∷◌, length, set, inl, inr, refl, sym, ap, ◌∙◌, subst, arith}
use Rattle.std.specs.Prelude.{◌==◌, slice_index}
use Rattle.std.proofs.lemmas.List.{length-set, get_or-set_same, get_or-set_other}
use Rattle.std.proofs.lemmas.Bool.{eqb-true, cases_Bool}
use mathlib.Core.Option.{some}
use lib.ListN.{get_elem?}
use Rattle.brc_model.specs.declared.duty.Duty.{Duty}
use Rattle.brc_model.specs.declared.duty.Duty.TheVariants.{LendField, ReturnField}
use Rattle.brc_model.specs.declared.actor.Status.TheVariants.{Gone}
use Rattle.brc_model.specs.declared.address.Address.{Address}
use Rattle.brc_model.specs.declared.address.Address.TheVariants.{Local, Shared, Gate, KindOf, Marks, Cell, Field, Resource, ThreadWord}
use Rattle.brc_model.specs.declared.layout.Layout.{Layout}
use Rattle.brc_model.specs.Counting.{IsPlainLayout}
use Rattle.brc_model.specs.Duties.{address_of, new_word}
use Rattle.brc_model.specs.Machine.{Machine, same_address, written, actor_by, machine_by_duty, locked_by, lent_by}
use Rattle.brc_model.specs.Within.{IsThere}
use Rattle.brc_model.specs.CountingLaws.{ComesNext, DutiesAreKept, DutyWithin, DutiesAreWithin}
use Rattle.brc_model.specs.GuardLaws.{LeavesGuarded, GuardedCellsStay}
use Rattle.brc_table.specs.Plan.{Plan}
use Rattle.brc_table.specs.declared.view.View.{View}
use Rattle.brc_table.specs.Places.{place, HasWord, IsObjectWord, IsTableWord, word_count, FewFirstRows}
use Rattle.brc_table.specs.Views.{event_of, view_by}
use Rattle.brc_table.specs.Rule.{reading, Guards, Stands}
use Rattle.brc_table.specs.Begins.{Passes}
use Rattle.brc_table.proofs.FewRows.{few_first}
use Rattle.brc_table.proofs.Lists.{and_first, and_second}
use Rattle.brc_table.proofs.Places.{place_apart, place_within}
use Rattle.brc_table.proofs.Changing.{Changes, passes}
use Rattle.brc_table.proofs.ThreadsKept.{KeepsThreads, threads_kept}
use Rattle.brc_table.proofs.KnownKept.{kind_stays, IsStep, kind_here, lock_before, cell_here}

-- ---- words and addresses

table_has : (layout : Layout) (a : Address) → IsTableWord a → IsThere layout a → HasWord layout a
table_has layout (Field x) word there = absurd word
table_has layout (Resource x) word there = absurd word
table_has layout (Local x) word there = there
table_has layout (Shared x) word there = there
table_has layout (Gate x) word there = there
table_has layout (KindOf x) word there = there
table_has layout (Marks t w) word there = there
table_has layout (Cell x i) word there = there
table_has layout (ThreadWord t) word there = there

-- An object's word is a word of the table.
pub object_in_table : (a : Address) → IsObjectWord a → IsTableWord a
object_in_table (Local x) object = tt
object_in_table (Shared x) object = tt
object_in_table (Gate x) object = tt
object_in_table (KindOf x) object = tt
object_in_table (Marks t w) object = tt
object_in_table (Cell x i) object = tt
object_in_table (Field x) object = absurd object
object_in_table (Resource x) object = absurd object
object_in_table (ThreadWord t) object = absurd object

pub object_reads : (a : Address) (word : ℕ) → IsObjectWord a → reading a word ≡ word
object_reads (Local x) word object = refl
object_reads (Shared x) word object = refl
object_reads (Gate x) word object = refl
object_reads (KindOf x) word object = refl
object_reads (Marks t w) word object = refl
object_reads (Cell x i) word object = refl
object_reads (Field x) word object = absurd object
object_reads (Resource x) word object = absurd object
object_reads (ThreadWord t) word object = absurd object

pub same_is : (a b : Address) → same_address a b ≡ true → a ≡ b
same_is (Local x) (Local y) e = ap Local (eqb-true x y e)
same_is (Shared x) (Shared y) e = ap Shared (eqb-true x y e)
same_is (Gate x) (Gate y) e = ap Gate (eqb-true x y e)
same_is (KindOf x) (KindOf y) e = ap KindOf (eqb-true x y e)
same_is (Marks t w) (Marks u z) e =
    let one = eqb-true t u (and_first (t == u) (w == z) e) in
    let other = eqb-true w z (and_second (t == u) (w == z) e) in
    ap (λ (y : ℕ). Marks y w) one ∙ ap (Marks u) other
same_is (Cell x i) (Cell y j) e =
    let one = eqb-true x y (and_first (x == y) (i == j) e) in
    let other = eqb-true i j (and_second (x == y) (i == j) e) in
    ap (λ (z : ℕ). Cell z i) one ∙ ap (Cell y) other
same_is (Field x) (Field y) e = ap Field (eqb-true x y e)
same_is (Resource x) (Resource y) e = ap Resource (eqb-true x y e)
same_is (ThreadWord t) (ThreadWord u) e = ap ThreadWord (eqb-true t u e)
same_is _ _ e = absurd cc

-- A thread that has lent nothing lends nothing by a duty on a word of the table.
lends_none : (layout : Layout) (t head : ℕ) (d : Duty) (lent : Option ℕ) (found : ℕ)
    → IsTableWord (address_of layout t head d) → lent ≡ None → lent_by lent d found ≡ None
lends_none layout t head (LendField x) lent found table none = absurd table
lends_none layout t head (ReturnField x) lent found table none = refl
lends_none layout t head _ lent found table none = none

-- Writing a word in the table is writing in the machine what it says.
pub written_reads : (layout : Layout) (words : List ℕ) (memory : Address → ℕ) (a : Address) (left word : ℕ)
    → IsPlainLayout layout → FewFirstRows layout → length words ≡ word_count layout → reading a left ≡ word
    → HasWord layout a
    → ((b : Address) → HasWord layout b → memory b ≡ reading b (slice_index words (place layout b)))
    → (b : Address) → HasWord layout b
    → written memory a word b ≡ reading b (slice_index (set words (place layout a) left) (place layout b))
written_reads layout words memory a left word plain few long says has reads b there =
    elim (cases_Bool (same_address a b)) [
      | inl one ↦
          let here : slice_index (set words (place layout a) left) (place layout a) ≡ left =
          get_or-set_same words (place layout a) left 0 (omega (arith, long, place_within layout a plain few has)) in
          let found : written memory a word b ≡ word = ap (λ (e : Bool). cond e word (memory b)) one in
          let there' : reading b (slice_index (set words (place layout a) left) (place layout b)) ≡ word =
          subst (λ (c : Address). reading c (slice_index (set words (place layout a) left) (place layout c)) ≡ word)
          (same_is a b one) (ap (reading a) here ∙ says) in
          found ∙ sym there'
      | inr other ↦
          let apart : place layout b ≢ place layout a = λ e. place_apart layout a b plain few has there other (sym e) in
          let same : slice_index (set words (place layout a) left) (place layout b)
          ≡ slice_index words (place layout b) =
          get_or-set_other words (place layout a) (place layout b) left 0 apart in
          ap (λ (e : Bool). cond e word (memory b)) other ∙ (reads b there ∙ ap (reading b) (sym same))
    ]

-- ---- the step

-- What is known of a hand that does its first duty.
pub record Does (plan : Plan) (words : List ℕ) (views : List View) (id : ℕ) (v : View) (d : Duty) (rest : List Duty)
    : Type 0 where
  pub stands : Stands plan words views
  pub here : get_elem? views id ≡ some v
  pub agenda : v.actor.agenda ≡ d ∷ rest
  pub alive : v.actor.status ≢ Gone
  pub word : IsTableWord (address_of v.layout v.thread v.actor.head d)

-- the place of the duty's word
abbrev pub place_of : View → Duty → ℕ
place_of v d = place v.layout (address_of v.layout v.thread v.actor.head d)

-- what the duty's word says, if the table has this value there
abbrev pub read_of : View → Duty → ℕ → ℕ
read_of v d word = reading (address_of v.layout v.thread v.actor.head d) word

module _ (kept : DutiesAreKept) (within : DutiesAreWithin) (stay : GuardedCellsStay) (plan : Plan) (words : List ℕ)
    (views : List View) (id : ℕ)
    (v : View) (d : Duty) (rest : List Duty) (does : Does plan words views id v d rest) where
  abbrev m : Machine
  m = does.stands.machine

  abbrev found : ℕ
  found = read_of v d (slice_index words (place_of v d))

  told : v.layout ≡ m.layout
  told = does.stands.same_layout id v does.here

  comes : ComesNext m v.thread v.actor d rest
  comes = record { found = does.stands.same_actor id v does.here; agenda = does.agenda; alive = does.alive }

  pub relies : DutyWithin m v.thread v.actor d
  relies = within does.stands.accounts (1 + m.layout.workers) m v.thread v.actor d rest does.stands.counts comes

  pub has : HasWord m.layout (address_of v.layout v.thread v.actor.head d)
  has =
      table_has m.layout (address_of v.layout v.thread v.actor.head d) does.word
      (subst (λ (l : Layout). IsThere m.layout (address_of l v.thread v.actor.head d))
      (sym told) relies.there)

  -- The machine's step finds what the table's word says.
  pub finds : m.memory (address_of v.layout v.thread v.actor.head d) ≡ found
  finds =
      let at = address_of v.layout v.thread v.actor.head d in
      does.stands.reads at has ∙ ap (λ (l : Layout). reading at (slice_index words (place l at))) (sym told)

  module _ (left : ℕ) (leaves : read_of v d left ≡ new_word v.layout v.thread v.actor.head d found)
      (keeps : KeepsThreads m.layout words (set words (place_of v d) left) v (view_by v (d ∷ rest) found)) where
    stays : LeavesGuarded m v.thread v.actor d rest
    stays = stay does.stands.accounts (1 + m.layout.workers) m v.thread v.actor d rest does.stands.counts comes

    -- The hand begins to guard a list by a step on its gate.
    guarded_before : (x : ℕ) → same_address (address_of m.layout v.thread v.actor.head d) (Gate x) ≡ false
        → m.memory (address_of m.layout v.thread v.actor.head d) ≡ found
        → Guards (machine_by_duty m v.thread v.actor d rest) (view_by v (d ∷ rest) found) x → Guards m v x
    guarded_before x apart seen (inl locked) =
        inl (lock_before m.layout v.thread v.actor.head d x (m.memory (address_of m.layout v.thread v.actor.head d))
        v.actor.locked apart
        (ap (locked_by v.actor.locked d) seen ∙ locked))
    guarded_before x apart seen (inr chained) = inr (stays.own x apart chained)

    changes : Changes plan words views v (view_by v (d ∷ rest) found) does.stands (set words (place_of v d) left)
    changes =
        let old = does.stands in
        let t = v.thread in let a = v.actor in
        let seen : m.memory (address_of m.layout t a.head d) ≡ found =
        subst (λ (l : Layout). m.memory (address_of l t v.actor.head d) ≡ found) told finds in
        let is_step : IsStep m.layout m.memory t v.actor.head d (event_of v d found) = record {
          address = ap (λ (l : Layout). address_of l t v.actor.head d) told;
          left =
              ap (λ (l : Layout). new_word l t v.actor.head d found) told
              ∙ ap (new_word m.layout t v.actor.head d) (sym seen);
        } in
        record {
          accounts = old.accounts;
          machine = machine_by_duty m t a d rest;
          counts = (kept old.accounts (1 + m.layout.workers) m t a d rest old.counts comes).1;
          layout_same = refl;
          length_is = length-set words (place_of v d) left;
          reads = λ b there.
              let at = address_of v.layout t v.actor.head d in
              let after : written m.memory at (new_word v.layout t v.actor.head d found) b
              ≡ reading b (slice_index (set words (place_of v d) left) (place m.layout b)) =
              subst (λ (l : Layout). written m.memory at (new_word v.layout t v.actor.head d found) b
              ≡ reading b (slice_index (set words (place l at) left) (place m.layout b))) (sym told)
              (written_reads m.layout words m.memory at left (new_word v.layout t v.actor.head d found)
              old.plain (few_first old.accounts (1 + m.layout.workers) m old.counts) old.length_is leaves has
              old.reads b there) in
              subst (λ (k : ℕ). written m.memory (address_of m.layout t a.head d) (new_word m.layout t a.head d k) b
              ≡ reading b (slice_index (set words (place_of v d) left) (place m.layout b))) (sym seen)
              (subst (λ (l : Layout). written m.memory (address_of l t v.actor.head d)
              (new_word l t v.actor.head d found) b
              ≡ reading b (slice_index (set words (place_of v d) left) (place m.layout b))) told after);
          actors =
              ap (λ (k : ℕ). set m.actors t (actor_by m.layout t a d rest k)) seen
              ∙ ap (λ (l : Layout). set m.actors t (actor_by l t a d rest found)) (sym told);
          lends_none = lends_none v.layout t v.actor.head d v.actor.lent found does.word
              (old.lends_none id v does.here);
          thread_same = refl;
          told_same = refl;
          given_more = λ u is. is;
          gone_stays = λ gone. absurd (does.alive gone);
          joined_here = old.joined id v does.here;
          holding = λ x counted. old.holding id v x does.here counted;
          others = λ u apart. refl;
          no_variables = old.no_variables;
          kinds_stay = λ x word more is.
              kind_stays m.layout m.memory t v.actor.head d x word relies.overwrites more is;
          cells_stay = λ other x w apart is guards.
              stays.others w.thread w.actor x (old.same_actor other w is) apart guards;
          kinds_here = λ x word more shown.
              kind_here m.layout m.memory t v.actor.head d (event_of v d found) is_step v.trace x word
              relies.overwrites more
              (λ before. old.kinds_seen id x word v does.here more before) shown;
          cells_here = λ x i word guards shown.
              cell_here m.layout m.memory t v.actor.head d (event_of v d found) is_step v.trace x i word (Guards m v x)
              (Guards (machine_by_duty m t a d rest) (view_by v (d ∷ rest) found) x)
              (λ apart now. guarded_before x apart seen now)
              (λ before known. old.cells_seen id x i word v does.here before known) guards shown;
          threads = λ i there.
              threads_kept plan words (set words (place_of v d) left) views i v (view_by v (d ∷ rest) found) old there
              keeps;
        }

    -- The word that the step changes is no field.
    no_field : (a : Address) (word x : ℕ) → IsTableWord a → written m.memory a word (Field x) ≡ m.memory (Field x)
    no_field (Local y) word x table = refl
    no_field (Shared y) word x table = refl
    no_field (Gate y) word x table = refl
    no_field (KindOf y) word x table = refl
    no_field (Marks t w) word x table = refl
    no_field (Cell y i) word x table = refl
    no_field (Field y) word x table = absurd table
    no_field (Resource y) word x table = absurd table
    no_field (ThreadWord t) word x table = refl

    -- The rule holds after the step, which changes no field.
    pub passes_after : Passes plan (set words (place_of v d) left) (set views id (view_by v (d ∷ rest) found)) []
        None m
    unfolding changes
    passes_after =
        passes plan words views id v (view_by v (d ∷ rest) found) does.stands does.here
        (set words (place_of v d) left)
        changes [] None (λ x which.
        let a = v.actor in
        let address = address_of m.layout v.thread a.head d in
        no_field address (new_word m.layout v.thread a.head d (m.memory address)) x
        (subst (λ (l : Layout). IsTableWord (address_of l v.thread v.actor.head d)) told does.word))
