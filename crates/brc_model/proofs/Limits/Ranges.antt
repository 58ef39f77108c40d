-- The rows and cells that threads' duties and chains name exist, before and after each step.
use Rattle.std.proofs.Common.{◌≡◌, ℕ, zero, suc, ◌+◌, ◌<◌, ◌≤◌, true, false, cond, List, [], ◌∷◌, ◌++◌, Some, refl, sym, ap, ◌∙◌, subst, arith, ◌-◌, inl, inr}
use Rattle.std.specs.Prelude.{◌==◌, slice_get, count_by}
use Rattle.std.proofs.lemmas.Bool.{eq-eqb, eqb-true}
use Rattle.std.proofs.lemmas.List.Sums.{sum_by-cons}
use Rattle.brc_word.specs.Words.{marks_of_word, mark_at}
use Rattle.brc_model.specs.AbstractState.{references_to}
use Rattle.brc_model.specs.declared.duty.Holding.TheVariants.{InFlight}
use Rattle.brc_model.specs.declared.duty.Reason.TheVariants.{Handed}
use Rattle.brc_model.specs.declared.duty.Duty.{Duty}
use Rattle.brc_model.specs.declared.duty.Duty.TheVariants.{ReleaseLoad, MergeSwap, Settle, SettleKind, SettleCell, Leave, Scan, TakeFound, Finish, BirthKind, KindLoad, CellLoad, CellSwap}
use Rattle.brc_model.specs.declared.address.Address.TheVariants.{KindOf, Cell}
use Rattle.brc_model.specs.Duties.{found_row, address_of, new_word, continuation, ready, cells_of}
use Rattle.brc_model.specs.declared.actor.Actor.{Actor}
use Rattle.brc_model.specs.Machine.{Life, Unborn, Live, Machine, written, is_running, actor_by, machine_by_duty, mark_of}
use Rattle.brc_model.specs.References.{one_if, cell_reference}
use Rattle.brc_model.specs.RowInvariant.{RowInvariant}
use Rattle.brc_model.specs.Accounts.{Accounts}
use Rattle.brc_model.specs.Invariant.{numbers_of, CoreInvariant}
use Rattle.brc_model.specs.OpenWork.{Linked, dies_by, is_about}
use Rattle.brc_model.specs.Ranges.{cells_named, IsSmall, AreSmall, Ranges}
use Rattle.brc_model.proofs.Basics.Continuation.{Traits, cells_by, Origin, Continuation, Ends, Finishes, GoesOn, Frees, FreesOld, SettlesRow, Claims, ClaimsNone, Exits, Scans, Takes, TakesNone, continues}
use Rattle.brc_model.proofs.Basics.Bag.{held-le-references_to}
use Rattle.brc_model.proofs.Basics.Written.{written_load}
use Rattle.brc_model.proofs.Frame.CellsHeld.{cell_held}
use Rattle.brc_model.proofs.Basics.Lists.{written_actor}
use Rattle.brc_model.proofs.Basics.Blocks.{born_within}
use Rattle.brc_model.proofs.Stepping.Exits.{marked_born}
use Rattle.brc_model.specs.declared.layout.Layout.{Layout}
use Rattle.std.proofs.lemmas.Bool.{cases_Bool}
use Rattle.brc_word.specs.declared.values.TheConstants.{SET}
use Rattle.brc_model.specs.Layout.{row_count, block_of, mark_bit, is_immortal_row}

-- ---- duties

pub row_small : (layout : Layout) (x : ℕ) (d : Duty) → x < row_count layout
    → ((y : ℕ) → is_about y d ≡ (x == y)) → cells_named d ≤ layout.cells → IsSmall layout d
row_small layout x d low about few = record {
  row = λ y e. subst (λ (z : ℕ). z < row_count layout) (eqb-true x y (sym (about y) ∙ e)) low;
  cells = few;
}

-- What the step must find so that the duties that follow are small.
abbrev pub FindsSmall : Layout → ℕ → ℕ → Duty → ℕ → Type 0
FindsSmall layout t head Settle found = head - 1 < row_count layout
FindsSmall layout t head (SettleKind x) found = cells_of found ≤ layout.cells
FindsSmall layout t head (SettleCell x i n) found = (y : ℕ) → found ≡ suc y → y < row_count layout
FindsSmall layout t head (CellSwap x i y h) found = (z : ℕ) → found ≡ suc z → z < row_count layout
FindsSmall layout t head (TakeFound w marks) found =
    mark_at found (mark_bit layout (found_row layout t w marks)) ≡ 1 → found_row layout t w marks < row_count layout
FindsSmall layout t head _ found = Unit {0}

-- ---- the duties that follow a step

both_small : (layout : Layout) (l r : List Duty) → AreSmall layout l → AreSmall layout r → AreSmall layout (l ++ r)
both_small layout [] r first second = second
both_small layout (d ∷ l) r first second = (first.0, both_small layout l r first.1 second)

-- Settling and exits are about no row.
pub settle_small : (layout : Layout) → IsSmall layout Settle
settle_small layout = record { row = λ x e. absurd cc; cells = omega arith }

pub leave_small : (layout : Layout) (i n : ℕ) → IsSmall layout (Leave i n)
leave_small layout i n = record { row = λ x e. absurd cc; cells = omega arith }

scan_small : (layout : Layout) (w n : ℕ) → IsSmall layout (Scan w n)
scan_small layout w n = record { row = λ x e. absurd cc; cells = omega arith }

take_small : (layout : Layout) (w marks : ℕ) → IsSmall layout (TakeFound w marks)
take_small layout w marks = record { row = λ x e. absurd cc; cells = omega arith }

finish_small : (layout : Layout) → IsSmall layout Finish
finish_small layout = record { row = λ x e. absurd cc; cells = omega arith }

-- The cells that are emptied are those that the kind word says.
cells_small : (layout : Layout) (t head : ℕ) (d : Duty) (found : ℕ) → IsSmall layout d
    → FindsSmall layout t head d found → cells_by d found ≤ layout.cells
cells_small layout t head (SettleKind x) found small finds = finds
cells_small layout t head (SettleCell x i n) found small finds = small.cells
cells_small layout t head _ found small finds = omega arith

origin_small : (layout : Layout) (d : Duty) (found : ℕ) (e : Duty) → Origin d found e → cells_by d found ≤ layout.cells
    → cells_named e ≤ layout.cells
origin_small layout d found (SettleCell x i n) origin few = omega (arith, origin, few)
origin_small layout d found (BirthKind x h w) origin few = absurd origin
origin_small layout d found (CellLoad x i) origin few = absurd origin
origin_small layout d found (CellSwap x i y h) origin few = absurd origin
origin_small layout d found _ origin few = omega arith

next_small : (layout : Layout) {t head found : ℕ} (d : Duty) (next : List Duty)
    → Continuation layout t head found d next → IsSmall layout d → FindsSmall layout t head d found
    → AreSmall layout next
next_small layout d next (Ends inner) small finds = tt
next_small layout d next Finishes small finds = tt
next_small layout {t = t} {head = head} {found = found} d next (GoesOn e leads) small finds = (
  record {
    row = λ x about. small.row x (ap (λ (s : Traits). s.about x) (sym leads.same) ∙ about);
    cells = origin_small layout d found e leads.origin (cells_small layout t head d found small finds);
  },
  tt,
)
next_small layout {t = t} {head = head} {found = found} d next (Frees x i n y e some leads) small finds = (
  row_small layout y (ReleaseLoad y InFlight) (finds y some) (λ z. refl) (omega arith),
  (
    record {
      row = λ z about. small.row z (ap (λ (s : Traits). s.about z) (sym leads.same) ∙ about);
      cells = origin_small layout d found e leads.origin (cells_small layout t head d found small finds);
    },
    tt,
  ),
)
next_small layout d next (FreesOld x i y z h some) small finds =
    (row_small layout z (ReleaseLoad z InFlight) (finds z some) (λ v. refl) (omega arith), tt)
next_small layout {head = head} d next SettlesRow small finds =
    (row_small layout (head - 1) (SettleKind (head - 1)) finds (λ y. refl) (omega arith), (settle_small layout, tt))
next_small layout d next (Claims x set) small finds =
    (record { row = small.row; cells = omega arith }, (settle_small layout, tt))
next_small layout d next (ClaimsNone x) small finds = (settle_small layout, tt)
next_small layout d next (Exits i n) small finds = (scan_small layout i n, (finish_small layout, tt))
next_small layout d next (Scans w n) small finds =
    (take_small layout w _, (scan_small layout (w + 1) (n - marks_of_word), tt))
next_small layout {t = t} d next (Takes w marks set) small finds = (
  row_small layout (found_row layout t w marks) (MergeSwap (found_row layout t w marks) Handed) (finds set) (λ y. refl)
      (omega arith),
  (settle_small layout, (take_small layout w _, tt)),
)
next_small layout d next (TakesNone w marks) small finds = (settle_small layout, (take_small layout w _, tt))

ready_step : (layout : Layout) (head : ℕ) (d : Duty) (rest : List Duty) → AreSmall layout (d ∷ rest)
    → AreSmall layout (ready head rest) → AreSmall layout (ready head (d ∷ rest))
ready_step layout zero Settle rest small later = later
ready_step layout (suc head) Settle rest small later = small
ready_step layout zero (Scan x zero) rest small later = later
ready_step layout zero (Scan x (suc n)) rest small later = small
ready_step layout (suc head) (Scan x zero) rest small later = later
ready_step layout (suc head) (Scan x (suc n)) rest small later = small
ready_step layout zero (TakeFound x zero) rest small later = later
ready_step layout zero (TakeFound x (suc n)) rest small later = small
ready_step layout (suc head) (TakeFound x zero) rest small later = later
ready_step layout (suc head) (TakeFound x (suc n)) rest small later = small
ready_step layout zero _ rest small later = small
ready_step layout (suc head) _ rest small later = small

ready_small : (layout : Layout) (head : ℕ) (agenda : List Duty) → AreSmall layout agenda
    → AreSmall layout (ready head agenda)
ready_small layout head [] small = tt
ready_small layout head (d ∷ rest) small = ready_step layout head d rest small (ready_small layout head rest small.1)

-- ---- rows

module _ {p : Accounts} {n : ℕ} {m : Machine} where
  pub referenced_small : (x : ℕ) → CoreInvariant p n m → 0 < references_to x m.abstract.references
      → x < row_count m.layout
  referenced_small x core some = born_within x core (λ unborn.
      elim (cases_Bool (is_immortal_row m.layout x)) [
        | inl immortal ↦ let wrong : Live ≡ Unborn = sym (core.immortals_live x immortal) ∙ unborn in cc
        | inr counted ↦
            let row =
            subst (λ (l : Life). RowInvariant (block_of m.layout x) l (numbers_of m x)) unborn (core.rows x counted) in
            absurd (omega (arith, row.references, some))
      ])

  pub marked_small : (x : ℕ) → CoreInvariant p n m → mark_of m.layout m.memory x ≡ SET → x < row_count m.layout
  marked_small x core set = born_within x core (marked_born x core set)

  -- The head of a chain is at most the number of all rows.
  pub head_small : (t : ℕ) (a : Actor) → CoreInvariant p n m → slice_get m.actors t ≡ Some a
      → a.head ≤ row_count m.layout
  head_small t a core found =
      let chain = (core.each t a found).0.chain in
      elim chain.chained as (λ l. chain.chained ≡ l → Linked m.memory t a.head l → a.head ≤ row_count m.layout) [
        | [] ↦ λ e linked. omega (arith, linked)
        | x ∷ xs ↦ λ e linked.
            let here : one_if (x == x) ≡ 1 = ap one_if (eq-eqb x x refl) in
            let count : count_by (λ y. y == x) chain.chained ≡ one_if (x == x) + count_by (λ y. y == x) xs =
            ap (count_by (λ y. y == x)) e ∙ sum_by-cons (λ (y : ℕ). cond (y == x) 1 0) x xs in
            let born : m.life x ≡ Unborn → ⊥ = λ unborn.
            let none : one_if (dies_by (m.life x) t) ≡ 0 = ap (λ (l : Life). one_if (dies_by l t)) unborn in
            absurd (omega (arith, chain.once x, here, count, none)) in
            omega (arith, linked.0, born_within x core born)
      ] refl chain.linked

  -- A cell names a row that there is.
  pub cell_small : (x i y : ℕ) → CoreInvariant p n m → m.memory (Cell x i) ≡ suc y → y < row_count m.layout
  cell_small x i y core is =
      let r = cell_reference x i y in
      referenced_small y core (omega (arith, cell_held x i y core is, held-le-references_to r m.abstract.references))

  -- ---- machines

  finds_small : (t : ℕ) (a : Actor) (d : Duty) → CoreInvariant p n m → Ranges n m → a.head ≤ row_count m.layout
      → FindsSmall m.layout t a.head d (m.memory (address_of m.layout t a.head d))
  finds_small t a Settle core ranges head = omega (arith, head)
  finds_small t a (SettleKind x) core ranges head = ranges.kinds x
  finds_small t a (SettleCell x i k) core ranges head = λ y is. cell_small x i y core is
  finds_small t a (CellSwap x i y h) core ranges head = λ z is. cell_small x i z core is
  finds_small t a (TakeFound w marks) core ranges head = λ set. marked_small (found_row m.layout t w marks) core set
  finds_small t a _ core ranges head = tt

-- No step makes a kind word of more cells than the layout has.
kinds_left : (m : Machine) (t : ℕ) (a : Actor) (d : Duty) (x : ℕ) → IsSmall m.layout d
    → cells_of (m.memory (KindOf x)) ≤ m.layout.cells
    → cells_of (written m.memory (address_of m.layout t a.head d)
    (new_word m.layout t a.head d (m.memory (address_of m.layout t a.head d))) (KindOf x)) ≤ m.layout.cells
kinds_left m t a (SettleKind y) x small was =
    subst (λ (w : ℕ). cells_of w ≤ m.layout.cells) (sym (written_load m.memory (KindOf y) (KindOf x))) was
kinds_left m t a (KindLoad y) x small was =
    subst (λ (w : ℕ). cells_of w ≤ m.layout.cells) (sym (written_load m.memory (KindOf y) (KindOf x))) was
kinds_left m t a (BirthKind y h w) x small was =
    elim (y == x) as (λ b. cells_of (cond b w (m.memory (KindOf x))) ≤ m.layout.cells) [
      | true ↦ small.cells
      | false ↦ was
    ]
kinds_left m t a _ x small was = was

module _ {p : Accounts} {n : ℕ} {m : Machine} where
  -- Doing a small duty keeps the ranges. `b` is the thread as the machine has it, and `a` the thread that has taken the
  -- duty up.
  pub duty_ranges : (t : ℕ) (b a : Actor) (d : Duty) (rest : List Duty) → CoreInvariant p n m → Ranges n m
      → slice_get m.actors t ≡ Some b → a.head ≤ row_count m.layout → AreSmall m.layout (d ∷ rest)
      → AreSmall m.layout a.aside → Ranges n (machine_by_duty m t a d rest)
  duty_ranges t b a d rest core ranges found head small waiting =
      let word = m.memory (address_of m.layout t a.head d) in
      let next =
      next_small m.layout d (continuation m.layout t (is_running a.status) a.head d word)
      (continues m.layout t (is_running a.status) a.head d word) small.0 (finds_small t a d core ranges head) in
      record {
        kinds = λ x. kinds_left m t a d x small.0 (ranges.kinds x);
        each = written_actor (λ u c. AreSmall m.layout c.agenda) m.actors t b
            (actor_by m.layout t a d rest word) found
            (ready_small m.layout _ (continuation m.layout t (is_running a.status) a.head d word ++ rest)
            (both_small m.layout (continuation m.layout t (is_running a.status) a.head d word) rest next
            small.1)) ranges.each;
        aside = written_actor (λ u c. AreSmall m.layout c.aside) m.actors t b
            (actor_by m.layout t a d rest word) found waiting ranges.aside;
      }
