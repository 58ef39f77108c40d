-- The references that cells hold are those that their words name: each of them is in one cell, once.
use Rattle.std.proofs.Common.{◌≡◌, ◌≢◌, ◌⊎◌, ℕ, zero, suc, ◌+◌, ◌<◌, ◌≤◌, Bool, true, false, List, [], ◌∷◌, inl, inr, refl, sym, ap, ◌∙◌, subst, arith}
use Rattle.std.specs.Prelude.{◌==◌, ◌&&◌}
use Rattle.std.proofs.lemmas.Bool.{eq-eqb, ne_eqb, cases_lt}
use Rattle.std.proofs.lemmas.Bool.Decides.{eqb_tells}
use Rattle.brc_word.specs.declared.values.TheConstants.{EMPTY}
use Rattle.brc_model.specs.declared.address.Address.TheVariants.{Cell}
use Rattle.brc_model.specs.Layout.{row_count}
use Rattle.brc_model.specs.declared.layout.Layout.{Layout}
use Rattle.brc_model.specs.AbstractState.{Holder, ByThread, ByCell, Reference, same, same_holder}
use Rattle.brc_model.specs.References.{held, one_if, word_holds, cell_reference}
use Rattle.brc_model.specs.Machine.{Machine, Life, Unborn, Live, Dying, Closed}
use Rattle.brc_model.specs.Accounts.{Accounts}
use Rattle.brc_model.specs.Invariant.{CellFits}
use Rattle.brc_model.specs.Counting.{Counts}
use Rattle.brc_model.specs.CountingLaws.{over_threads, over_cells, is_in_cell, in_cells, CellsHold}
use Rattle.brc_model.proofs.Basics.Bag.{held-cons, held_itself, count_by-cons}
use Rattle.brc_model.proofs.Basics.Blocks.{born_within}

-- ---- sums

pub over_each : (f g : ℕ → ℕ) (n : ℕ) → ((t : ℕ) → f t ≡ g t) → over_threads f n ≡ over_threads g n
over_each f g zero each = refl
over_each f g (suc t) each = omega (arith, over_each f g t each, each t)

pub over_sum : (f g : ℕ → ℕ) (n : ℕ) → over_threads (λ t. f t + g t) n ≡ over_threads f n + over_threads g n
over_sum f g zero = refl
over_sum f g (suc t) = omega (arith, over_sum f g t)

over_zero : (f : ℕ → ℕ) (n : ℕ) → ((t : ℕ) → t < n → f t ≡ 0) → over_threads f n ≡ 0
over_zero f zero none = refl
over_zero f (suc t) none =
    omega (arith, over_zero f t (λ u low. none u (omega (arith, low))), none t (omega arith))

-- Where all numbers but one are 0, the sum is that one.
over_at : (f : ℕ → ℕ) (u n : ℕ) → u < n → ((t : ℕ) → t ≢ u → f t ≡ 0) → over_threads f n ≡ f u
over_at f u zero low none = absurd (omega (arith, low))
over_at f u (suc t) low none = elim (eqb_tells t u) [
  | inl this ↦
      let before = over_zero f t (λ k under. none k (λ e. absurd (omega (arith, e, under, this.1)))) in
      omega (arith, before, ap f this.1)
  | inr apart ↦ omega (arith, over_at f u t (omega (arith, low, apart.1)) none, none t apart.1)
]

cells_each : (f g : ℕ → ℕ → ℕ) (layout : Layout) → ((y i : ℕ) → f y i ≡ g y i)
    → over_cells f layout ≡ over_cells g layout
cells_each f g layout each =
    over_each (λ y. over_threads (f y) layout.cells) (λ y. over_threads (g y) layout.cells) (row_count layout)
    (λ y. over_each (f y) (g y) layout.cells (each y))

cells_sum : (f g : ℕ → ℕ → ℕ) (layout : Layout)
    → over_cells (λ y i. f y i + g y i) layout ≡ over_cells f layout + over_cells g layout
cells_sum f g layout =
    over_each (λ y. over_threads (λ i. f y i + g y i) layout.cells)
    (λ y. over_threads (f y) layout.cells + over_threads (g y) layout.cells) (row_count layout)
    (λ y. over_sum (f y) (g y) layout.cells)
    ∙ over_sum (λ y. over_threads (f y) layout.cells) (λ y. over_threads (g y) layout.cells) (row_count layout)

cells_none : (f : ℕ → ℕ → ℕ) (layout : Layout) → ((y i : ℕ) → f y i ≡ 0) → over_cells f layout ≡ 0
cells_none f layout none =
    over_zero (λ y. over_threads (f y) layout.cells) (row_count layout)
    (λ y low. over_zero (f y) layout.cells (λ i under. none y i))

cells_at : (f : ℕ → ℕ → ℕ) (u j : ℕ) (layout : Layout) → u < row_count layout → j < layout.cells
    → ((y i : ℕ) → y ≢ u → f y i ≡ 0)
    → ((i : ℕ) → i ≢ j → f u i ≡ 0) → over_cells f layout ≡ f u j
cells_at f u j layout low under rest others =
    over_at (λ y. over_threads (f y) layout.cells) u (row_count layout) low
    (λ y ne. over_zero (f y) layout.cells (λ i there. rest y i ne))
    ∙ over_at (f u) j layout.cells under others

-- ---- one reference

-- The cells outside the layout's rows, and past the most that a list has, hold nothing.
abbrev pub HasNoOthers : ℕ → Layout → List Reference → Type 0
HasNoOthers x layout bag = (y i : ℕ) → (row_count layout ≤ y) ⊎ (layout.cells ≤ i) → held (cell_reference y i x) bag ≡ 0

-- how often a reference is the cell's to the object
abbrev is_cells : ℕ → Reference → ℕ → ℕ → ℕ
is_cells x q y i = one_if (same (cell_reference y i x) q)

elsewhere : (b : Bool) (x y : ℕ) → x ≢ y → one_if (b && (x == y)) ≡ 0
elsewhere true x y ne = ap one_if (ne_eqb x y ne)
elsewhere false x y ne = refl

both_apart : (a b c : Bool) → a ≡ false → one_if ((a && b) && c) ≡ 0
both_apart false b c e = refl
both_apart true b c e = absurd cc

other_apart : (a b c : Bool) → b ≡ false → one_if ((a && b) && c) ≡ 0
other_apart true false c e = refl
other_apart false b c e = refl
other_apart true true c e = absurd cc

all_same : (a b c : Bool) → a ≡ true → b ≡ true → c ≡ true → one_if ((a && b) && c) ≡ 1
all_same true true true one two three = refl
all_same false b c one two three = absurd cc
all_same true false c one two three = absurd cc
all_same true true false one two three = absurd cc

-- A reference to the object is in one cell, once, if a cell holds it.
holder_in : (x : ℕ) (layout : Layout) (h : Holder) (bag : List Reference)
    → HasNoOthers x layout (record { holder = h; object = x } ∷ bag)
    → over_cells (is_cells x (record { holder = h; object = x })) layout ≡ one_if (is_in_cell h)
holder_in x layout (ByThread t k) bag none =
    cells_none (is_cells x (record { holder = ByThread t k; object = x })) layout (λ y i. refl)
holder_in x layout (ByCell u j) bag none =
    let here = held_itself (cell_reference u j x) bag in
    let low : u < row_count layout = elim (cases_lt u (row_count layout)) [
      | inl low ↦ low
      | inr past ↦ absurd (omega (arith, here, none u j (inl past)))
    ] in
    let under : j < layout.cells = elim (cases_lt j layout.cells) [
      | inl under ↦ under
      | inr past ↦ absurd (omega (arith, here, none u j (inr past)))
    ] in
    cells_at (is_cells x (cell_reference u j x)) u j layout low under
    (λ y i ne. both_apart (y == u) (i == j) (x == x) (ne_eqb y u ne))
    (λ i ne. other_apart (u == u) (i == j) (x == x) (ne_eqb i j ne))
    ∙ all_same (u == u) (j == j) (x == x) (eq-eqb u u refl) (eq-eqb j j refl) (eq-eqb x x refl)

pub no_object : (b c : Bool) → c ≡ false → one_if (b && c) ≡ 0
no_object true c e = ap one_if e
no_object false c e = refl

pub this_object : (b c : Bool) → c ≡ true → one_if (b && c) ≡ one_if b
this_object true c e = ap one_if e
this_object false c e = refl

reference_in : (x : ℕ) (layout : Layout) (q : Reference) (bag : List Reference) → HasNoOthers x layout (q ∷ bag)
    → over_cells (is_cells x q) layout ≡ one_if (is_in_cell q.holder && (q.object == x))
reference_in x layout q bag none = elim (eqb_tells q.object x) [
  | inl this ↦
      let here : HasNoOthers x layout (record { holder = q.holder; object = x } ∷ bag) =
      subst (λ (y : ℕ). HasNoOthers x layout (record { holder = q.holder; object = y } ∷ bag)) this.1 none in
      subst (λ (y : ℕ). over_cells (is_cells x (record { holder = q.holder; object = y })) layout
      ≡ one_if (is_in_cell q.holder)) (sym this.1) (holder_in x layout q.holder bag here)
      ∙ sym (this_object (is_in_cell q.holder) (q.object == x) this.0)
  | inr apart ↦
      cells_none (is_cells x q) layout
      (λ y i. elsewhere (same_holder (ByCell y i) q.holder) x q.object (λ e. apart.1 (sym e)))
      ∙ sym (no_object (is_in_cell q.holder) (q.object == x) apart.0)
]

-- ---- all references

pub in_cells-cons : (x : ℕ) (q : Reference) (bag : List Reference)
    → in_cells x (q ∷ bag) ≡ one_if (is_in_cell q.holder && (q.object == x)) + in_cells x bag
in_cells-cons x q bag = count_by-cons (λ (r : Reference). is_in_cell r.holder && (r.object == x)) q bag

cells_in : (x : ℕ) (layout : Layout) (bag : List Reference) → HasNoOthers x layout bag
    → in_cells x bag ≡ over_cells (λ y i. held (cell_reference y i x) bag) layout
cells_in x layout [] none = sym (cells_none (λ y i. 0) layout (λ y i. refl))
cells_in x layout (q ∷ bag) none =
    let rest : HasNoOthers x layout bag =
    λ y i past. omega (arith, none y i past, held-cons (cell_reference y i x) q bag) in
    let both =
    cells_each (λ y i. held (cell_reference y i x) (q ∷ bag))
    (λ y i. is_cells x q y i + held (cell_reference y i x) bag) layout
    (λ y i. held-cons (cell_reference y i x) q bag)
    ∙ cells_sum (is_cells x q) (λ y i. held (cell_reference y i x) bag) layout in
    omega (
      arith,
      in_cells-cons x q bag,
      cells_in x layout bag rest,
      reference_in x layout q bag none,
      both,
    )

-- A cell outside the machine's rows is empty, since no row outside was born.
empty_by : (l : Life) (word : ℕ) → l ≡ Unborn → CellFits l word → word ≡ 0
empty_by Unborn word is fits = fits
empty_by _ word is fits = cc

unborn_by : (l : Life) → (l ≡ Unborn) ⊎ (l ≢ Unborn)
unborn_by Unborn = inl refl
unborn_by Live = inr (λ e. absurd cc)
unborn_by (Dying t) = inr (λ e. absurd cc)
unborn_by Closed = inr (λ e. absurd cc)

module _ {p : Accounts} {n : ℕ} {m : Machine} where
  pub no_others : (x : ℕ) → Counts p n m → HasNoOthers x m.layout m.abstract.references
  no_others x counts y i past =
      let core = counts.kept.core in
      let empty : m.memory (Cell y i) ≡ EMPTY = elim past [
        | inl row ↦ elim (unborn_by (m.life y)) [
          | inl unborn ↦ empty_by (m.life y) (m.memory (Cell y i)) unborn (core.cells y i)
          | inr born ↦ absurd (omega (arith, born_within y core born, row))
        ]
        | inr cell ↦ core.cells_end y i (omega (arith, counts.ranges.kinds y, cell))
      ] in
      core.cells_hold y i x ∙ ap (λ (w : ℕ). word_holds w x) empty

pub cells_hold : CellsHold
cells_hold p n m x counts =
    cells_in x m.layout m.abstract.references (no_others x counts)
    ∙ cells_each (λ y i. held (cell_reference y i x) m.abstract.references)
    (λ y i. word_holds (m.memory (Cell y i)) x) m.layout (λ y i. counts.kept.core.cells_hold y i x)
