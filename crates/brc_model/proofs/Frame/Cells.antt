-- The cells of lists. A step that empties a cell takes out the reference that it finds there. A step that swaps a cell
-- does so too, and puts a reference of the thread in. No other step changes a cell.
use Rattle.std.proofs.Common.{◌≡◌, ℕ, zero, suc, ◌+◌, ◌<◌, ◌≤◌, Bool, true, false, cond, List, ◌++◌, inl, inr, refl, sym, ap, ◌∙◌, subst, arith}
use Rattle.std.specs.Prelude.{◌==◌, ◌&&◌}
use Rattle.std.proofs.lemmas.Bool.{eq-eqb, eqb-true, ne_eqb, cases_lt}
use Rattle.std.proofs.lemmas.Bool.Decides.{eqb_tells}
use Rattle.brc_word.specs.declared.values.TheConstants.{EMPTY}
use Rattle.brc_model.specs.declared.duty.Holding.{Holding}
use Rattle.brc_model.specs.declared.duty.Holding.TheVariants.{InFlight}
use Rattle.brc_model.specs.AbstractState.{AbstractState, without, moved, references_to, same}
use Rattle.brc_model.specs.declared.duty.Duty.{Duty}
use Rattle.brc_model.specs.declared.duty.Duty.TheVariants.{SettleCell, CellLoad, CellSwap}
use Rattle.brc_model.specs.declared.address.Address.{Address}
use Rattle.brc_model.specs.declared.address.Address.TheVariants.{KindOf, Cell}
use Rattle.brc_model.specs.Duties.{address_of, new_word, cells_of}
use Rattle.brc_model.specs.declared.actor.Actor.{Actor}
use Rattle.brc_model.specs.Machine.{Live, Machine, written}
use Rattle.brc_model.specs.Moves.{reference_effects, take_out, put_in}
use Rattle.brc_model.specs.References.{held, one_if, reference_of, word_holds, cell_reference}
use Rattle.brc_model.specs.Accounts.{Accounts}
use Rattle.brc_model.specs.Knowledge.{IsEmptyBut, IsEmpty}
use Rattle.brc_model.specs.Invariant.{AtDuty}
use Rattle.brc_model.proofs.Basics.Bag.{same_holding-refl, held-cons, held-without, held_has, references_to-cons, references_to-without}
use Rattle.brc_model.proofs.Basics.MovesApart.{held-without_apart, moves_off_cell}
use Rattle.brc_model.proofs.Basics.Lists.{and_first, and_second}
use Rattle.brc_model.proofs.Basics.Written.{zero_written, written_here, written_load}
use Rattle.brc_model.proofs.Frame.Leaves.{head_of, gives_held, locked_lives}

-- ---- words

-- the memory after a step
abbrev memory_after : Machine → ℕ → Actor → Duty → Address → ℕ
memory_after m t a d =
    written m.memory (address_of m.layout t a.head d) (new_word m.layout t a.head d (m.memory
    (address_of m.layout t a.head d)))

-- Says whether the duty stores a reference in the row's cell.
abbrev pub fills_cell : ℕ → ℕ → Duty → Bool
fills_cell x i (CellSwap y j z h) = (y == x) && (j == i)
fills_cell x i _ = false

-- A cell that is empty stays empty, unless the step fills it.
pub still_empty : (m : Machine) (t : ℕ) (a : Actor) (d : Duty) (x i : ℕ) → fills_cell x i d ≡ false
    → m.memory (Cell x i) ≡ EMPTY → memory_after m t a d (Cell x i) ≡ EMPTY
still_empty m t a (SettleCell y j k) x i off empty = zero_written ((y == x) && (j == i)) (m.memory (Cell x i)) empty
still_empty m t a (CellSwap y j z h) x i off empty =
    ap (λ (b : Bool). cond b (z + 1) (m.memory (Cell x i))) off ∙ empty
still_empty m t a (CellLoad y j) x i off empty = written_load m.memory (Cell y j) (Cell x i) ∙ empty
still_empty m t a _ x i off empty = empty

-- One cell more is empty after it is emptied.
pub one_emptied : (memory : Address → ℕ) (x i n : ℕ) → IsEmptyBut memory x i n
    → IsEmptyBut (written memory (Cell x i) 0) x (i + 1) n
one_emptied memory x i n empty j out =
    elim (eqb_tells i j) [
      | inl this ↦
          subst (λ (k : ℕ). written memory (Cell x i) 0 (Cell x k) ≡ 0) this.1 (written_here memory (Cell x i) 0)
      | inr other ↦
          zero_written ((x == x) && (i == j)) (memory (Cell x j)) (empty j (elim out [
            | inl low ↦ inl (omega (arith, low, other.1))
            | inr high ↦ inr high
          ]))
    ]

-- All cells are empty once none is left to be emptied.
pub all_emptied : (memory : Address → ℕ) (x i n : ℕ) → n ≤ i → IsEmptyBut memory x i n → IsEmpty memory x
all_emptied memory x i n done empty j =
    elim (cases_lt j i) [
      | inl low ↦ empty j (inl low)
      | inr high ↦ empty j (inr (omega (arith, done, high)))
    ]

-- ---- the cells that a step may fill

-- The cells are different if a fact contradicts that they are the same.
not_filled : (x i y j : ℕ) → (y ≡ x → j ≡ i → ⊥) → ((y == x) && (j == i)) ≡ false
not_filled x i y j none =
    elim ((y == x) && (j == i)) as (λ b. ((y == x) && (j == i)) ≡ b → b ≡ false) [
      | true ↦ λ e.
          absurd (none (eqb-true y x (and_first (y == x) (j == i) e)) (eqb-true j i (and_second (y == x) (j == i) e)))
      | false ↦ λ e. refl
    ] refl

module _ {p : Accounts} {n : ℕ} {m : Machine} {t : ℕ} {a : Actor} {rest : List Duty} where
  -- A step fills no cell but a live list's: the list that the thread has locked.
  pub dead_unfilled : (d : Duty) (x i : ℕ) → AtDuty p n m t a d rest → (m.life x ≡ Live → ⊥) → fills_cell x i d ≡ false
  dead_unfilled (CellSwap y j z h) x i here dead =
      let locked = (head_of here).0 in
      not_filled x i y j (λ lists cells.
      dead (ap m.life (sym lists) ∙ (locked_lives t a y here.core here.found locked)))
  dead_unfilled _ x i here dead = refl

  -- It fills no cell past the list's number of cells.
  pub past_unfilled : (d : Duty) (x i : ℕ) → AtDuty p n m t a d rest → cells_of (m.memory (KindOf x)) ≤ i
      → fills_cell x i d ≡ false
  past_unfilled (CellSwap y j z h) x i here past =
      let low = (head_of here).1 in
      not_filled x i y j (λ lists cells.
      let same : cells_of (m.memory (KindOf y)) ≡ cells_of (m.memory (KindOf x)) =
      ap (λ (w : ℕ). cells_of (m.memory (KindOf w))) lists in
      absurd (omega (arith, low, past, same, cells)))
  past_unfilled _ x i here past = refl

module _ {p : Accounts} {n : ℕ} {m : Machine} {t : ℕ} {a : Actor} {d : Duty} {rest : List Duty} where
  -- So an empty cell of a row that isn't live stays empty.
  pub stays_empty : (x i : ℕ) → AtDuty p n m t a d rest → (m.life x ≡ Live → ⊥) → m.memory (Cell x i) ≡ EMPTY
      → memory_after m t a d (Cell x i) ≡ EMPTY
  stays_empty x i here dead empty = still_empty m t a d x i (dead_unfilled d x i here dead) empty

-- ---- references

-- An object whose reference goes from a cell to the thread has as many references as before.
pub taken_references : (p : AbstractState) (t x i w z : ℕ)
    → ((y : ℕ) → w ≡ suc y → 0 < held (cell_reference x i y) p.references)
    → references_to z (moved p (take_out t x i w)).references ≡ references_to z p.references
taken_references p t x i zero z has = refl
taken_references p t x i (suc y) z has =
    let r = cell_reference x i y in
    omega (
      arith,
      references_to-cons z (reference_of t InFlight y) (without r p.references),
      references_to-without z r p.references (held_has r p.references (has y refl)),
    )

module _ {p : Accounts} {n : ℕ} {m : Machine} {t : ℕ} {a : Actor} {rest : List Duty} where
  -- The bag has the reference that goes into a cell.
  pub stolen_held : (x i y : ℕ) (h : Holding) → AtDuty p n m t a (CellSwap x i y h) rest
      → 0 < held (reference_of t h y) m.abstract.references
  stolen_held x i y h here = gives_held h y here (rw (same_holding-refl h, eq-eqb y y refl) refl) refl

-- the abstract state after a reference of the thread goes into a cell
abbrev pub filled : AbstractState → ℕ → Holding → ℕ → ℕ → ℕ → AbstractState
filled p t h y x i = moved p (put_in t h y x i)

pub filled_held : (p : AbstractState) (t y x i : ℕ) (h : Holding) (z j object : ℕ)
    → held (cell_reference z j object) (filled p t h y x i).references
    ≡ one_if (same (cell_reference z j object) (cell_reference x i y)) + held (cell_reference z j object) p.references
filled_held p t y x i h z j object =
    let c = cell_reference z j object in
    let r = reference_of t h y in
    omega (
      arith,
      held-cons c (cell_reference x i y) (without r p.references),
      held-without_apart c r p.references refl,
    )

-- So it has after a swap: one reference goes into the cell, and the other out of it.
pub swapped_references : (p : AbstractState) (t y x i w z : ℕ) (h : Holding)
    → 0 < held (reference_of t h y) p.references
    → ((v : ℕ) → w ≡ suc v → 0 < held (cell_reference x i v) p.references)
    → references_to z (moved p (put_in t h y x i ++ take_out t x i w)).references ≡ references_to z p.references
swapped_references p t y x i w z h some has =
    let r = reference_of t h y in
    omega (
      arith,
      taken_references (filled p t h y x i) t x i w z (λ v is. omega (arith, has v is, filled_held p t y x i h x i v)),
      references_to-cons z (cell_reference x i y) (without r p.references),
      references_to-without z r p.references (held_has r p.references some),
    )

-- ---- the cells after a step

flip_eqb : (x y : ℕ) → (x == y) ≡ (y == x)
flip_eqb x y =
    elim (eqb_tells y x) [
      | inl this ↦ eq-eqb x y (sym this.1) ∙ sym this.0
      | inr other ↦ ne_eqb x y (λ e. other.1 (sym e)) ∙ sym other.0
    ]

pub same_cell : (x i object y : ℕ)
    → one_if (same (cell_reference x i object) (cell_reference x i y)) ≡ one_if (y == object)
same_cell x i object y =
    ap (λ (b : Bool). one_if ((b && (i == i)) && (object == y))) (eq-eqb x x refl)
    ∙ ap (λ (b : Bool). one_if (b && (object == y))) (eq-eqb i i refl) ∙ ap one_if (flip_eqb object y)

-- What a cell's word said is taken out.
taken_holds : (p : AbstractState) (t x i w object : ℕ)
    → ((y : ℕ) → w ≡ suc y → 0 < held (cell_reference x i y) p.references)
    → held (cell_reference x i object) (moved p (take_out t x i w)).references + word_holds w object
    ≡ held (cell_reference x i object) p.references
taken_holds p t x i zero object has = omega arith
taken_holds p t x i (suc y) object has =
    let q = cell_reference x i y in
    let r = cell_reference x i object in
    omega (
      arith,
      held-cons r (reference_of t InFlight y) (without q p.references),
      held-without r q p.references (held_has q p.references (has y refl)),
      same_cell x i object y,
    )

-- The bag has the reference that a cell's word names.
named_held : (p : AbstractState) (x i w : ℕ)
    → ((y : ℕ) → held (cell_reference x i y) p.references ≡ word_holds w y)
    → (y : ℕ) → w ≡ suc y → 0 < held (cell_reference x i y) p.references
named_held p x i w holds y is =
    let one : word_holds w y ≡ 1 = ap (λ (v : ℕ). word_holds v y) is ∙ ap one_if (eq-eqb y y refl) in
    omega (arith, holds y, one)

-- A cell that a step empties holds nothing afterwards.
emptied_holds : (p : AbstractState) (t x i w object : ℕ)
    → ((y : ℕ) → held (cell_reference x i y) p.references ≡ word_holds w y)
    → held (cell_reference x i object) (moved p (take_out t x i w)).references ≡ 0
emptied_holds p t x i w object holds =
    omega (arith, taken_holds p t x i w object (named_held p x i w holds), holds object)

-- A cell that a step swaps holds what the thread had.
swapped_holds : (p : AbstractState) (t y x i w object : ℕ) (h : Holding)
    → ((v : ℕ) → held (cell_reference x i v) p.references ≡ word_holds w v)
    → held (cell_reference x i object) (moved p (put_in t h y x i ++ take_out t x i w)).references
    ≡ word_holds (y + 1) object
swapped_holds p t y x i w object h holds =
    let next : y + 1 ≡ suc y = omega arith in
    let now : word_holds (y + 1) object ≡ one_if (y == object) = ap (λ (v : ℕ). word_holds v object) next in
    omega (
      arith,
      taken_holds (filled p t h y x i) t x i w object
          (λ v is. omega (arith, named_held p x i w holds v is, filled_held p t y x i h x i v)),
      filled_held p t y x i h x i object,
      same_cell x i object y,
      holds object,
      now,
    )

module _ (p : Accounts) (n : ℕ) (m : Machine) (t : ℕ) (a : Actor) where
  -- The bag has what the cell held after the step of the duty.
  abbrev held_after : Duty → ℕ → ℕ → ℕ → ℕ
  held_after d x i object =
      held (cell_reference x i object) (moved m.abstract (reference_effects m.memory t d
      (m.memory (address_of m.layout t a.head d)))).references

  -- A cell's word still says what the cell holds.
  pub cells_hold_after : (d : Duty) (rest : List Duty) (x i object : ℕ) → AtDuty p n m t a d rest
      → held_after d x i object ≡ word_holds (memory_after m t a d (Cell x i)) object
  cells_hold_after (SettleCell y j k) rest x i object here =
      elim ((y == x) && (j == i)) as (λ b. ((y == x) && (j == i)) ≡ b
      → held_after (SettleCell y j k) x i object ≡ word_holds (cond b 0 (m.memory (Cell x i))) object) [
        | true ↦ λ e.
            let lists : y ≡ x = eqb-true y x (and_first (y == x) (j == i) e) in
            let cells : j ≡ i = eqb-true j i (and_second (y == x) (j == i) e) in
            subst (λ (z : ℕ). held_after (SettleCell y j k) z i object ≡ 0) lists
            (subst (λ (z : ℕ). held_after (SettleCell y j k) y z object ≡ 0) cells
            (emptied_holds m.abstract t y j (m.memory (Cell y j)) object (λ z. here.core.cells_hold y j z)))
        | false ↦ λ e.
            moves_off_cell m.memory m.abstract x i object t (SettleCell y j k) (m.memory (Cell y j)) e
            ∙ here.core.cells_hold x i object
      ] refl
  cells_hold_after (CellSwap y j z h) rest x i object here =
      let d : Duty = CellSwap y j z h in
      elim ((y == x) && (j == i)) as (λ b. ((y == x) && (j == i)) ≡ b
      → held_after d x i object ≡ word_holds (cond b (z + 1) (m.memory (Cell x i))) object) [
        | true ↦ λ e.
            let lists : y ≡ x = eqb-true y x (and_first (y == x) (j == i) e) in
            let cells : j ≡ i = eqb-true j i (and_second (y == x) (j == i) e) in
            subst (λ (v : ℕ). held_after d v i object ≡ word_holds (z + 1) object) lists
            (subst (λ (v : ℕ). held_after d y v object ≡ word_holds (z + 1) object) cells
            (swapped_holds m.abstract t z y j (m.memory (Cell y j)) object h (λ v. here.core.cells_hold y j v)))
        | false ↦ λ e.
            moves_off_cell m.memory m.abstract x i object t d (m.memory (Cell y j)) e
            ∙ here.core.cells_hold x i object
      ] refl
  cells_hold_after (CellLoad y j) rest x i object here =
      here.core.cells_hold x i object
      ∙ ap (λ (w : ℕ). word_holds w object) (sym (written_load m.memory (Cell y j) (Cell x i)))
  cells_hold_after d rest x i object here =
      moves_off_cell m.memory m.abstract x i object t d (m.memory (address_of m.layout t a.head d)) refl
      ∙ here.core.cells_hold x i object
