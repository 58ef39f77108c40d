-- After each step too, the cells of rows without an object are empty, and so are those past an object's number of
-- cells.
use Rattle.std.proofs.Common.{◌≡◌, ℕ, ◌≤◌, List, inl, inr, Some, refl, sym, ◌∙◌, subst, arith}
use Rattle.brc_word.specs.declared.values.TheConstants.{EMPTY}
use Rattle.brc_model.specs.declared.duty.Duty.{Duty}
use Rattle.brc_model.specs.declared.duty.Duty.TheVariants.{SettleEnd}
use Rattle.brc_model.specs.declared.address.Address.TheVariants.{KindOf, Cell}
use Rattle.brc_model.specs.Duties.{cells_of}
use Rattle.brc_model.specs.declared.actor.Actor.{Actor}
use Rattle.brc_model.specs.Machine.{Life, Unborn, Live, Dying, Closed, Machine, ended_row, machine_by_duty}
use Rattle.brc_model.specs.Accounts.{Accounts}
use Rattle.brc_model.specs.Invariant.{AtDuty, CellFits}
use Rattle.brc_model.proofs.Basics.Lists.{some_is, none_some}
use Rattle.brc_model.proofs.Frame.Cells.{still_empty, past_unfilled, stays_empty}
use Rattle.brc_model.proofs.Frame.Leaves.{head_of}
use Rattle.brc_model.proofs.Objects.Closing.{GoesOn, BeginsToDie, IsClosed, IsBorn, life_step}
use Rattle.brc_model.proofs.Frame.Kinds.{stored_at_duty}
use Rattle.brc_model.proofs.Stepping.FitsAfter.{memory_by}

-- ---- rows without an object

module _ {p : Accounts} {n : ℕ} {m : Machine} {t : ℕ} {a : Actor} {d : Duty} {rest : List Duty} where
  -- The cell still fits a row whose life doesn't change.
  cell_goes_on : (x i : ℕ) (l : Life) → AtDuty p n m t a d rest → m.life x ≡ l → CellFits l (m.memory (Cell x i))
      → CellFits l (memory_by m t a d (Cell x i))
  cell_goes_on x i Unborn here is fits =
      stays_empty x i here (λ live. let wrong : Unborn ≡ Live = sym is ∙ live in cc) fits
  cell_goes_on x i Live here is fits = tt
  cell_goes_on x i (Dying u) here is fits = tt
  cell_goes_on x i Closed here is fits =
      stays_empty x i here (λ live. let wrong : Closed ≡ Live = sym is ∙ live in cc) fits

module _ {p : Accounts} {n : ℕ} {m : Machine} {t : ℕ} {a : Actor} {rest : List Duty} where
  -- The cells of a row are empty when it is closed.
  ended_cell : (d : Duty) (x i : ℕ) → AtDuty p n m t a d rest → ended_row d ≡ Some x → m.memory (Cell x i) ≡ EMPTY
  ended_cell (SettleEnd y) x i here ended =
      subst (λ (z : ℕ). m.memory (Cell z i) ≡ EMPTY) (some_is y x ended) ((head_of here).3 i)
  ended_cell _ x i here ended = absurd (none_some x ended)

module _ {p : Accounts} {n : ℕ} {m : Machine} {t : ℕ} {a : Actor} {d : Duty} {rest : List Duty} where
  -- After a thread's step each cell fits its row's life.
  pub cells_after : AtDuty p n m t a d rest → (x i : ℕ)
      → CellFits ((machine_by_duty m t a d rest).life x) (memory_by m t a d (Cell x i))
  cells_after here x i =
      let Fits : Life → Type 0 = λ l. CellFits l (memory_by m t a d (Cell x i)) in
      elim (life_step d x here) [
        | GoesOn now other ↦ subst Fits (sym now) (cell_goes_on x i (m.life x) here refl (here.core.cells x i))
        | BeginsToDie now alive positive none ↦ subst Fits (sym now) tt
        | IsClosed now dying positive ended ↦
            subst Fits (sym now) (stays_empty x i here
            (λ live. let wrong : Dying t ≡ Live = sym dying ∙ live in cc) (ended_cell d x i here ended))
        | IsBorn now unborn above born none ↦ subst Fits (sym now) tt
      ]

  -- ---- cells past an object's number of cells

  -- They stay empty.
  pub cells_end_after : AtDuty p n m t a d rest → (x i : ℕ) → cells_of (memory_by m t a d (KindOf x)) ≤ i
      → memory_by m t a d (Cell x i) ≡ 0
  cells_end_after here x i past =
      let was : cells_of (m.memory (KindOf x)) ≤ i = elim (stored_at_duty d here x) [
        | inl none ↦ subst (λ (w : ℕ). cells_of w ≤ i) (sym none) (omega arith)
        | inr same ↦ subst (λ (w : ℕ). cells_of w ≤ i) same past
      ] in
      still_empty m t a d x i (past_unfilled d x i here was) (here.core.cells_end x i was)
