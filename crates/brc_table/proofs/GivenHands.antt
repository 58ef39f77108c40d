-- Main's hand is still as its plain fields say after it has given out a worker's hand.
use Rattle.std.proofs.Common.{◌≡◌, ℕ, ◌≤◌, false, List, Option, length, ap, ◌∙◌, arith}
use Rattle.brc_model.specs.Layout.{root_row}
use Rattle.brc_table.specs.declared.view.View.{View}
use Rattle.brc_table.specs.Views.{RowsAreThere, HasSpares, IsGivenBy, giving}
use Rattle.brc_table.specs.Spares.{is_spent_for}
use Rattle.brc_table.specs.Giving.{MayGive}
use Rattle.brc_table.proofs.Picked.{count_less}

-- The rows that main names are still there.
pub giving_there : (v : View) (t : ℕ) → RowsAreThere v → RowsAreThere (giving v t)
giving_there v t rows = record {
  few = rows.few;
  thread = rows.thread;
  used = rows.used;
  main = rows.main;
  held = λ x held. rows.held x (omega (arith, held, count_less root_row x v.references));
  agenda = rows.agenda;
  aside = rows.aside;
  work = rows.work;
  head = rows.head;
  cells = rows.cells;
  locked = rows.locked;
  unfinalised = rows.unfinalised;
  kinds = rows.kinds;
}

-- The spare of a worker whose hand main may give out is there, and not spent.
module _ {A : Type 0} (spares : List (Option A)) (main : View) (t : ℕ) (long : HasSpares spares main)
    (says : IsGivenBy spares main) (may : MayGive main t) where
  pub spare_there : t ≤ length spares
  spare_there = omega (arith, long may.is_main, may.known_worker)

  pub spare_left : is_spent_for spares t ≡ false
  spare_left = says t ∙ may.not_given

-- A pair's two parts.
pub parts : {A B : Type 0} (pair : A × B) (a : A) (b : B) → pair ≡ (a, b) → (pair.0 ≡ a) × (pair.1 ≡ b)
parts {A} {B} pair a b is = (ap {A = A × B} (λ z. z.0) is, ap {A = A × B} (λ z. z.1) is)
