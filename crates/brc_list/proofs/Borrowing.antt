-- The item that a hand has just seen in a cell of its locked list is borrowed.
use Rattle.std.proofs.Common.{◌≡◌, ℕ, suc, ◌≤◌, Bool, true, [], ◌∷◌, Option, None, Some, refl, ap, ◌∙◌, arith}
use Rattle.std.specs.Prelude.{◌==◌, ◌&&◌, if◌then◌else◌}
use Rattle.std.proofs.lemmas.Bool.{eq-eqb}
use Rattle.std.proofs.lemmas.List.Sums.{fold-append}
use Rattle.brc_model.specs.declared.address.Address.TheVariants.{Gate, Cell}
use Rattle.brc_model.specs.Layout.{row_count}
use Rattle.brc_model.specs.Machine.{same_address}
use Rattle.brc_table.specs.declared.view.View.{View}
use Rattle.brc_model.specs.declared.event.WordEvent.{WordEvent}
use Rattle.brc_table.specs.Views.{view_after, loading_cell}
use Rattle.brc_table.specs.KnownWords.{cell_known}
use Rattle.brc_table.specs.Hands.{Borrows}

-- A step on the cell shows what it left there.
shown : (list cell : ℕ) (known : Option ℕ) (e : WordEvent) → same_address e.address (Cell list cell) ≡ true
    → cell_known list cell known e ≡ Some e.left
shown list cell known e same =
    ap (λ (b : Bool). if b then Some e.left else if same_address e.address (Gate list) then None else known) same

same_cell : (list cell : ℕ) → same_address (Cell list cell) (Cell list cell) ≡ true
same_cell list cell =
    ap (λ (b : Bool). b && (cell == cell)) (eq-eqb list list refl) ∙ eq-eqb cell cell refl

-- The hand has loaded the cell, which has the item.
pub item_borrowed : (v : View) (list cell x : ℕ) → v.actor.locked ≡ Some list → suc x ≤ row_count v.layout
    → Borrows (view_after (loading_cell v list cell) (suc x)) x
item_borrowed v list cell x locked there =
    let event : WordEvent = record { address = Cell list cell; found = suc x; left = suc x } in
    record {
      list = list;
      cell = cell;
      locked = locked;
      seen =
          fold-append (cell_known list cell) None v.trace (event ∷ [])
          ∙ shown list cell _ event (same_cell list cell);
      there = omega (arith, there);
    }
