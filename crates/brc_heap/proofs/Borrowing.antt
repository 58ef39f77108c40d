-- What a hand borrows stays borrowed over a heap's call.
use Rattle.std.proofs.Common.{ℕ, ◌<◌, sym, ◌∙◌, subst}
use Rattle.brc_model.specs.declared.layout.Layout.{Layout}
use Rattle.brc_model.specs.Layout.{row_count}
use Rattle.brc_table.specs.declared.view.View.{View}
use Rattle.brc_table.specs.Hands.{Borrows}
use Rattle.brc_heap.specs.Calls.{WorksAt}

pub borrows_still : (x y : ℕ) (v u : View) → WorksAt x v u → Borrows v y → Borrows u y
borrows_still x y v u keeps borrowed = record {
  list = borrowed.list;
  cell = borrowed.cell;
  locked = keeps.locked ∙ borrowed.locked;
  seen = keeps.cells borrowed.list borrowed.cell borrowed.locked ∙ borrowed.seen;
  there = subst (λ (l : Layout). y < row_count l) (sym keeps.layout) borrowed.there;
}
