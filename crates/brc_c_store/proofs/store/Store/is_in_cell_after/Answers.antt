use Rattle.std.proofs.Common.{◌∙◌, ap, rules, tests}
use Rattle.std.specs.List.{list_any}
use Rattle.std.proofs.lemmas.Iterator.{YieldsList-from_slice}
use Rattle.std.proofs.lemmas.Iterator.Adapters.{YieldsList-from_skip}
use Rattle.std.proofs.lemmas.Iterator.Search.{any_from_yields_List}
use Rattle.brc_c_store.specs.declared.cell.Touched.{Touched}
use Rattle.brc_c_store.specs.Values.{has_object}
use Rattle.brc_c_store.proofs.CellsInTurn.{cells_after}
use Rattle.brc_c_store.proofs.store.Store.is_in_cell_after.Goals as goal

pub returns : goal.returns
returns c =
    let cells = c.args.self.now.cells.items in
    let has = λ (t : Touched). has_object t.value c.args.id in
    let rest =
    YieldsList-from_skip 1 (YieldsList-from_skip c.args.at (YieldsList-from_slice cells cc) (cc)) cc in
    any_from_yields_List has _ _ _ c.any.ensures.ran rest (λ x b q k. search (rules, tests))
    ∙ ap (list_any has) (cells_after c.args.at cells)
