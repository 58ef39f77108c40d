use Rattle.std.proofs.Common.{rules, tests, ◌∙◌}
use Rattle.std.proofs.lemmas.Iterator.{YieldsList-from_slice}
use Rattle.std.proofs.lemmas.Iterator.Search.{any_from_yields_List}
use Rattle.brc_model.specs.AbstractState as model
use Rattle.brc_plain.specs.declared.bag.Reference.{Reference}
use Rattle.brc_plain.specs.Bags.{holder_in}
use Rattle.brc_plain.proofs.Bags.{any_in}
use Rattle.brc_plain.proofs.bag.Bag.holds_by_cells.Goals as goal

pub returns : goal.returns
returns c =
    let row = c.args.row in
    let bag = c.args.self.now.references.items in
    any_from_yields_List (λ (r : Reference). model.is_cell_of row (holder_in r.holder)) _ _ c.any.result
    c.any.ensures.ran (YieldsList-from_slice bag (cc)) (λ x b q k. search (rules, tests))
    ∙ any_in (λ (r : model.Reference). model.is_cell_of row r.holder) bag
