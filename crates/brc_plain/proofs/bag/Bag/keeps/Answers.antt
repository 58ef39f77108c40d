use Rattle.std.proofs.Common.{ℕ, List, rules, tests, ap, ◌∙◌}
use Rattle.std.specs.Prelude.{◌==◌, ◌&&◌}
use Rattle.std.specs.List.{list_any}
use Rattle.std.proofs.lemmas.Iterator.{YieldsList-from_slice}
use Rattle.std.proofs.lemmas.Iterator.Search.{any_from_yields_List}
use Rattle.brc_plain.specs.declared.bag.Reference.{Reference}
use Rattle.brc_plain.specs.Bags.{bag_in, holder_in}
use Rattle.brc_plain.specs.Lost.{is_open_cell, keeps}
use Rattle.brc_plain.proofs.Bags.{any_in}
use Rattle.brc_plain.proofs.bag.Bag.keeps.Goals as goal

pub returns : goal.returns
returns c =
    let row = c.args.row in
    let bag = c.args.self.now in
    let references = bag.references.items in
    let closed = c.as_slice-closed.result.now in
    any_from_yields_List (λ (r : Reference). (r.object == row) && is_open_cell closed (holder_in r.holder)) _ _
    c.any.result c.any.ensures.ran (YieldsList-from_slice references (cc)) (λ x b q k. search (rules, tests))
    ∙ ap (λ (those : List ℕ). list_any (λ (r : Reference). (r.object == row) && is_open_cell those (holder_in r.holder))
    references) c.as_slice-closed.ensures.value
    ∙ any_in (keeps (bag_in bag) row) references
