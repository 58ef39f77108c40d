use Rattle.std.proofs.Common.{◌∙◌}
use Rattle.brc_c_paths.specs.Registers.{difference_of}
use Rattle.brc_c_paths.proofs.stepping.lost_items.Goals as goal

pub returns : goal.returns
returns c =
    c.difference.ensures
    ∙ λ i. difference_of
    ((c.difference-lost.ensures ∙ λ j. difference_of (c.items_of.ensures j) (c.items_of-2.ensures j)) i)
    (c.owned.ensures i)
