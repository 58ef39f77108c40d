use Rattle.std.proofs.Common.{ap, sym, ◌∙◌}
use Rattle.brc_c_store.specs.Registers.{union_of, others_of}
use Rattle.brc_c_paths.proofs.Differences.{others_of_others, difference_of_none}
use Rattle.brc_c_paths.proofs.registers.difference.Goals as goal

pub returns : goal.returns
returns c =
    c.others-2.ensures
    ∙ ap others_of (c.union.ensures ∙ ap (λ s. union_of s c.args.others) c.others.ensures)
    ∙ others_of_others c.args.set c.args.others

pub returns-then-is_empty : goal.returns-then-is_empty
returns-then-is_empty c = difference_of_none c.args.set c.args.others (sym c.if-is_empty.ensures)
