use Rattle.std.proofs.Common.{List, Option, sym, ap, ◌∙◌, arith}
use Rattle.std.specs.Prelude.{None, slice_set, ℕ}
use Rattle.brc_work.proofs.Entering.{stolen_all}
use Rattle.brc_work.proofs.variables.keep.Goals as goal

pub returns : goal.returns
returns c =
    c.name-2.ensures.named
    ∙ ap (λ (rs : List (Option ℕ)). slice_set rs c.args.to None)
    (sym (stolen_all c.loop-argument.rows c.args.arguments.now c.loop-argument.argument-index (omega arith))
    ∙ c.loop-argument.invariant)
