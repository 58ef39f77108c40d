use Rattle.std.proofs.Common.{true}
use Rattle.brc_explain.proofs.Named.{none_more, none_named}
use Rattle.brc_explain.proofs.refused.function_named.Goals as goal

pub loop-function-preserved : goal.loop-function-preserved
loop-function-preserved c =
    none_more c.args.functions.now c.args.name.now c.loop-function.function-index c.function-item.result
    c.loop-function.invariant c.loop-function-test.true c.function-item.is
    (λ same. let named = c.is_named.ensures.1 same in let other = c.if-is_named.false in absurd cc)

pub returns : goal.returns
returns c =
    none_named c.args.functions.now c.args.name.now c.loop-function.function-index c.loop-function-test.false
    c.loop-function.invariant
