use Rattle.std.proofs.Common.{inr, arith}
use Rattle.brc_lang.proofs.Parameters.{too_many}
use Rattle.brc_lang.proofs.heading.parameters.Goals as goal

pub returns-then-len-most-clause-err : goal.returns-then-len-most-clause-err
returns-then-len-most-clause-err c =
    inr (too_many c.args.most c.args.text.now c.loop-rest.parameters c.in-Some.text
    (rw c.in-Some.is at c.loop-rest.invariant)
    (omega (arith, c.if-len-most.true, c.len.ensures, c.loop-rest.invariant.few)))
