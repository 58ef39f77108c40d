use Rattle.brc_explore.proofs.Callable.{calls_all, calls_more}
use Rattle.brc_explore.proofs.possible.are_calls.Goals as goal

pub loop-call-preserved : goal.loop-call-preserved
loop-call-preserved c =
    calls_more c.args.module.now c.args.calls.now c.loop-call.call-index _ c.loop-call-test.true c.loop-call.invariant
    (c.is_call.ensures c.if-not-is_call.false)

pub returns : goal.returns
returns c = λ yes.
    calls_all c.args.module.now c.args.calls.now c.loop-call.call-index c.loop-call-test.false c.loop-call.invariant
