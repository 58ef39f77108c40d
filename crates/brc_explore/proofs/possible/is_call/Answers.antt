use Rattle.std.proofs.Common.{◌∙◌, sym, arith}
use Rattle.brc_explore.proofs.Callable.{call_is}
use Rattle.brc_explore.proofs.possible.is_call.Goals as goal

pub returns : goal.returns
returns c = λ yes.
    call_is c.args.module.now c.as_slice.result.now c.args.call.now c.in-Some.function.now c.as_slice.ensures
    c.in-Some.ensures.lookup.3.0 c.in-Some.ensures.lookup.1 (sym c.len.ensures ∙ c.if-len-ne0.false) (omega arith)
    c.if-call-gt-MOST_TIMES.false
