use Rattle.std.proofs.Common.{sym, ◌∙◌, arith}
use Rattle.brc_check.proofs.Calls.{stolen_all}
use Rattle.brc_check.proofs.variables.forget_stolen.Goals as goal

pub returns : goal.returns
returns c =
    sym (stolen_all c.loop-argument.state c.args.arguments.now c.loop-argument.argument-index (omega arith))
    ∙ c.loop-argument.invariant
