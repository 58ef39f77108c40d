use Rattle.std.proofs.Common.{sym, ◌∙◌, arith}
use Rattle.brc_machine.proofs.Arguments.{named_all}
use Rattle.brc_machine.proofs.variables.all_named.Goals as goal

pub returns : goal.returns
returns c =
    sym (named_all c.args.variables.now c.args.arguments.now c.loop-argument.argument-index (omega arith))
    ∙ c.loop-argument.invariant
