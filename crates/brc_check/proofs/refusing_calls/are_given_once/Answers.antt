use Rattle.std.proofs.Common.{sym, ◌∙◌, arith}
use Rattle.brc_check.proofs.Calls.{given_all}
use Rattle.brc_check.proofs.refusing_calls.are_given_once.Goals as goal

pub returns : goal.returns
returns c =
    sym (given_all c.args.arguments.now c.loop-number.number (omega arith)) ∙ c.loop-number.invariant
