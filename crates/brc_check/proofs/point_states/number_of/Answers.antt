use Rattle.std.proofs.Common.{ap, ◌∙◌}
use Rattle.brc_check.specs.Tables.{point_of}
use Rattle.brc_check.proofs.Lookups.{behind_found, behind_replaced}
use Rattle.brc_check.proofs.point_states.number_of.Goals as goal

pub returns-then-kept-number-clause-number : goal.returns-then-kept-number-clause-number
returns-then-kept-number-clause-number c =
    behind_found c.args.kept.now c.args.at c.loop-number.number c.index-kept-number.result c.loop-number.invariant
    c.loop-number-test.true c.index-kept-number.is (ap point_of c.index-kept-number.is ∙ c.if-kept-number.true)

pub returns-then-kept-number-clause-replaced : goal.returns-then-kept-number-clause-replaced
returns-then-kept-number-clause-replaced c =
    behind_replaced c.args.kept.now c.args.at c.loop-number.number c.index-kept-number.result c.loop-number.invariant
    c.loop-number-test.true c.index-kept-number.is (ap point_of c.index-kept-number.is ∙ c.if-kept-number.true)
