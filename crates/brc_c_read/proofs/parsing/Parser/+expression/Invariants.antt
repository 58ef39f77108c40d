use Rattle.std.proofs.Common.{◌+◌, ◌*◌}
use Rattle.brc_c_read.proofs.parsing.Parser.+expression.Given as goal

-- Inside a parenthesis one less may be open. At the same depth an expression has operands, and these have calls.

abbrev pub decreases-expression : goal.decreases-expression
decreases-expression l = 4 * l.depth + 3

abbrev pub decreases-operand : goal.decreases-operand
decreases-operand l = 4 * l.depth + 2

abbrev pub decreases-call : goal.decreases-call
decreases-call l = 4 * l.depth + 1

abbrev pub decreases-parenthesized : goal.decreases-parenthesized
decreases-parenthesized l = 4 * l.depth

abbrev pub decreases-argument : goal.decreases-argument
decreases-argument l = 4 * l.depth

abbrev pub decreases-index : goal.decreases-index
decreases-index l = 4 * l.depth
