use Rattle.std.proofs.Common.{◌+◌, ◌*◌}
use Rattle.brc_c_read.proofs.parsing.Parser.+statement.Given as goal

-- Inside a statement one less may be nested.

abbrev pub decreases-statement : goal.decreases-statement
decreases-statement l = 4 * l.depth + 3

abbrev pub decreases-keyword_statement : goal.decreases-keyword_statement
decreases-keyword_statement l = 4 * l.depth + 2

abbrev pub decreases-if_statement : goal.decreases-if_statement
decreases-if_statement l = 4 * l.depth + 1

abbrev pub decreases-while_statement : goal.decreases-while_statement
decreases-while_statement l = 4 * l.depth + 1

abbrev pub decreases-do_statement : goal.decreases-do_statement
decreases-do_statement l = 4 * l.depth + 1

abbrev pub decreases-for_statement : goal.decreases-for_statement
decreases-for_statement l = 4 * l.depth + 1

abbrev pub decreases-switch_statement : goal.decreases-switch_statement
decreases-switch_statement l = 4 * l.depth + 1

abbrev pub decreases-block : goal.decreases-block
decreases-block l = 4 * l.depth + 1

abbrev pub decreases-nested : goal.decreases-nested
decreases-nested l = 4 * l.depth
