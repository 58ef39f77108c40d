use Rattle.std.proofs.Common.{◌+◌, ◌*◌}
use Rattle.brc_c_flow.proofs.building.Builder.+statement.Given as goal

-- A statement has its parts with one less. At the same depth a loop has a body, and this is a statement.

abbrev pub decreases-statement : goal.decreases-statement
decreases-statement l = 4 * l.depth

abbrev pub decreases-block : goal.decreases-block
decreases-block l = 4 * l.depth + 1

abbrev pub decreases-if_statement : goal.decreases-if_statement
decreases-if_statement l = 4 * l.depth + 1

abbrev pub decreases-loop_body : goal.decreases-loop_body
decreases-loop_body l = 4 * l.depth + 1

abbrev pub decreases-while_statement : goal.decreases-while_statement
decreases-while_statement l = 4 * l.depth + 2

abbrev pub decreases-do_statement : goal.decreases-do_statement
decreases-do_statement l = 4 * l.depth + 2

abbrev pub decreases-for_statement : goal.decreases-for_statement
decreases-for_statement l = 4 * l.depth + 2

abbrev pub decreases-switch_statement : goal.decreases-switch_statement
decreases-switch_statement l = 4 * l.depth + 2

abbrev pub decreases-dividing_statement : goal.decreases-dividing_statement
decreases-dividing_statement l = 4 * l.depth + 3
