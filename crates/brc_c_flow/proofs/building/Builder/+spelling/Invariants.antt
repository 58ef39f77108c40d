use Rattle.std.proofs.Common.{◌+◌, ◌*◌}
use Rattle.brc_c_flow.proofs.building.Builder.+spelling.Given as goal

-- An expression spells its operands with one less.

abbrev pub decreases-spell : goal.decreases-spell
decreases-spell l = 4 * l.depth

abbrev pub decreases-spell_operand : goal.decreases-spell_operand
decreases-spell_operand l = 4 * l.depth + 1

abbrev pub decreases-spell_list : goal.decreases-spell_list
decreases-spell_list l = 4 * l.depth + 1

abbrev pub decreases-spell_postfix : goal.decreases-spell_postfix
decreases-spell_postfix l = 4 * l.depth + 2

abbrev pub decreases-spell_parts : goal.decreases-spell_parts
decreases-spell_parts l = 4 * l.depth + 3
