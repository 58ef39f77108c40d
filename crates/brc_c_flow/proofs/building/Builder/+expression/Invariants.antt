use Rattle.std.proofs.Common.{◌+◌, ◌*◌}
use Rattle.brc_c_flow.proofs.building.Builder.+expression.Given as goal

-- A value and a condition ask their operands with one less. At the same depth a call has arguments, and these values.

abbrev pub decreases-value : goal.decreases-value
decreases-value l = 3 * l.depth

abbrev pub decreases-condition : goal.decreases-condition
decreases-condition l = 3 * l.depth

abbrev pub decreases-inside_of : goal.decreases-inside_of
decreases-inside_of l = 3 * l.depth

abbrev pub decreases-place_passed : goal.decreases-place_passed
decreases-place_passed l = 3 * l.depth

abbrev pub decreases-parts : goal.decreases-parts
decreases-parts l = 3 * l.depth + 1

abbrev pub decreases-argument : goal.decreases-argument
decreases-argument l = 3 * l.depth + 1

abbrev pub decreases-assertion : goal.decreases-assertion
decreases-assertion l = 3 * l.depth + 1

abbrev pub decreases-undecided : goal.decreases-undecided
decreases-undecided l = 3 * l.depth + 1

abbrev pub decreases-truth : goal.decreases-truth
decreases-truth l = 3 * l.depth + 2

abbrev pub decreases-choose : goal.decreases-choose
decreases-choose l = 3 * l.depth + 2

abbrev pub decreases-assign : goal.decreases-assign
decreases-assign l = 3 * l.depth + 2

abbrev pub decreases-call : goal.decreases-call
decreases-call l = 3 * l.depth + 2
