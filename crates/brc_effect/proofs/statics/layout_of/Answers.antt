-- A module has at most 16 lists of 64 numbers.
use Rattle.std.proofs.Common.{arith}
use Rattle.brc_effect.proofs.FewNumbers.{few_numbers}
use Rattle.brc_effect.proofs.statics.layout_of.Goals as goal

pub overflow_cast-immortal_lists : goal.overflow_cast-immortal_lists
overflow_cast-immortal_lists c = rw c.as_slice-statics.ensures (omega (arith, c.requires.few))

pub value_count-numbers-requires : goal.value_count-numbers-requires
value_count-numbers-requires c =
    rw c.as_slice-statics.ensures (few_numbers c.args.module.now c.args.workers c.args.rows c.requires)

pub overflow_cast-numbers : goal.overflow_cast-numbers
overflow_cast-numbers c =
    rw (c.value_count-numbers.ensures, c.as_slice-statics.ensures)
    (omega (arith, few_numbers c.args.module.now c.args.workers c.args.rows c.requires))
