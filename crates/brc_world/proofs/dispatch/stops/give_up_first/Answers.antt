use Rattle.std.proofs.Common.{arith}
use Rattle.brc_world.proofs.dispatch.stops.give_up_first.Goals as goal

-- Some variable names a row, so the first one does.
pub overflow_cast-first : goal.overflow_cast-first
overflow_cast-first c = let low = c.first_named-first.ensures.low c.requires.some in omega (arith, low)

pub new-variable-requires : goal.new-variable-requires
new-variable-requires c = c.first_named-first.ensures.low c.requires.some
