use Rattle.brc_bench.proofs.LockedSwaps.{after_lock, may_put}
use Rattle.brc_bench.proofs.swaps.locked_swap.Goals as goal

pub swap_item-requires-clause-puts : goal.swap_item-requires-clause-puts
swap_item-requires-clause-puts c =
    may_put c.loop.held (after_lock c.try_lock.new.hand c.try_lock.result c.loop.invariant.0 c.try_lock.ensures.table
    c.try_lock.ensures.keeps c.try_lock.ensures.fields c.try_lock.ensures.locked c.if-try_lock.true)
