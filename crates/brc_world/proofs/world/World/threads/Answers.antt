-- There is at least one thread, main.
use Rattle.std.proofs.Common.{arith}
use Rattle.std.proofs.lemmas.Grind.{common_steps}
use Rattle.brc_world.proofs.world.World.threads.Goals as goal

pub returns-clause-some : goal.returns-clause-some
returns-clause-some c =
    let some = c.worlds_are_small.ensures.some_threads _ _ c.self.invariant.reachable in
    grind (arith, common_steps, some)
