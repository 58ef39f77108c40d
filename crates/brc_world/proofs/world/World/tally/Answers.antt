use Rattle.std.proofs.Common.{refl, sym, ap, ◌∙◌, arith}
use Rattle.std.proofs.lemmas.Grind.{common_steps}
use Rattle.brc_world.specs.Worlds.{model_of}
use Rattle.brc_machine.specs.MachineTallies.{still_runs}
use Rattle.brc_world.specs.Tallies.{tally_of}
use Rattle.brc_world.specs.Actors.{actor_of}
use Rattle.brc_machine.proofs.MachineTallying.{count_over}
use Rattle.brc_world.proofs.Tallying.{born_there, tally_as}
use Rattle.brc_world.proofs.world.World.tally.Goals as goal

pub left_of-requires : goal.left_of-requires
left_of-requires c = rw (c.deref.ensures.value, c.in_ok-born.ensures)
    (born_there (model_of c.args.self.now) (omega arith))

pub overflow_sub-result : goal.overflow_sub-result
overflow_sub-result c =
    let some = c.worlds_are_small.ensures.some_threads _ _ c.self.invariant.reachable in
    grind (arith, common_steps, some)

pub returns-clause-counted : goal.returns-clause-counted
returns-clause-counted c =
    tally_as (model_of c.args.self.now) c.len.result c.running_in.result c.len-2.result c.saturating_sub.result
    c.len-5.result c.self.inside.faults.calls c.self.inside.faults.closes c.in_ok-left.left c.in_ok-born.born.items
    (rw (sym c.self.view_is) (grind (arith, common_steps)))
    (rw (sym c.self.view_is) (c.running_in.ensures
    ∙ (rw c.deref-2.ensures.value (count_over still_runs actor_of c.self.inside.threads.items))))
    c.in_ok-born.ensures
    (grind (arith, common_steps))
    (rw c.deref.ensures.value at c.in_ok-left.ensures)
    (rw (c.saturating_sub.ensures, c.len-3.ensures, c.len-4.ensures, c.len-2.ensures) refl)
    c.len-5.ensures
    (rw (sym c.self.view_is) refl)
    (rw (sym c.self.view_is) refl)

pub returns-clause-machine : goal.returns-clause-machine
returns-clause-machine c = λ p m of is.
    returns-clause-counted c ∙ ap tally_of (sym is) ∙ c.tallies_follow_machines.ensures p m of
