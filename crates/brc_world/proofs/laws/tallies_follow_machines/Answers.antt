use Rattle.brc_model.specs.Progress.{BornOnce, BornListed, BornAreThere, BornAreUsed, UsedAreBorn}
use Rattle.brc_model.specs.Progress.{ClosedWereBorn, ClosedOnce, GatesTell}
use Rattle.brc_model.specs.Safety.{IsSafeNow}
use Rattle.brc_model.specs.World.{world_of}
use Rattle.brc_world.proofs.MachineTallying.{at_machine, is_reachable, tally_same}
use Rattle.brc_world.proofs.laws.tallies_follow_machines.Goals as goal

pub returns : goal.returns
returns c = λ p m of.
    let small = c.worlds_are_small.ensures in
    let reachable = is_reachable p m of in
    tally_same m (record {
      some_rows = small.some_rows p (world_of m) reachable;
      workers = small.workers p (world_of m) reachable;
      used = at_machine BornAreUsed p m of (c.born_rows_are_used.ensures p of.fits of.accepted);
      born = at_machine UsedAreBorn p m of (c.used_rows_are_born.ensures p of.fits of.accepted);
      listed = at_machine BornListed p m of (c.born_rows_are_listed.ensures p of.fits of.accepted);
      there = at_machine BornAreThere p m of (c.born_rows_are_there.ensures p of.fits of.accepted);
      born_once = at_machine BornOnce p m of (c.an_object_is_born_once.ensures p of.fits of.accepted);
      were_born = at_machine ClosedWereBorn p m of (c.closed_rows_were_born.ensures p of.fits of.accepted);
      closed_once = at_machine ClosedOnce p m of (c.a_row_is_finalised_once.ensures p of.fits of.accepted);
      gates = at_machine GatesTell p m of (c.gates_tell_what_is_closed.ensures p of.fits of.accepted);
      kinds = (at_machine IsSafeNow p m of (c.accepted_is_safe.ensures p of.fits of.accepted).runs).kinds;
    })
