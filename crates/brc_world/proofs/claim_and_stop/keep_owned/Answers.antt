-- Each call of those before has its owned rows alone.
use Rattle.std.proofs.Common.{sym}
use Rattle.brc_check.specs.Tables.{states_of}
use Rattle.brc_world.proofs.Stopping.{each_known, owned_given}
use Rattle.brc_world.proofs.claim_and_stop.keep_owned.Goals as goal

pub loop-index-init : goal.loop-index-init
loop-index-init c =
    let functions = c.args.checked.now.module.functions in
    let states = states_of c.args.checked.now.module c.args.checked.now.table in
    let calls = c.outer.inside.calls.items in
    record {
      count = search;
      few = c.outer.invariant.0;
      room = c.outer.invariant.1;
      known = each_known functions states c.args.first calls (rw (sym c.outer.view_is) at c.requires);
      given = rw (sym c.outer.view_is) (sym (owned_given functions states c.args.first calls));
    }
