-- Each call of those before has its owned rows alone.
use Rattle.std.proofs.Common.{◌≡◌, ◌+◌, ◌<◌, ◌≤◌, ◌++◌, length}
use Rattle.std.specs.Prelude.{map, take, drop}
use Rattle.std.specs.Vec.{vec_capacity}
use Rattle.brc_lang.specs.Limits.{depth_limit}
use Rattle.brc_model.specs.Actions.{given_up}
use Rattle.brc_check.specs.Tables.{states_of}
use Rattle.brc_world.specs.OpenCalls.{calls_around, rows_of}
use Rattle.brc_world.proofs.Stopping.{each_owned, EachKnown}
use Rattle.brc_world.proofs.claim_and_stop.keep_owned.Given as goal

abbrev pub invariant-loop-index : goal.invariant-loop-index
invariant-loop-index l =
    let functions = l.checked.module.functions in
    let states = states_of l.checked.module l.checked.table in
    let calls = l.outer-inside.calls in
    record {
      count : length calls.items ≡ l.count;
      few : length calls.items < depth_limit;
      room : depth_limit ≤ 1 + vec_capacity calls;
      known : EachKnown functions states l.number (drop l.index calls.items);
      given : given_up functions states l.first l.fn.outer
          ≡ map rows_of (calls_around
          (take l.index calls.items ++ each_owned functions states l.number (drop l.index calls.items)));
    }
