use Rattle.brc_model.specs.World.{first_world}
use Rattle.brc_check.specs.Tables.{states_of}
use Rattle.brc_world.specs.Worlds.{model_of}
use Rattle.brc_world.specs.Runs.{events_of}
use Rattle.brc_command.specs.Calls.{calls_of}
use Rattle.brc_command.proofs.LastTally.{tally_of_last}
use Rattle.brc_command.proofs.stepping.last_tally.Goals as goal

pub returns : goal.returns
returns g c =
    let m = c.args.checked.now in
    let s = c.args.schedule.now in
    tally_of_last (first_world m.module (states_of m.module m.table) s.rows) c.args.calls.now
    (calls_of m.module s.calls) (events_of s.steps) (model_of c.in_ok-world.world)
    (model_of c.take_lines-taken.new.world) c.tally.result
    c.requires.found c.in_ok-world.ensures (rw c.as_slice.ensures at c.in_ok-taken.ensures) c.tally.ensures.counted
