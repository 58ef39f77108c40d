use Rattle.std.proofs.Common.{◌≡◌, false, length, sym, ap, ◌∙◌, arith}
use Rattle.brc_world.specs.OpenCalls.{holds_rows}
use Rattle.brc_world.proofs.Giving.{stuck_stopped}
use Rattle.brc_world.proofs.dispatch.stops.go_on_stopping.Goals as goal

-- A thread whose calls hold nothing is stuck.
pub returns-in-None-2 : goal.returns-in-None-2
returns-in-None-2 c =
    let none : holds_rows c.args.thread.now.variables c.args.thread.now.outer ≡ false =
    sym c.holds_some.ensures ∙ c.if-holds_some.false in
    rw c.in-None-2.is
    (stuck_stopped c.args.thread.now none
    (omega (arith, c.requires.room, c.args.thread.now.agenda.ok.0, ap length c.requires.empty)))
