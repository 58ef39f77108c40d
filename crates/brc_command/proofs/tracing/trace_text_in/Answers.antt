use Rattle.brc_command.proofs.Machines.{tally_of_machine}
use Rattle.brc_command.proofs.Traced.{traced_to}
use Rattle.brc_command.proofs.tracing.trace_text_in.Goals as goal

pub returns-clause-traced : goal.returns-clause-traced
returns-clause-traced g c =
    let m = c.in_ok-ready.ready.checked in
    let s = c.in_ok-ready.ready.schedule in
    let ready = c.in_ok-ready.ensures.ready in
    traced_to c.write_traced.result c.args.paint c.args.module.now c.args.schedule.now m s _ _ ready
    (tally_of_machine c.runs_follow_machines.ensures c.tallies_follow_machines.ensures c.args.module.now
    c.args.schedule.now m s ready)
    c.write_traced.ensures.whole
