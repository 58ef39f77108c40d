use Rattle.brc_world.specs.Worlds.{model_of}
use Rattle.brc_command.proofs.Traced.{on_err, begins_at, trace_begun, trace_written, tally_there, report_written, report_begun}
use Rattle.brc_command.proofs.tracing.write_traced.Goals as goal

pub returns-in_err-trace-clause-begun : goal.returns-in_err-trace-clause-begun
returns-in_err-trace-clause-begun g c =
    let m = c.args.checked.now in
    let s = c.args.schedule.now in
    on_err c.from_residual-in_err-trace.result (trace_begun c.args.paint m s (model_of c.in_ok-world.world) _ _
    (begins_at m s _ _ c.in_ok-world.ensures c.requires.found) c.in_err-trace.ensures.begun)

pub returns-in_err-tally-clause-begun : goal.returns-in_err-tally-clause-begun
returns-in_err-tally-clause-begun g c =
    let m = c.args.checked.now in
    let s = c.args.schedule.now in
    on_err c.from_residual-in_err-tally.result (trace_written c.args.paint m s (model_of c.in_ok-world.world) _ _
    (begins_at m s _ _ c.in_ok-world.ensures c.requires.found) c.in_ok-trace.ensures.whole)

pub returns-in-Ok-clause-whole : goal.returns-in-Ok-clause-whole
returns-in-Ok-clause-whole g c =
    let m = c.args.checked.now in
    let s = c.args.schedule.now in
    let first = begins_at m s _ _ c.in_ok-world.ensures c.requires.found in
    report_written c.args.paint m s (model_of c.in_ok-world.world) _ _ _ c.in_ok-tally.tally first
    c.in_ok-trace.ensures.whole
    (tally_there m s (model_of c.in_ok-world.world) (model_of c.trace.new.world) c.in_ok-tally.tally first
    c.in_ok-trace.ensures.made c.in_ok-tally.ensures.counted)
    c.in-Ok.ensures.whole

pub returns-clause-begun : goal.returns-clause-begun
returns-clause-begun g c =
    let m = c.args.checked.now in
    let s = c.args.schedule.now in
    let first = begins_at m s _ _ c.in_ok-world.ensures c.requires.found in
    report_begun c.args.paint m s (model_of c.in_ok-world.world) _ _ _ c.in_ok-tally.tally first
    c.in_ok-trace.ensures.whole
    (tally_there m s (model_of c.in_ok-world.world) (model_of c.trace.new.world) c.in_ok-tally.tally first
    c.in_ok-trace.ensures.made c.in_ok-tally.ensures.counted)
    c.in-Err.ensures.begun
