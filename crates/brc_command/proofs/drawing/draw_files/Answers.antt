use Rattle.std.proofs.Common.{subst, sym}
use Rattle.brc_command.specs.Loading.{ReadsAsModule, ReadsAsSchedule}
use Rattle.brc_command.proofs.GivenTexts.{later, step_reason}
use Rattle.brc_command.proofs.Leaving.{trace_left, trace_reported}
use Rattle.brc_command.proofs.drawing.draw_files.Goals as goal

pub returns-in-Ok-clause-reported : goal.returns-in-Ok-clause-reported
returns-in-Ok-clause-reported g c =
    let gives = g.L.Load.may_give c.args.load.now in
    let read = subst (ReadsAsModule gives c.args.file.now) (sym c.as_slice.ensures.value)
    c.in_ok-module.ensures.loaded in
    let planned : ReadsAsSchedule gives c.args.schedule.now c.as_slice-2.result.now =
    later _ gives c.args.schedule.now c.as_slice-2.result.now c.in_ok-module.ensures.gives_no_more
    (subst (ReadsAsSchedule _ c.args.schedule.now) (sym c.as_slice-2.ensures.value) c.in_ok-schedule.ensures.loaded) in
    trace_reported gives c.args.file.now c.args.schedule.now c.as_slice.result.now c.as_slice-2.result.now _ _
    read planned (c.read_standard_input_twice.ensures.apart c.if-read_standard_input_twice.false)
    c.args.paint c.in-Ok.ensures.traced

pub returns-clause-stopped : goal.returns-clause-stopped
returns-clause-stopped g c =
    let gives = g.L.Load.may_give c.args.load.now in
    let read = subst (ReadsAsModule gives c.args.file.now) (sym c.as_slice.ensures.value)
    c.in_ok-module.ensures.loaded in
    let planned : ReadsAsSchedule gives c.args.schedule.now c.as_slice-2.result.now =
    later _ gives c.args.schedule.now c.as_slice-2.result.now c.in_ok-module.ensures.gives_no_more
    (subst (ReadsAsSchedule _ c.args.schedule.now) (sym c.as_slice-2.ensures.value) c.in_ok-schedule.ensures.loaded) in
    step_reason gives c.args.file.now c.args.schedule.now c.as_slice.result.now c.as_slice-2.result.now read planned
    (g.L.Load.may_lack c.args.load.now) c.in-Err.fault c.in-Err.ensures.fault

pub returns-clause-left : goal.returns-clause-left
returns-clause-left g c =
    let gives = g.L.Load.may_give c.args.load.now in
    let read = subst (ReadsAsModule gives c.args.file.now) (sym c.as_slice.ensures.value)
    c.in_ok-module.ensures.loaded in
    let planned : ReadsAsSchedule gives c.args.schedule.now c.as_slice-2.result.now =
    later _ gives c.args.schedule.now c.as_slice-2.result.now c.in_ok-module.ensures.gives_no_more
    (subst (ReadsAsSchedule _ c.args.schedule.now) (sym c.as_slice-2.ensures.value) c.in_ok-schedule.ensures.loaded) in
    trace_left gives c.args.file.now c.args.schedule.now c.as_slice.result.now c.as_slice-2.result.now _ _
    read planned (c.read_standard_input_twice.ensures.apart c.if-read_standard_input_twice.false)
    c.args.paint c.in-Err.fault c.in-Err.ensures.left
