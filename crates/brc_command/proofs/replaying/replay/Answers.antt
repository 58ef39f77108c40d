use Rattle.std.proofs.Common.{ℕ, sym, subst}
use Rattle.brc_command.specs.Loading.{ReadsAsModule, ReadsAsSchedule}
use Rattle.brc_command.specs.WholeRuns.{EndsWithReport, StopsAt}
use Rattle.brc_command.proofs.GivenTexts.{later}
use Rattle.brc_command.proofs.Reasons.{replay_reason}
use Rattle.brc_command.proofs.Rerunning.{as_ended, files_hold, files_wrong}
use Rattle.brc_command.proofs.replaying.replay.Goals as goal

pub returns-in-Ok-clause-ended : goal.returns-in-Ok-clause-ended
returns-in-Ok-clause-ended g c =
    let gives = g.L.Load.may_give c.args.load.now in
    let read = subst (ReadsAsModule gives c.args.file.now) (sym c.as_slice-text.ensures.value)
    c.in_ok-module_text.ensures.loaded in
    let planned : ReadsAsSchedule gives c.args.schedule.now c.as_slice-plan.result.now =
    later _ gives c.args.schedule.now c.as_slice-plan.result.now c.in_ok-module_text.ensures.gives_no_more
    (subst (ReadsAsSchedule _ c.args.schedule.now) (sym c.as_slice-plan.ensures.value)
    c.in_ok-schedule_text.ensures.loaded) in
    let apart = c.read_standard_input_twice.ensures.apart c.if-read_standard_input_twice.false in
    as_ended (files_hold gives c.args.file.now c.args.schedule.now _ _ read planned
    (EndsWithReport c.args.trace _ _) apart)
    (files_wrong gives c.args.file.now c.args.schedule.now _ _ read planned)
    (λ (number : ℕ). files_hold gives c.args.file.now c.args.schedule.now _ _ read planned (StopsAt number) apart)
    c.in-Ok.ending c.in-Ok.ensures.ended

pub returns-clause-stopped : goal.returns-clause-stopped
returns-clause-stopped g c =
    let gives = g.L.Load.may_give c.args.load.now in
    let read = subst (ReadsAsModule gives c.args.file.now) (sym c.as_slice-text.ensures.value)
    c.in_ok-module_text.ensures.loaded in
    let planned : ReadsAsSchedule gives c.args.schedule.now c.as_slice-plan.result.now =
    later _ gives c.args.schedule.now c.as_slice-plan.result.now c.in_ok-module_text.ensures.gives_no_more
    (subst (ReadsAsSchedule _ c.args.schedule.now) (sym c.as_slice-plan.ensures.value)
    c.in_ok-schedule_text.ensures.loaded) in
    replay_reason gives (g.L.Load.may_lack c.args.load.now) c.args.file.now c.args.schedule.now
    c.as_slice-text.result.now c.as_slice-plan.result.now read planned c.in-Err.fault c.in-Err.ensures.fault
