use Rattle.std.proofs.Common.{Option, subst, sym, rules}
use Rattle.brc_command.specs.declared.step_fault.StepFault.{StepFault}
use Rattle.brc_command.specs.Loading.{ReadsAsSchedule}
use Rattle.brc_command.specs.ScheduleExplanations.{IsScheduleExplained}
use Rattle.brc_command.proofs.SchedulesExplained.{explains, reason, leaves_fault}
use Rattle.brc_command.proofs.explaining_schedules.explain_schedule_file.Goals as goal

pub returns-then-is_err-clause-left : goal.returns-then-is_err-clause-left
returns-then-is_err-clause-left g c =
    let gives = g.L.Load.may_give c.args.load.now in
    let says = g.X.Explain.says c.args.explainer.now c.args.paint in (
      c.in-Ok.field-0.fault,
      (
        c.in-Ok.field-0.text.items,
        explains says gives c.args.file.now c.as_slice.result.now
            (subst (ReadsAsSchedule gives c.args.file.now) (sym c.as_slice.ensures.value) c.in_ok-bytes.ensures.loaded)
            c.in-Ok.field-0.fault c.in-Ok.field-0.text.items c.in-Ok.ensures.explained,
        search rules,
      ),
    )

pub returns-in-Some-clause-stopped : goal.returns-in-Some-clause-stopped
returns-in-Some-clause-stopped g c =
    let gives = g.L.Load.may_give c.args.load.now in
    let says = g.X.Explain.says c.args.explainer.now c.args.paint in
    reason says gives c.args.file.now c.as_slice.result.now
    (subst (ReadsAsSchedule gives c.args.file.now) (sym c.as_slice.ensures.value) c.in_ok-bytes.ensures.loaded)
    (g.L.Load.may_lack c.args.load.now) c.in-Some.fault c.in-Ok.field-0.text.items
    (subst (λ (f : Option StepFault). IsScheduleExplained says c.as_slice.result.now f c.in-Ok.field-0.text.items)
    c.in-Some.is c.in-Ok.ensures.explained)

pub returns-in-Some-clause-left : goal.returns-in-Some-clause-left
returns-in-Some-clause-left g c =
    let gives = g.L.Load.may_give c.args.load.now in
    let says = g.X.Explain.says c.args.explainer.now c.args.paint in
    leaves_fault says gives c.args.file.now c.as_slice.result.now
    (subst (ReadsAsSchedule gives c.args.file.now) (sym c.as_slice.ensures.value) c.in_ok-bytes.ensures.loaded)
    c.in-Some.fault c.in-Ok.field-0.text.items _ _
    (subst (λ (f : Option StepFault). IsScheduleExplained says c.as_slice.result.now f c.in-Ok.field-0.text.items)
    c.in-Some.is c.in-Ok.ensures.explained) (search rules)
