use Rattle.std.proofs.Common.{Option, subst, sym, rules}
use Rattle.brc_command.specs.declared.step_fault.StepFault.{StepFault}
use Rattle.brc_command.specs.Loading.{ReadsAsModule}
use Rattle.brc_command.specs.WrongRuns.{IsFoundBy}
use Rattle.brc_command.proofs.RunsFound.{leaves_nothing, leaves_found, leaves_beginning}
use Rattle.brc_command.proofs.explaining_runs.explain_run.Goals as goal

pub returns-then-is_err-clause-left : goal.returns-then-is_err-clause-left
returns-then-is_err-clause-left g c =
    let gives = g.L.Load.may_give c.args.load.now in
    leaves_beginning gives c.args.file.now c.as_slice.result.now c.args.bounds.workers c.args.bounds.rows
    (subst (ReadsAsModule gives c.args.file.now) (sym c.as_slice.ensures.value) c.in_ok-bytes.ensures.loaded)
    c.in-Ok.field-0.fault c.in-Ok.field-0.text.items _ _ c.in-Ok.ensures.found (search rules)

pub returns-in-Some-clause-left : goal.returns-in-Some-clause-left
returns-in-Some-clause-left g c =
    let gives = g.L.Load.may_give c.args.load.now in
    leaves_found gives c.args.file.now c.as_slice.result.now c.args.bounds.workers c.args.bounds.rows
    (subst (ReadsAsModule gives c.args.file.now) (sym c.as_slice.ensures.value) c.in_ok-bytes.ensures.loaded)
    c.in-Some.fault c.in-Ok.field-0.text.items _ _
    (subst (λ (f : Option StepFault). IsFoundBy c.as_slice.result.now c.args.bounds.workers c.args.bounds.rows f
    c.in-Ok.field-0.text.items) c.in-Some.is c.in-Ok.ensures.found) (search rules)

pub returns-clause-left : goal.returns-clause-left
returns-clause-left g c =
    let gives = g.L.Load.may_give c.args.load.now in
    leaves_nothing gives c.args.file.now c.as_slice.result.now c.args.bounds.workers c.args.bounds.rows
    (subst (ReadsAsModule gives c.args.file.now) (sym c.as_slice.ensures.value) c.in_ok-bytes.ensures.loaded)
    c.in-Err.fault _ _ c.in-Err.ensures.nothing (search rules)
