-- The file gives a text that reads as the bytes do, and their fault is the reason.
use Rattle.std.proofs.Common.{sym, subst}
use Rattle.brc_command.specs.Commands.{IsModuleReason}
use Rattle.brc_command.specs.Loading.{ReadsAsModule}
use Rattle.brc_command.proofs.GivenTexts.{module_reason, stopped_by}
use Rattle.brc_command.proofs.carrying.checked_file.Goals as goal

pub returns-in_err-checked-clause-stopped : goal.returns-in_err-checked-clause-stopped
returns-in_err-checked-clause-stopped g c =
    let gives = g.L.Load.may_give c.args.load.now in
    let lacks = g.L.Load.may_lack c.args.load.now in
    let fault = c.in_err-checked.field-0.0 in
    stopped_by (IsModuleReason gives lacks c.args.file.now) c.from_residual-in_err-checked.result fault
    c.from_residual-in_err-checked.ensures.1
    (module_reason gives lacks c.args.file.now c.as_slice.result.now
    (subst (ReadsAsModule gives c.args.file.now) (sym c.as_slice.ensures.value) c.in_ok-bytes.ensures.loaded)
    fault c.in_err-checked.ensures)
