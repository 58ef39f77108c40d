use Rattle.std.proofs.Common.{◌++◌, inl, inr, refl}
use Rattle.brc_command.specs.declared.files.Format.TheVariants.{Text as InLines}
use Rattle.brc_command.specs.Commands.{IsModuleReason}
use Rattle.brc_command.specs.Files.{IsNamedLine, IsOutcome, prefix}
use Rattle.brc_command.specs.Lines.{stop_text}
use Rattle.brc_command.proofs.FilesWritten.{reported, stopped}
use Rattle.brc_command.proofs.Outputs.{begun_anyway}
use Rattle.brc_command.proofs.files.check_in_lines.Goals as goal

pub returns-in-Ok-clause-written : goal.returns-in-Ok-clause-written
returns-in-Ok-clause-written g c =
    let gives = g.L.Load.may_give c.args.load.now in
    let lacks = g.L.Load.may_lack c.args.load.now in
    let file = c.args.file.now in
    reported file _ _ _ _ (IsNamedLine gives c.args.named file) (IsOutcome gives lacks c.args.named InLines) 0
    (λ report is. inl (record { whole = is; silent = refl; same_status = refl })) c.in-Ok.ensures.whole refl

pub returns-in-Err-clause-written : goal.returns-in-Err-clause-written
returns-in-Err-clause-written g c =
    let gives = g.L.Load.may_give c.args.load.now in
    let lacks = g.L.Load.may_lack c.args.load.now in
    let file = c.args.file.now in
    let stop = c.in-Err.stop in
    rw c.status.ensures.exact
    (stopped file _ _ _ _ (IsNamedLine gives c.args.named file) (IsOutcome gives lacks c.args.named InLines)
    c.args.named (IsModuleReason gives lacks file) stop (λ report text is. inr is) c.in-Err.ensures.stopped
    c.in-Err.ensures.left
    (begun_anyway c.write_named_stop.result _ _ (prefix c.args.named file ++ stop_text stop)
    c.write_named_stop.ensures.whole c.write_named_stop.ensures.begun))
