use Rattle.std.proofs.Common.{◌++◌, inl, inr, refl}
use Rattle.brc_command.specs.declared.files.Format.TheVariants.{All as AllLines}
use Rattle.brc_command.specs.Commands.{IsModuleReason}
use Rattle.brc_command.specs.Files.{IsNamedLine, IsOutcome, prefix}
use Rattle.brc_command.specs.Lines.{stop_text}
use Rattle.brc_command.proofs.FilesWritten.{refused, reported, stopped}
use Rattle.brc_command.proofs.Outputs.{begun_anyway}
use Rattle.brc_command.proofs.files.check_functions.Goals as goal

pub returns-in-Ok-None-clause-written : goal.returns-in-Ok-None-clause-written
returns-in-Ok-None-clause-written g c =
    let gives = g.L.Load.may_give c.args.load.now in
    let lacks = g.L.Load.may_lack c.args.load.now in
    let file = c.args.file.now in
    reported file _ _ _ _ (IsNamedLine gives c.args.named file) (IsOutcome gives lacks c.args.named AllLines) 0
    (λ report is. inl (record { whole = is; silent = refl; same_status = refl }))
    (rw c.in-Ok-None.field-0-is at c.in-Ok-None.ensures.whole) refl

pub returns-in-Ok-Some-clause-written : goal.returns-in-Ok-Some-clause-written
returns-in-Ok-Some-clause-written g c =
    let gives = g.L.Load.may_give c.args.load.now in
    let lacks = g.L.Load.may_lack c.args.load.now in
    let file = c.args.file.now in
    let lines = c.in-Ok-Some.lines in
    let whole = rw c.in-Ok-Some.field-0-is at c.in-Ok-Some.ensures.whole in
    refused file _ _ _ _ (IsNamedLine gives c.args.named file) (IsOutcome gives lacks c.args.named AllLines) gives
    c.args.named lines.items (λ line is. inr (inr is)) whole.1 whole.0
    (rw c.as_slice.ensures.value at (begun_anyway c.write_bytes.result _ _ c.as_slice.result.now
    c.write_bytes.ensures.whole c.write_bytes.ensures.begun))

pub returns-in-Err-clause-written : goal.returns-in-Err-clause-written
returns-in-Err-clause-written g c =
    let gives = g.L.Load.may_give c.args.load.now in
    let lacks = g.L.Load.may_lack c.args.load.now in
    let file = c.args.file.now in
    let stop = c.in-Err.stop in
    rw c.status.ensures.exact
    (stopped file _ _ _ _ (IsNamedLine gives c.args.named file) (IsOutcome gives lacks c.args.named AllLines)
    c.args.named (IsModuleReason gives lacks file) stop (λ report text is. inr (inl is)) c.in-Err.ensures.stopped
    c.in-Err.ensures.left
    (begun_anyway c.write_named_stop.result _ _ (prefix c.args.named file ++ stop_text stop)
    c.write_named_stop.ensures.whole c.write_named_stop.ensures.begun))
