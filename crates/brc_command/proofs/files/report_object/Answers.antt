use Rattle.std.proofs.Common.{ℕ, List, ◌++◌, option_map, inl, inr, refl}
use Rattle.std.specs.Borrow.{Bor}
use Rattle.brc_command.specs.declared.files.Format.TheVariants.{Json}
use Rattle.brc_command.specs.Files.{IsObject, IsSomeObject, IsWriteReason, IsOutcome, prefix}
use Rattle.brc_command.specs.Findings.{finding_status}
use Rattle.brc_command.specs.Lines.{stop_text}
use Rattle.brc_command.proofs.FilesWritten.{reported, stopped}
use Rattle.brc_command.proofs.Outputs.{begun_anyway}
use Rattle.brc_command.proofs.files.report_object.Goals as goal

pub returns-in-Ok-clause-written : goal.returns-in-Ok-clause-written
returns-in-Ok-clause-written g c =
    let gives = g.L.Load.may_give c.args.load.now in
    let lacks = g.L.Load.may_lack c.args.load.now in
    let file = c.args.file.now in
    let only = option_map (λ (name : Bor (List ℕ)). name.now) c.args.function in
    let whole = c.in-Ok.ensures.whole in
    rw whole.1
    (reported file _ _ _ _ (IsObject gives lacks file only whole.0)
    (IsOutcome gives lacks c.args.named (Json c.args.function)) (finding_status whole.0)
    (λ report is. inl (whole.0, record { whole = is; silent = refl; same_status = refl })) whole.2 refl)

pub returns-in-Err-clause-written : goal.returns-in-Err-clause-written
returns-in-Err-clause-written g c =
    let gives = g.L.Load.may_give c.args.load.now in
    let lacks = g.L.Load.may_lack c.args.load.now in
    let file = c.args.file.now in
    let only = option_map (λ (name : Bor (List ℕ)). name.now) c.args.function in
    let stop = c.in-Err.stop in
    rw c.status.ensures.exact
    (stopped file _ _ _ _ (IsSomeObject gives lacks file only)
    (IsOutcome gives lacks c.args.named (Json c.args.function)) c.args.named IsWriteReason stop
    (λ report text is. inr is) c.in-Err.ensures.stopped c.in-Err.ensures.left
    (begun_anyway c.write_named_stop.result _ _ (prefix c.args.named file ++ stop_text stop)
    c.write_named_stop.ensures.whole c.write_named_stop.ensures.begun))
