use Rattle.std.proofs.Common.{◌++◌, append_assoc, codes, decimal, refl}
use Rattle.std.proofs.KnownBytes.{Appends-trans}
use Rattle.brc_report.proofs.Writing.{stops_early, stops_between, stops_late}
use Rattle.brc_report.proofs.report.write_entry.Goals as goal

pub returns-in_err-write_bytes-clause-begun : goal.returns-in_err-write_bytes-clause-begun
returns-in_err-write_bytes-clause-begun g c =
    let label = c.args.label.now in
    stops_early _ _ _ _ label (codes " " ++ decimal c.args.number)
    (append_assoc label (codes " ") (decimal c.args.number)) c.in_err-write_bytes.ensures.begun

pub returns-in_err-write_bytes-2-clause-begun : goal.returns-in_err-write_bytes-2-clause-begun
returns-in_err-write_bytes-2-clause-begun g c =
    stops_between _ _ _ _ _ c.args.label.now (codes " ") (decimal c.args.number) refl c.in_ok-write_bytes.ensures.whole
    c.in_err-write_bytes-2.ensures.begun

pub returns-clause-begun : goal.returns-clause-begun
returns-clause-begun g c =
    let label = c.args.label.now in
    let opened =
    Appends-trans _ _ _ label (codes " ") c.in_ok-write_bytes.ensures.whole c.in_ok-write_bytes-2.ensures.whole in
    stops_late _ _ _ _ _ (label ++ codes " ") (decimal c.args.number) refl opened c.write_number.ensures.begun
