use Rattle.std.proofs.Common.{codes, refl}
use Rattle.brc_report.proofs.Writing.{stops_early, stops_late}
use Rattle.brc_report.specs.Report.{entry}
use Rattle.brc_report.proofs.report.write_count.Goals as goal

pub returns-in_err-write_entry-clause-begun : goal.returns-in_err-write_entry-clause-begun
returns-in_err-write_entry-clause-begun g c =
    stops_early _ _ _ _ (entry c.args.label.now c.args.count) (codes "\n") refl c.in_err-write_entry.ensures.begun

pub returns-clause-begun : goal.returns-clause-begun
returns-clause-begun g c =
    stops_late _ _ _ _ _ (entry c.args.label.now c.args.count) (codes "\n") refl c.in_ok-write_entry.ensures.whole
    c.write_bytes.ensures.begun
