use Rattle.std.proofs.Common.{◌++◌, refl, ap, sym}
use Rattle.std.specs.List.{flat_map}
use Rattle.brc_report.proofs.Writing.{stops_early, stops_late}
use Rattle.brc_report.specs.Report.{counts_text, left_text}
use Rattle.brc_report.proofs.report.write_tally.Goals as goal

pub returns-in_err-write_counts-clause-begun : goal.returns-in_err-write_counts-clause-begun
returns-in_err-write_counts-clause-begun g c =
    stops_early _ _ _ _ (counts_text c.args.tally.now) (flat_map left_text c.args.tally.now.left) refl
    c.in_err-write_counts.ensures.begun

pub returns-clause-begun : goal.returns-clause-begun
returns-clause-begun g c =
    stops_late _ _ _ _ _ (counts_text c.args.tally.now) (flat_map left_text c.as_slice.result.now)
    (ap (λ l. counts_text c.args.tally.now ++ flat_map left_text l) (sym c.as_slice.ensures))
    c.in_ok-write_counts.ensures.whole c.write_lefts.ensures.begun
