use Rattle.std.proofs.Common.{suc, take, drop, get_or, refl}
use Rattle.std.specs.List.{flat_map}
use Rattle.brc_lang.specs.declared.kind.Kind.TheVariants.{None}
use Rattle.brc_report.proofs.Writing.{stops_between, flat_map_around}
use Rattle.brc_report.specs.declared.tally.Left.{Left}
use Rattle.brc_report.specs.Report.{left_text}
use Rattle.brc_report.proofs.report.write_lefts.Goals as goal

pub returns-in_err-write_left-clause-begun : goal.returns-in_err-write_left-clause-begun
returns-in_err-write_left-clause-begun g c =
    let lefts = c.args.lefts.now in
    let i = c.loop-left.left-index in
    let none : Left = record { row = 0; kind = None } in
    let left = get_or lefts i none in
    stops_between _ _ _ _ _ (flat_map left_text (take i lefts)) (left_text left)
    (flat_map left_text (drop (suc i) lefts))
    (flat_map_around left_text lefts i none left c.loop-left-test.true refl)
    c.loop-left.invariant c.in_err-write_left.ensures.begun
