use Rattle.std.proofs.Common.{◌++◌, ◌∙◌, ℕ, List, [], Bor, suc, take, drop, get_or, ap, refl, sym}
use Rattle.std.specs.List.{flat_map}
use Rattle.brc_lang.specs.Grammar.{line}
use Rattle.brc_report.proofs.Writing.{stops_between, flat_map_around}
use Rattle.brc_report.specs.Report.{entry}
use Rattle.brc_report.proofs.report.write_counts.Goals as goal

abbrev count_line : Bor (List ℕ) × ℕ → List ℕ
count_line c = line (entry c.0.now c.1)

pub returns-in_err-write_count-clause-begun : goal.returns-in_err-write_count-clause-begun
returns-in_err-write_count-clause-begun g c =
    let counts = c.args.counts.now in
    let i = c.loop-label.label-index in
    let none : Bor (List ℕ) × ℕ = (record { ref_ptr = (0, 0); now = [] }, 0) in
    let count = get_or counts i none in
    let front = flat_map count_line (take i counts) in
    let back = flat_map count_line (drop (suc i) counts) in
    stops_between _ _ _ _ _ front (line (entry c.as_bytes.result.now count.1)) back
    (flat_map_around count_line counts i none count c.loop-label-test.true refl
    ∙ ap (λ l. front ++ line (entry l count.1) ++ back) (sym c.as_bytes.ensures.value))
    c.loop-label.invariant c.in_err-write_count.ensures.begun
