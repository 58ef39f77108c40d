-- The lines so far are written.
use Rattle.std.specs.Prelude.{take}
use Rattle.std.specs.List.{flat_map}
use Rattle.std.specs.Io.KnownBytes.{Appends}
use Rattle.brc_lang.specs.Grammar.{line}
use Rattle.brc_report.specs.Report.{entry}
use Rattle.brc_report.proofs.report.write_counts.Given as goal

abbrev pub invariant-loop-label : goal.invariant-loop-label
invariant-loop-label g l =
    Appends (g.W.Write.contents l.initial.writer) (g.W.Write.contents l.writer)
    (flat_map (λ c. line (entry c.0.now c.1)) (take l.label-index l.counts))
